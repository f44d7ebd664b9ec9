-- `all_unmasked` meets its contract: the points that are left avoid masked blocks just where all do. Assumes nothing.
use Prim.Native.Nat.{◌-◌}
use lib.ListN.{length}
use Rattle.sheet_checks.proofs.SheetLaws.{EachLeft}
use Rattle.sheet_checks.proofs.PointLaws.{mask_test}
use Rattle.sheet_checks.proofs.all_unmasked.Given as goal

abbrev pub invariant-loop-at : goal.invariant-loop-at
invariant-loop-at l = EachLeft (mask_test l.file l.sheet) l.file l.sheet l.at

abbrev pub decreases-loop-at : goal.decreases-loop-at
decreases-loop-at l = length l.sheet - l.at
