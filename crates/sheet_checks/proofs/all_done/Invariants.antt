-- `all_done` meets its contract: the numbers of references done that are left are right just where all are. Assumes nothing.
use Prim.Native.Nat.{◌-◌}
use lib.ListN.{length}
use Rattle.sheet_checks.proofs.SheetLaws.{EachLeft}
use Rattle.sheet_checks.proofs.PointLaws.{done_test}
use Rattle.sheet_checks.proofs.all_done.Given as goal

abbrev pub invariant-loop-at : goal.invariant-loop-at
invariant-loop-at l = EachLeft (done_test l.file l.sheet) l.file l.sheet l.at

abbrev pub decreases-loop-at : goal.decreases-loop-at
decreases-loop-at l = length l.sheet - l.at
