-- `kept::below_some` meets its contract: the row is within one of the rows that are left just where it is within one of all. Assumes nothing.
use mathlib.Core.Path.{◌≡◌}
use Prim.Native.Nat.{◌-◌, ◌*◌, ◌≤◌}
use lib.ListN.{length, drop}
use Rattle.rows.specs.Rows.{rows_of}
use Rattle.covered.specs.Covered.{within}
use Rattle.covered.specs.Rounds.{below_some}
use Rattle.uncovered.proofs.kept.below_some.Given as goal

abbrev pub invariant-loop-k : goal.invariant-loop-k
invariant-loop-k l =
    (l.k ≤ l.count) × (below_some within l.row (rows_of (length l.row) (l.count - l.k) (drop (length l.row * l.k) l.part)) ≡ below_some within l.row (rows_of (length l.row) l.count l.part))
