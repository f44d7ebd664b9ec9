-- `replaced::join_rows` meets its contract: after k turns the row is one for the first k end rows. Assumes nothing.
use Prim.Native.Nat.{◌≤◌}
use Rattle.rows.specs.Rows.{rows_of}
use Rattle.row_sets.specs.Sets.{OneOfThem}
use Rattle.row_sets.proofs.replaced.join_rows.Given as goal

abbrev pub invariant-loop-k : goal.invariant-loop-k
invariant-loop-k l = (l.k ≤ l.count) × OneOfThem l.w (rows_of l.w l.k l.ends) l.one
