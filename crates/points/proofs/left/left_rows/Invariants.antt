-- `left::left_rows` meets its contract: after k turns the first k rows are overlaid. Assumes nothing.
use mathlib.Core.Path.{◌≡◌}
use Prim.Native.Nat.{◌*◌, ◌≤◌}
use lib.ListN.{length}
use Rattle.rows.specs.Rows.{rows_of}
use Rattle.points.specs.Points.{left_rows}
use Rattle.points.proofs.left.left_rows.Given as goal

abbrev pub invariant-loop-k : goal.invariant-loop-k
invariant-loop-k l = (l.k ≤ l.lived) × (length l.out ≡ 32 * length l.rest) × (rows_of (length l.rest) l.k l.out ≡ left_rows l.rest (rows_of (length l.rest) l.k l.live))
