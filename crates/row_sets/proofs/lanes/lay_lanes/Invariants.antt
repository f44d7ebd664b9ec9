-- `lanes::lay_lanes` meets its contract: after l turns the first l rows are laid. Assumes nothing.
use mathlib.Core.Path.{◌≡◌}
use Prim.Native.Nat.{◌*◌, ◌≤◌}
use lib.ListN.{length}
use Rattle.row_sets.proofs.LaneLaws.{Laid}
use Rattle.row_sets.proofs.lanes.lay_lanes.Given as goal

abbrev pub invariant-loop-l : goal.invariant-loop-l
invariant-loop-l l = (l.l ≤ l.count) × (length l.lanes ≡ 32 * l.w) × Laid l.w l.l l.rows l.lanes
