-- `lanes::lay_lane` meets its contract: after c turns the first c numbers of the row are laid. Assumes nothing.
use mathlib.Core.Path.{◌≡◌}
use Prim.Native.Nat.{◌*◌, ◌≤◌}
use lib.ListN.{length}
use Rattle.row_sets.proofs.LaneLaws.{LaidRow, OthersKept}
use Rattle.row_sets.proofs.lanes.lay_lane.Given as goal

abbrev pub invariant-loop-c : goal.invariant-loop-c
invariant-loop-c l = (l.c ≤ length l.row) × (length l.lanes ≡ 32 * length l.row) × LaidRow l.c l.row l.l l.lanes × OthersKept l.l l.initial.lanes l.lanes
