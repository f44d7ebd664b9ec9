-- `useful::useful_sets` meets its contract: after c turns each set is that of the first c cache blocks. Assumes nothing.
use mathlib.Core.Path.{◌≡◌}
use Prim.Native.Nat.{ℕ, ◌≤◌, ◌<◌}
use lib.ListN.{length, get_or}
use Rattle.cache.specs.Sets.{useful, bits}
use Rattle.rows.specs.Overlay.{overlay}
use Rattle.row_sets.specs.Lanes.{lane_row}
use Rattle.row_sets.proofs.useful.useful_sets.Given as goal

abbrev pub invariant-loop-c : goal.invariant-loop-c
invariant-loop-c l =
    (l.c ≤ length l.row) × (length l.sets ≡ 32) × ((k : ℕ) → k < l.lived → get_or l.sets k 0 ≡ bits l.c (useful l.row (overlay (lane_row (length l.row) l.lanes k) l.rest)))
