-- `useful::mark_lane` meets its contract: after l turns the first l sets have their bit. Assumes nothing.
use mathlib.Core.Path.{◌≡◌}
use Prim.Native.Nat.{ℕ, ◌≤◌, ◌<◌}
use lib.Bits.{bit_or}
use lib.ListN.{length, get_or}
use Rattle.row_sets.specs.Lanes.{marked_bit}
use Rattle.row_sets.proofs.useful.mark_lane.Given as goal

abbrev pub invariant-loop-l : goal.invariant-loop-l
invariant-loop-l l =
    (l.l ≤ l.lived) × (length l.sets ≡ 32) × ((k : ℕ) → k < l.l → get_or l.sets k 0 ≡ bit_or (get_or l.initial.sets k 0) (marked_bit l.x l.m l.bit (get_or l.lane k 0))) × ((k : ℕ) → l.l ≤ k → get_or l.sets k 0 ≡ get_or l.initial.sets k 0)
