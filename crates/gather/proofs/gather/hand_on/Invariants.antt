-- `gather::hand_on` meets its contract: the blocks of the set before the next one have the row that they get. Assumes nothing.
-- The idea: between a block of the set and the next one none is in the set.
use Prim.Native.Nat.{ℕ, ◌-◌, ◌≤◌}
use lib.ListN.{length}
use Rattle.gather.specs.Memory.{NextIn, Handed}
use Rattle.gather.proofs.gather.hand_on.Given as goal

abbrev pub invariant-loop-s : goal.invariant-loop-s
invariant-loop-s l =
    (from : ℕ) × (from ≤ l.blocks) × NextIn l.set from l.s × Handed (length l.left) l.set l.left l.entering from l.initial.rows l.initial.counts l.rows l.counts

abbrev pub decreases-loop-s : goal.decreases-loop-s
decreases-loop-s l = l.blocks - l.s
