-- `round::offer_on` meets its contract: after s turns all is offered to those of the first s blocks that are in the set. Assumes nothing.
use Prim.Native.Nat.{◌≤◌}
use lib.ListN.{length}
use Rattle.uncovered.specs.Offers.{up_to, offer_on, of_rank}
use Rattle.uncovered.specs.Taken.{Took}
use Rattle.uncovered.proofs.round.offer_on.Given as goal

abbrev pub invariant-loop-s : goal.invariant-loop-s
invariant-loop-s l =
    (l.s ≤ l.blocks) × Took (length l.left) (up_to (λ i. of_rank l.rank (offer_on (length l.left) l.set l.left l.entering i)) l.s) l.initial.rows l.initial.counts l.rows l.counts
