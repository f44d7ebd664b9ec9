-- `round::offer_on` meets its contract: after s turns all is offered to those of the first s blocks that are in the set. Assumes nothing.
use mathlib.Core.Path.{ap}
use Prim.Native.Nat.{◌+◌, ◌*◌, ◌≤◌, ◌<◌}
use native.Mathlib.Omega.{arith}
use lib.ListN.{length, length-take, length-drop}
use Rattle.std.specs.Result.{is_err}
use Rattle.std.proofs.lemmas.Result.{err_from_is_err_and}
use Rattle.cache.proofs.Members.{in_word, out_word}
use Rattle.rows.proofs.Parts.{row_within}
use Rattle.uncovered.specs.Offers.{up_to, offer_on, of_rank}
use Rattle.uncovered.specs.Taken.{Took}
use Rattle.uncovered.proofs.Taking.{took_none, turn_skip, turn_more, turn_full, turn_end, rank_taken, at_block, no_block}
use Rattle.uncovered.proofs.round.offer_on.Goals as goal
use Rattle.uncovered.proofs.round.offer_on.Goals.{In-loop-s, else-set-s-ne0, then-set-s-ne0+in_ok-offer_to}

-- what is offered to a block, and the row of the block s
inside : (c : In-loop-s) → let w = length c.args.left.now in (w * c.loop-s.s + w ≤ 24 * w) × (w ≤ 32) × (c.loop-s.s < 24)
inside c =
    let below : c.loop-s.s < 24 = omega (arith, c.requires.0, c.loop-s-test.true) in
    (omega (arith, row_within (length c.args.left.now) c.loop-s.s 24 below), c.requires.2.width.narrow, below)

pub loop-s-init : goal.loop-s-init
loop-s-init c = (omega arith, took_none (length c.args.left.now) c.args.rows.now c.args.counts.now c.requires.2)

pub overflow_cast-s : goal.overflow_cast-s
overflow_cast-s c = omega (arith, inside c)

pub overflow_shl-s : goal.overflow_shl-s
overflow_shl-s c = omega (arith, inside c)

pub overflow_mul-at : goal.overflow_mul-at
overflow_mul-at c = omega (arith, inside (goal.at.overflow_mul-at c).In-loop-s)

pub overflow_add-at : goal.overflow_add-at
overflow_add-at c = omega (arith, inside (goal.at.overflow_add-at c).In-loop-s)

pub offset_bounds-entering-at : goal.offset_bounds-entering-at
offset_bounds-entering-at c = omega (arith, inside (goal.at.offset_bounds-entering-at c).In-loop-s)

pub slice_bounds-offer_to-end : goal.slice_bounds-offer_to-end
slice_bounds-offer_to-end c = omega (arith, inside (goal.at.slice_bounds-offer_to-end c).In-loop-s, c.requires.1)

pub offer_to-requires : goal.offer_to-requires
offer_to-requires c = ((inside (goal.at.offer_to-requires c).In-loop-s).2, simp (length-take, length-drop) (omega (arith, inside (goal.at.offer_to-requires c).In-loop-s, c.requires.1)), c.loop-s.invariant.1.memory)

pub returns-in_err-offer_to : goal.returns-in_err-offer_to
returns-in_err-offer_to c =
    rw (err_from_is_err_and c.from_residual.result c.from_residual.ensures.1).1 (rank_taken (length c.args.left.now) c.args.rank (offer_on (length c.args.left.now) c.args.set c.args.left.now c.args.entering.now) c.args.blocks c.args.rows.now c.args.counts.now
    (turn_full (length c.args.left.now) c.args.rows.now c.args.counts.now (λ i. of_rank c.args.rank (offer_on (length c.args.left.now) c.args.set c.args.left.now c.args.entering.now i)) c.loop-s.s c.loop-s.invariant.1
    (at_block (length c.args.left.now) c.args.rank c.args.set c.loop-s.s c.args.left.now c.args.entering.now (in_word 32 c.args.set c.loop-s.s (omega (arith, inside (goal.at.returns-in_err-offer_to c).In-loop-s)) c.if-set-s-ne0.true) c.offer_to.ensures) c.args.blocks c.loop-s-test.true (ap is_err c.in_err-offer_to.was)))

pub overflow_step-s : goal.overflow_step-s
overflow_step-s c = omega (arith, inside (goal.at.overflow_step-s c).In-loop-s)

pub loop-s-preserved : goal.loop-s-preserved
loop-s-preserved c =
    let low : c.loop-s.s < 32 = omega (arith, inside (goal.at.loop-s-preserved c).In-loop-s) in
    let next : Took (length c.args.left.now) (up_to (λ i. of_rank c.args.rank (offer_on (length c.args.left.now) c.args.set c.args.left.now c.args.entering.now i)) (c.loop-s.s + 1)) c.args.rows.now c.args.counts.now c.if-set-s-ne0.rows c.if-set-s-ne0.counts
    = elim c.if-set-s-ne0.branch [
      | then-set-s-ne0+in_ok-offer_to v ↦ rw (v.rows-is, v.counts-is)
          (turn_more (length c.args.left.now) c.args.rows.now c.args.counts.now (λ i. of_rank c.args.rank (offer_on (length c.args.left.now) c.args.set c.args.left.now c.args.entering.now i)) c.loop-s.s c.loop-s.invariant.1
          (at_block (length c.args.left.now) c.args.rank c.args.set c.loop-s.s c.args.left.now c.args.entering.now (in_word 32 c.args.set c.loop-s.s low v.if-set-s-ne0.true) v.offer_to.ensures) (ap is_err v.in_ok-offer_to.was))
      | else-set-s-ne0 v ↦ rw (v.rows-is, v.counts-is)
          (turn_skip (length c.args.left.now) c.args.rows.now c.args.counts.now (λ i. of_rank c.args.rank (offer_on (length c.args.left.now) c.args.set c.args.left.now c.args.entering.now i)) c.loop-s.s c.loop-s.invariant.1
          (no_block (length c.args.left.now) c.args.rank c.args.set c.loop-s.s c.args.left.now c.args.entering.now (out_word 32 c.args.set c.loop-s.s low v.if-set-s-ne0.false)))
    ] in
    (omega (arith, c.loop-s-test.true), next)

pub returns : goal.returns
returns c =
    rank_taken (length c.args.left.now) c.args.rank (offer_on (length c.args.left.now) c.args.set c.args.left.now c.args.entering.now) c.args.blocks c.args.rows.now c.args.counts.now
    (turn_end (length c.args.left.now) c.args.rows.now c.args.counts.now (λ i. of_rank c.args.rank (offer_on (length c.args.left.now) c.args.set c.args.left.now c.args.entering.now i)) c.loop-s.s c.loop-s.invariant.1 c.args.blocks (omega arith))
