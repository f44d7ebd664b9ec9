-- `round::offer_rank` meets its contract: the first row is offered, and after b turns the rows of the first b blocks are handed on. Assumes nothing.
use mathlib.Core.Path.{◌≡◌, refl, sym, ap, ◌∙◌}
use Prim.Native.Nat.{ℕ, ◌+◌, ◌-◌, ◌*◌, ◌≤◌, ◌<◌}
use native.Mathlib.Omega.{arith}
use lib.ListN.{length, get_or, take, drop}
use Rattle.std.specs.Result.{is_err}
use Rattle.std.proofs.lemmas.Result.{err_from_is_err_and}
use Rattle.rows.proofs.Parts.{row_within}
use Rattle.gather.specs.Memory.{held_rows}
use Rattle.gather.specs.Gathered.{graph_meant}
use Rattle.gather.proofs.Handing.{part_at, memory_for}
use Rattle.uncovered.specs.Offers.{up_to, handed_from}
use Rattle.uncovered.proofs.News.{lent_wide}
use Rattle.uncovered.proofs.Taking.{took_none, turn_more, turn_full, turn_end, block_taken, rank_all, rank_none}
use Rattle.uncovered.proofs.round.offer_rank.Invariants.{becomes}
use Rattle.uncovered.proofs.round.offer_rank.Goals as goal
use Rattle.uncovered.proofs.round.offer_rank.Goals.{In-loop-b}

-- where the rows of block b end, and the row that is laid over them
inside : (c : In-loop-b) → let w = length c.args.graph.row.now in (32 * w * c.loop-b.b + 32 * w ≤ 24 * (32 * w)) × (w * c.loop-b.b + w ≤ 24 * w) × (w ≤ 32) × (c.loop-b.b < 24)
inside c =
    let w = length c.args.graph.row.now in
    let below : c.loop-b.b < 24 = omega (arith, c.requires.0.few, c.loop-b-test.true) in
    (omega (arith, row_within (32 * w) c.loop-b.b 24 below), omega (arith, row_within w c.loop-b.b 24 below), c.requires.0.width.narrow, below)

wide : (c : In-loop-b) → let w = length c.args.graph.row.now in length (take (w * c.loop-b.b + w - w * c.loop-b.b) (drop (w * c.loop-b.b) c.args.graph.leaving.now)) ≡ w
wide c = lent_wide (length c.args.graph.row.now) c.loop-b.b 24 c.args.graph.leaving.now (inside c).3 c.requires.0.leaves

pub overflow_mul-part : goal.overflow_mul-part
overflow_mul-part c = omega (arith, c.requires.0.width.narrow)

pub offer-requires : goal.offer-requires
offer-requires c = (omega (arith, c.requires.0.inside, c.requires.0.few), c.requires.2)

pub returns-in_err-offer : goal.returns-in_err-offer
returns-in_err-offer c =
    rw (err_from_is_err_and c.from_residual.result c.from_residual.ensures.1).1 (rank_none (length c.args.graph.row.now) c.args.rank (c.args.graph.first, c.args.graph.row.now) (up_to (handed_from (graph_meant c.args.graph) (held_rows (length c.args.graph.row.now) c.args.old.now c.args.held.now)) c.args.graph.blocks) c.args.rows.now c.args.counts.now (ap is_err c.in_err-offer.was) c.offer.ensures)

pub loop-b-init : goal.loop-b-init
loop-b-init c = (omega arith, took_none (length c.args.graph.row.now) _ _ c.offer.ensures.memory)

pub overflow_mul-at : goal.overflow_mul-at
overflow_mul-at c = omega (arith, inside c)

pub overflow_mul-over : goal.overflow_mul-over
overflow_mul-over c = omega (arith, inside c)

pub overflow_add-at : goal.overflow_add-at
overflow_add-at c = omega (arith, inside c)

pub offset_bounds-old-at : goal.offset_bounds-old-at
offset_bounds-old-at c = omega (arith, inside c)

pub slice_bounds-offer_rows-end : goal.slice_bounds-offer_rows-end
slice_bounds-offer_rows-end c = omega (arith, inside c, c.requires.1.long)

pub offset_bounds-held-b : goal.offset_bounds-held-b
offset_bounds-held-b c = omega (arith, inside (goal.at.offset_bounds-held-b c).In-loop-b)

pub bounds-held-b : goal.bounds-held-b
bounds-held-b c = omega (arith, inside (goal.at.bounds-held-b c).In-loop-b, c.requires.1.many, c.requires.0.each)

pub overflow_add-over : goal.overflow_add-over
overflow_add-over c = omega (arith, inside (goal.at.overflow_add-over c).In-loop-b)

pub offset_bounds-graph-over : goal.offset_bounds-graph-over
offset_bounds-graph-over c = omega (arith, inside (goal.at.offset_bounds-graph-over c).In-loop-b)

pub slice_bounds-offer_rows-end-in-loop-b : goal.slice_bounds-offer_rows-end-in-loop-b
slice_bounds-offer_rows-end-in-loop-b c = omega (arith, inside (goal.at.slice_bounds-offer_rows-end-in-loop-b c).In-loop-b, c.requires.0.leaves)

pub offset_bounds-graph-b : goal.offset_bounds-graph-b
offset_bounds-graph-b c = omega (arith, inside (goal.at.offset_bounds-graph-b c).In-loop-b)

pub bounds-graph-b : goal.bounds-graph-b
bounds-graph-b c = omega (arith, inside (goal.at.bounds-graph-b c).In-loop-b, c.requires.1.many, c.requires.0.each)

pub offer_rows-requires : goal.offer_rows-requires
offer_rows-requires c = (
  c.requires.1.few c.loop-b.b (inside (goal.at.offer_rows-requires c).In-loop-b).3,
  lent_wide (32 * length c.args.graph.row.now) c.loop-b.b 24 c.args.old.now (inside (goal.at.offer_rows-requires c).In-loop-b).3 c.requires.1.long ∙ ap (λ (n : ℕ). 32 * n) (sym (wide (goal.at.offer_rows-requires c).In-loop-b)),
  c.requires.0.few,
  c.requires.0.enters ∙ ap (λ (n : ℕ). 24 * n) (sym (wide (goal.at.offer_rows-requires c).In-loop-b)),
  memory_for (wide (goal.at.offer_rows-requires c).In-loop-b) c.loop-b.invariant.1.memory,
)

pub returns-in_err-offer_rows : goal.returns-in_err-offer_rows
returns-in_err-offer_rows c =
    rw (err_from_is_err_and c.from_residual-in_err-offer_rows.result c.from_residual-in_err-offer_rows.ensures.1).1 (rank_all (length c.args.graph.row.now) c.args.rank (c.args.graph.first, c.args.graph.row.now) (handed_from (graph_meant c.args.graph) (held_rows (length c.args.graph.row.now) c.args.old.now c.args.held.now)) c.args.graph.blocks c.args.rows.now c.args.counts.now (c.offer.ensures.all (ap is_err c.in_ok-offer.was))
    (turn_full (length c.args.graph.row.now) _ _ (becomes c.args.rank c.args.graph c.args.old.now c.args.held.now) c.loop-b.b c.loop-b.invariant.1 (block_taken (length c.args.graph.row.now) c.args.rank c.loop-b.b c.args.graph.blocks (get_or c.args.held.now c.loop-b.b 0) c.args.graph.sets.now c.args.graph.leaving.now c.args.graph.entering.now c.args.old.now c.args.held.now c.loop-b.rows c.loop-b.counts (get_or c.args.graph.sets.now c.loop-b.b 0) _ refl (part_at (length c.args.graph.row.now) c.loop-b.b c.args.graph.leaving.now) refl (wide (goal.at.returns-in_err-offer_rows c).In-loop-b) c.offer_rows.ensures) c.args.graph.blocks c.loop-b-test.true (ap is_err c.in_err-offer_rows.was)))

pub loop-b-preserved : goal.loop-b-preserved
loop-b-preserved c = (omega (arith, c.loop-b-test.true), turn_more (length c.args.graph.row.now) _ _ (becomes c.args.rank c.args.graph c.args.old.now c.args.held.now) c.loop-b.b c.loop-b.invariant.1 (block_taken (length c.args.graph.row.now) c.args.rank c.loop-b.b c.args.graph.blocks (get_or c.args.held.now c.loop-b.b 0) c.args.graph.sets.now c.args.graph.leaving.now c.args.graph.entering.now c.args.old.now c.args.held.now c.loop-b.rows c.loop-b.counts (get_or c.args.graph.sets.now c.loop-b.b 0) _ refl (part_at (length c.args.graph.row.now) c.loop-b.b c.args.graph.leaving.now) refl (wide (goal.at.loop-b-preserved c).In-loop-b) c.offer_rows.ensures) (ap is_err c.in_ok-offer_rows.was))

pub returns : goal.returns
returns c =
    rank_all (length c.args.graph.row.now) c.args.rank (c.args.graph.first, c.args.graph.row.now) (handed_from (graph_meant c.args.graph) (held_rows (length c.args.graph.row.now) c.args.old.now c.args.held.now)) c.args.graph.blocks c.args.rows.now c.args.counts.now (c.offer.ensures.all (ap is_err c.in_ok-offer.was))
    (turn_end (length c.args.graph.row.now) _ _ (becomes c.args.rank c.args.graph c.args.old.now c.args.held.now) c.loop-b.b c.loop-b.invariant.1 c.args.graph.blocks (omega arith))
