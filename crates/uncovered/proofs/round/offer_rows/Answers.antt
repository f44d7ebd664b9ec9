-- `round::offer_rows` meets its contract: after k turns all that the first k rows become is offered. Assumes nothing.
use mathlib.Core.Path.{◌≡◌, sym, ap, ◌∙◌}
use mathlib.Core.List.{[]}
use Prim.Native.Nat.{ℕ, ◌+◌, ◌-◌, ◌*◌, ◌≤◌}
use native.Mathlib.Omega.{arith}
use lib.ListN.{length, get_or, take, drop}
use Rattle.std.specs.Result.{is_err}
use Rattle.std.proofs.lemmas.Result.{err_from_is_err_and}
use Rattle.rows.specs.Rows.{rows_of}
use Rattle.rows.proofs.Parts.{row_within}
use Rattle.gather.proofs.Handing.{memory_for}
use Rattle.uncovered.proofs.News.{lent_wide, lent_is}
use Rattle.uncovered.proofs.Taking.{took_none, turn_more, turn_full, turn_end, row_taken, rows_taken}
use Rattle.uncovered.proofs.round.offer_rows.Invariants.{becomes}
use Rattle.uncovered.proofs.round.offer_rows.Goals as goal
use Rattle.uncovered.proofs.round.offer_rows.Goals.{In-loop-k}

-- where the row numbered k ends, and how wide it is
inside : (c : In-loop-k) → let w = length c.args.over.now in (w * c.loop-k.k + w ≤ 32 * w) × (w ≤ 32) × (length (take (w * c.loop-k.k + w - w * c.loop-k.k) (drop (w * c.loop-k.k) c.args.part.now)) ≡ w)
inside c = (omega (arith, row_within (length c.args.over.now) c.loop-k.k 32 (omega arith)), c.requires.4.width.narrow, lent_wide (length c.args.over.now) c.loop-k.k 32 c.args.part.now (omega arith) c.requires.1)

pub loop-k-init : goal.loop-k-init
loop-k-init c = (omega arith, took_none (length c.args.over.now) c.args.rows.now c.args.counts.now c.requires.4)

pub overflow_mul-at : goal.overflow_mul-at
overflow_mul-at c = omega (arith, (inside c).0, (inside c).1)

pub overflow_add-at : goal.overflow_add-at
overflow_add-at c = omega (arith, (inside c).0, (inside c).1)

pub offset_bounds-part-at : goal.offset_bounds-part-at
offset_bounds-part-at c = omega (arith, (inside c).0, (inside c).1)

pub slice_bounds-offer_row-end : goal.slice_bounds-offer_row-end
slice_bounds-offer_row-end c = omega (arith, (inside c).0, c.requires.1)

pub offer_row-requires : goal.offer_row-requires
offer_row-requires c = (c.requires.2, sym (inside (goal.at.offer_row-requires c).In-loop-k).2, c.requires.3 ∙ ap (λ (n : ℕ). 24 * n) (sym (inside (goal.at.offer_row-requires c).In-loop-k).2), memory_for (inside (goal.at.offer_row-requires c).In-loop-k).2 c.loop-k.invariant.1.memory)

pub returns-in_err-offer_row : goal.returns-in_err-offer_row
returns-in_err-offer_row c =
    let made = row_taken (length c.args.over.now) c.args.rank c.args.set c.args.blocks _ (get_or (rows_of (length c.args.over.now) c.args.count c.args.part.now) c.loop-k.k []) c.args.over.now c.args.entering.now c.loop-k.rows c.loop-k.counts
    (lent_is (length c.args.over.now) c.args.count c.loop-k.k c.args.part.now (omega arith)) (inside (goal.at.returns-in_err-offer_row c).In-loop-k).2 c.offer_row.ensures in
    rw (err_from_is_err_and c.from_residual.result c.from_residual.ensures.1).1 (rows_taken (length c.args.over.now) c.args.rank c.args.set c.args.blocks c.args.count c.args.part.now c.args.over.now c.args.entering.now c.args.rows.now c.args.counts.now
    (turn_full (length c.args.over.now) c.args.rows.now c.args.counts.now (becomes c.args.rank c.args.part.now c.args.count c.args.over.now c.args.set c.args.blocks c.args.entering.now) c.loop-k.k c.loop-k.invariant.1 made c.args.count (omega arith) (ap is_err c.in_err-offer_row.was)))

pub loop-k-preserved : goal.loop-k-preserved
loop-k-preserved c =
    let made = row_taken (length c.args.over.now) c.args.rank c.args.set c.args.blocks _ (get_or (rows_of (length c.args.over.now) c.args.count c.args.part.now) c.loop-k.k []) c.args.over.now c.args.entering.now c.loop-k.rows c.loop-k.counts
    (lent_is (length c.args.over.now) c.args.count c.loop-k.k c.args.part.now (omega arith)) (inside (goal.at.loop-k-preserved c).In-loop-k).2 c.offer_row.ensures in
    (omega arith, turn_more (length c.args.over.now) c.args.rows.now c.args.counts.now (becomes c.args.rank c.args.part.now c.args.count c.args.over.now c.args.set c.args.blocks c.args.entering.now) c.loop-k.k c.loop-k.invariant.1 made (ap is_err c.in_ok-offer_row.was))

pub returns : goal.returns
returns c =
    rows_taken (length c.args.over.now) c.args.rank c.args.set c.args.blocks c.args.count c.args.part.now c.args.over.now c.args.entering.now c.args.rows.now c.args.counts.now
    (turn_end (length c.args.over.now) c.args.rows.now c.args.counts.now (becomes c.args.rank c.args.part.now c.args.count c.args.over.now c.args.set c.args.blocks c.args.entering.now) c.loop-k.k c.loop-k.invariant.1 c.args.count (omega arith))
