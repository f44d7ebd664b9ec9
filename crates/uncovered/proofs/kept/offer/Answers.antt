-- `kept::offer` meets its contract: a row of another rank is not looked at, one that is within a kept row is not kept, and any other is appended. Assumes nothing.
use mathlib.Core.Path.{sym, ◌∙◌}
use Prim.Native.Nat.{◌+◌, ◌*◌, ◌≤◌}
use native.Mathlib.Omega.{arith}
use lib.ListN.{length, length-take, length-drop}
use Rattle.rows.proofs.Parts.{row_within}
use Rattle.uncovered.proofs.Taking.{other_rank, is_below, is-new, lent_rows}
use Rattle.uncovered.proofs.kept.offer.Goals as goal
use Rattle.uncovered.proofs.kept.offer.Goals.{Start}

inside : (c : Start) → let w = length c.args.row.now in (32 * w * c.args.s + 32 * w ≤ 24 * (32 * w)) × (w ≤ 32)
inside c = (omega (arith, row_within (32 * length c.args.row.now) c.args.s 24 c.requires.0), c.requires.1.width.narrow)

pub filled_row-requires : goal.filled_row-requires
filled_row-requires c = c.requires.1.width

pub returns-then-filled_row-rank : goal.returns-then-filled_row-rank
returns-then-filled_row-rank c = other_rank c.args.rank c.args.s c.args.row.now c.args.rows.now c.args.counts.now c.requires.0 c.requires.1 (λ e. c.if-filled_row-rank.true (c.filled_row.ensures ∙ e))

pub overflow_mul-at : goal.overflow_mul-at
overflow_mul-at c = omega (arith, inside (goal.at.overflow_mul-at c).Start)

pub overflow_add-at : goal.overflow_add-at
overflow_add-at c = omega (arith, inside (goal.at.overflow_add-at c).Start)

pub offset_bounds-rows-at : goal.offset_bounds-rows-at
offset_bounds-rows-at c = omega (arith, inside (goal.at.offset_bounds-rows-at c).Start)

pub slice_bounds-below_some-end : goal.slice_bounds-below_some-end
slice_bounds-below_some-end c = omega (arith, inside (goal.at.slice_bounds-below_some-end c).Start, c.requires.1.long)

pub below_some-requires : goal.below_some-requires
below_some-requires c = (c.requires.1.few c.args.s c.requires.0, c.requires.1.width, simp (length-take, length-drop) (omega (arith, inside (goal.at.below_some-requires c).Start, c.requires.1.long)))

pub returns-then-below_some : goal.returns-then-below_some
returns-then-below_some c =
    is_below c.args.rank c.args.s c.args.row.now c.args.rows.now c.args.counts.now c.requires.0 c.requires.1 (sym c.filled_row.ensures ∙ c.if-filled_row-rank.false)
    (sym (lent_rows (length c.args.row.now) c.args.rows.now c.args.counts.now c.args.s c.args.row.now) ∙ sym c.below_some.ensures ∙ c.if-below_some.true)

pub append_to-requires : goal.append_to-requires
append_to-requires c = (c.requires.0, c.requires.1)

pub returns-then-append_to : goal.returns-then-append_to
returns-then-append_to c =
    rw c.if-append_to.true at
    (is-new c.args.rank c.args.s c.args.row.now c.args.rows.now c.args.counts.now c.requires.0 c.requires.1 (sym c.filled_row.ensures ∙ c.if-filled_row-rank.false)
    (sym (lent_rows (length c.args.row.now) c.args.rows.now c.args.counts.now c.args.s c.args.row.now) ∙ sym c.below_some.ensures ∙ c.if-below_some.false) c.append_to.ensures)

pub returns : goal.returns
returns c =
    rw c.if-append_to.false at
    (is-new c.args.rank c.args.s c.args.row.now c.args.rows.now c.args.counts.now c.requires.0 c.requires.1 (sym c.filled_row.ensures ∙ c.if-filled_row-rank.false)
    (sym (lent_rows (length c.args.row.now) c.args.rows.now c.args.counts.now c.args.s c.args.row.now) ∙ sym c.below_some.ensures ∙ c.if-below_some.false) c.append_to.ensures)
