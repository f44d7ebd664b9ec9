-- `rows::append_row` meets its contract: it searches the rows, sees whether there is room, and stores the row after them. Assumes nothing.
use mathlib.Core.Path.{refl, sym, ◌∙◌}
use Prim.Native.Nat.{◌*◌}
use native.Mathlib.Omega.{arith}
use lib.ListN.{length}
use Rattle.rows.proofs.Parts.{row_within, lent_row}
use Rattle.rows.proofs.Answers.{answer_present, answer_full, answer-added}
use Rattle.rows.proofs.append_row.Goals as goal

pub returns-then-holds_row : goal.returns-then-holds_row
returns-then-holds_row c =
    let args = c.args in
    (answer_present args.part.now args.count args.row.now (sym c.holds_row.ensures ∙ c.if-holds_row.true), refl)

pub returns-then-count-ge32 : goal.returns-then-count-ge32
returns-then-count-ge32 c =
    let args = c.args in
    (answer_full args.part.now args.count args.row.now (sym c.holds_row.ensures ∙ c.if-holds_row.false) c.if-count-ge32.true, refl)

pub overflow_mul-at : goal.overflow_mul-at
overflow_mul-at c = omega (arith, row_within (length c.args.row.now) c.args.count 32 (omega arith))

pub overflow_add-at : goal.overflow_add-at
overflow_add-at c = omega (arith, row_within (length c.args.row.now) c.args.count 32 (omega arith))

pub offset_bounds-part-at : goal.offset_bounds-part-at
offset_bounds-part-at c = omega (arith, row_within (length c.args.row.now) c.args.count 32 (omega arith))

pub returns : goal.returns
returns c =
    let args = c.args in (
      answer-added args.part.now args.count args.row.now (sym c.holds_row.ensures ∙ c.if-holds_row.false) c.if-count-ge32.false,
      lent_row (length args.row.now * args.count) args.part.now args.row.now c.copy_row.ensures,
    )
