-- `sort::insert_row` meets its contract: a turn moves the next row one place to the front, or finds the place of the row.
-- Assumes nothing.
use mathlib.Core.Path.{◌≡◌, sym, ap, ◌∙◌}
use Prim.Native.Nat.{◌+◌, ◌*◌, ◌≤◌}
use native.Mathlib.Omega.{arith}
use borrow.Author.Rules.{rules}
use lib.ListN.{length, length-take, length-drop}
use Rattle.model.specs.Order.{before}
use Rattle.rows.proofs.Parts.{lent_row, next_row}
use Rattle.sort.proofs.Insertion.{inside, lent_part, place_start_lem, once_start, place-last, place_here, place_turn, once_turn}
use Rattle.sort.proofs.insert_row.Goals as goal
use Rattle.sort.proofs.insert_row.Goals.{After-loop-k, In-loop-k}

-- where the row after row k ends, and where the last row ends
end : (c : In-loop-k) → let w = length c.args.row.now in w * c.loop-k.k + w + w ≤ length c.loop-k.rows
end c =
    let args = c.args in
    inside (args.others + 1) c.loop-k.k args.row.now c.loop-k.rows c.loop-k.invariant.1 (omega arith)

last_end : (c : After-loop-k) → let args = c.args in length args.row.now * args.others + length args.row.now ≡ length c.loop-k.rows
last_end c =
    let args = c.args in
    sym (c.loop-k.invariant.1 ∙ next_row (length args.row.now) args.others)

pub loop-k-init : goal.loop-k-init
loop-k-init c =
    let start = c in
    let args = start.args in
    (omega arith, start.requires.1, once_start args.others args.row.now args.rows.now start.requires.2, place_start_lem args.others args.row.now args.rows.now)

pub overflow_mul-at : goal.overflow_mul-at
overflow_mul-at c = omega (arith, end c)

pub overflow_add-next : goal.overflow_add-next
overflow_add-next c = omega (arith, end c)

pub overflow_add-next-in-loop-k : goal.overflow_add-next-in-loop-k
overflow_add-next-in-loop-k c = omega (arith, end c)

pub offset_bounds-rows-next : goal.offset_bounds-rows-next
offset_bounds-rows-next c = omega (arith, end c)

pub stands_before-requires : goal.stands_before-requires
stands_before-requires c = simp (length-take, length-drop) (omega (arith, end (goal.at.stands_before-requires c).In-loop-k))

pub overflow_add-at : goal.overflow_add-at
overflow_add-at c = omega (arith, end (goal.at.overflow_add-at c).In-loop-k)

pub offset_bounds-rows-at : goal.offset_bounds-rows-at
offset_bounds-rows-at c = omega (arith, end (goal.at.offset_bounds-rows-at c).In-loop-k)

pub copy_row-requires : goal.copy_row-requires
copy_row-requires c = (c.requires.0, simp (length-take, length-drop) (omega (arith, end (goal.at.copy_row-requires c).In-loop-k)))

pub returns-then-stands_before : goal.returns-then-stands_before
returns-then-stands_before c =
    let args = c.args in
    let at = c.loop-k in
    let next = length args.row.now * at.k + length args.row.now in
    lent_row (length args.row.now * at.k) at.rows args.row.now c.copy_row.ensures
    ∙ place_here (args.others + 1) at.k args.row.now at.rows at.invariant.1 (omega arith) (sym (c.stands_before.ensures ∙ ap (before args.row.now) (lent_part next (length args.row.now) at.rows)) ∙ c.if-stands_before.true)
    ∙ at.invariant.3

pub move_row-requires : goal.move_row-requires
move_row-requires c = (c.requires.0, end (goal.at.move_row-requires c).In-loop-k)

pub loop-k-preserved : goal.loop-k-preserved
loop-k-preserved c =
    let args = c.args in
    let at = c.loop-k in
    let next = length args.row.now * at.k + length args.row.now in
    let other = sym (c.stands_before.ensures ∙ ap (before args.row.now) (lent_part next (length args.row.now) at.rows)) ∙ c.if-stands_before.false in
    let moved = c.move_row.ensures in
    let kept = place_turn (args.others + 1) at.k args.row.now at.rows at.invariant.1 (omega arith) at.invariant.2 other in
    let once = once_turn (args.others + 1) at.k args.row.now at.rows at.invariant.1 (omega arith) at.invariant.2 other in
    (omega arith, search rules, rw moved once, rw moved kept ∙ at.invariant.3)

pub overflow_mul-last : goal.overflow_mul-last
overflow_mul-last c = omega (arith, last_end c)

pub overflow_add-last : goal.overflow_add-last
overflow_add-last c = omega (arith, last_end c)

pub offset_bounds-rows-last : goal.offset_bounds-rows-last
offset_bounds-rows-last c = omega (arith, last_end c)

pub copy_row-requires-2 : goal.copy_row-requires-2
copy_row-requires-2 c = (c.requires.0, simp (length-take, length-drop) (omega (arith, last_end (goal.at.copy_row-requires-2 c).After-loop-k)))

pub returns : goal.returns
returns c =
    let args = c.args in
    let at = c.loop-k in
    let last : at.k ≡ args.others = omega arith in
    let whole = place-last (args.others + 1) at.k args.row.now at.rows at.invariant.1 (omega arith) in
    lent_row (length args.row.now * args.others) at.rows args.row.now c.copy_row-2.ensures ∙ rw last at whole ∙ rw last at at.invariant.3
