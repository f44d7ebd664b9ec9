-- `ends::join_task` meets its contract: the row is made of the end rows of the task, and stored where the row for them stands. Assumes nothing.
use mathlib.Core.Path.{refl, ap, ◌∙◌}
use mathlib.Core.List.{List}
use Prim.Native.Nat.{ℕ, ◌+◌, ◌*◌, ◌≤◌}
use native.Mathlib.Omega.{arith}
use lib.ListN.{length, replicate}
use lib.Seq.{length-take-le}
use Rattle.cache.specs.References.{nothing}
use Rattle.rows.proofs.Parts.{row_within, lent_first, lent_front, front_room}
use Rattle.row_sets.proofs.OneRow.{one_of-none}
use Rattle.file_pairs.proofs.EndLaws.{part_long, one_stored}
use Rattle.file_pairs.proofs.ends.join_task.Goals as goal
use Rattle.file_pairs.proofs.ends.join_task.Goals.{Start}

-- where the end rows of the task end, and the row for them
inside : (c : Start) → let w = c.args.w in (32 * w * c.args.j + 32 * w ≤ 8 * (32 * w)) × (w ≤ 32) × (w * c.args.j + w ≤ 8 * w)
inside c = (omega (arith, row_within (32 * c.args.w) c.args.j 8 c.requires.2), c.requires.0.narrow, omega (arith, row_within c.args.w c.args.j 8 c.requires.2))

pub overflow_mul-at : goal.overflow_mul-at
overflow_mul-at c = omega (arith, inside (goal.at.overflow_mul-at c).Start)

pub overflow_add-at : goal.overflow_add-at
overflow_add-at c = omega (arith, inside (goal.at.overflow_add-at c).Start)

pub offset_bounds-ends-at : goal.offset_bounds-ends-at
offset_bounds-ends-at c = omega (arith, inside (goal.at.offset_bounds-ends-at c).Start)

pub slice_bounds-join_rows-end : goal.slice_bounds-join_rows-end
slice_bounds-join_rows-end c = omega (arith, inside (goal.at.slice_bounds-join_rows-end c).Start, c.requires.1)

pub join_rows-mixed-requires : goal.join_rows-mixed-requires
unfolding nothing
join_rows-mixed-requires c =
    let start = c in
    let w = start.args.w in
    let empty : List ℕ = replicate 32 nothing in
    let wide = ap length (lent_first w empty) ∙ length-take-le w empty start.requires.0.narrow in
    (start.requires.3, start.requires.0, part_long w start.args.j start.args.ends.now start.requires.2 start.requires.1, one_of-none w 32 wide (lent_first w empty))

pub overflow_mul-from-2 : goal.overflow_mul-from-2
overflow_mul-from-2 c = omega (arith, inside (goal.at.overflow_mul-from-2 c).Start)

pub overflow_add-from : goal.overflow_add-from
overflow_add-from c = omega (arith, inside (goal.at.overflow_add-from c).Start)

pub slice_bounds-copy_row-end : goal.slice_bounds-copy_row-end
unfolding nothing
slice_bounds-copy_row-end c =
    let joined = c.join_rows-mixed in
    let empty : List ℕ = replicate 32 nothing in
    front_room c.args.w empty joined.new.one refl joined.ensures.row.wide

pub overflow_add-from-2 : goal.overflow_add-from-2
overflow_add-from-2 c = omega (arith, inside (goal.at.overflow_add-from-2 c).Start)

pub offset_bounds-ends-from : goal.offset_bounds-ends-from
offset_bounds-ends-from c = omega (arith, inside (goal.at.offset_bounds-ends-from c).Start)

pub slice_bounds-copy_row-end-2 : goal.slice_bounds-copy_row-end-2
slice_bounds-copy_row-end-2 c = omega (arith, inside (goal.at.slice_bounds-copy_row-end-2 c).Start, c.requires.1)

pub returns : goal.returns
returns c =
    let start = c in
    let args = start.args in
    let joined = c.join_rows-mixed in
    let copied = c.copy_row.ensures ∙ lent_front _ _ joined.new.one refl joined.ensures.row.wide in
    one_stored args.w args.j args.count args.ends.now c.copy_row.new.out start.requires.2 start.requires.1 (rw copied joined.ensures)
