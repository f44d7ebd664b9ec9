-- `prepare::keep_row` meets its contract: the part that it copies to is the row of block b. Assumes nothing.
use Prim.Native.Nat.{◌+◌, ◌*◌, ◌≤◌}
use native.Mathlib.Omega.{arith}
use Rattle.rows.proofs.Parts.{row_within}
use Rattle.graphs.proofs.Prepared.{kept_row}
use Rattle.graphs.proofs.prepare.keep_row.Goals as goal
use Rattle.graphs.proofs.prepare.keep_row.Goals.{Start}

-- where the row ends
inside : (c : Start) → (c.args.w * c.args.b + c.args.w ≤ c.args.w * 24) × (c.args.w ≤ 32)
inside c = (row_within c.args.w c.args.b 24 c.requires.1, c.requires.0.narrow)

pub overflow_mul-at : goal.overflow_mul-at
overflow_mul-at c = omega (arith, inside (goal.at.overflow_mul-at c).Start)

pub slice_bounds-copy_row-end : goal.slice_bounds-copy_row-end
slice_bounds-copy_row-end c = omega (arith, inside (goal.at.slice_bounds-copy_row-end c).Start)

pub overflow_add-at : goal.overflow_add-at
overflow_add-at c = omega (arith, inside (goal.at.overflow_add-at c).Start)

pub offset_bounds-rows-at : goal.offset_bounds-rows-at
offset_bounds-rows-at c = omega (arith, inside (goal.at.offset_bounds-rows-at c).Start)

pub slice_bounds-copy_row-end-2 : goal.slice_bounds-copy_row-end-2
slice_bounds-copy_row-end-2 c = omega (arith, inside (goal.at.slice_bounds-copy_row-end-2 c).Start)

pub returns : goal.returns
returns c =
    let args = c.args in
    kept_row args.w (args.w * args.b) args.rows.now args.cells (omega (arith, inside (goal.at.returns c).Start)) c.copy_row.ensures
