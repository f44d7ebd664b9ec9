use native.Mathlib.Omega.{arith}
use Prim.Native.Nat.{◌+◌, ◌*◌, ◌≤◌}
use lib.ListN.{length}
use Rattle.rows.proofs.Parts.{row_within, lent_row}
use Rattle.points.proofs.left.keep_rest.Goals as goal
use Rattle.points.proofs.left.keep_rest.Goals.{Start}

-- where the row ends
inside : (c : Start) → (length c.args.row.now * c.args.d + length c.args.row.now ≤ length c.args.row.now * 17) × (length c.args.row.now ≤ 32)
inside c = (row_within (length c.args.row.now) c.args.d 17 (omega (arith, c.requires.1)), c.requires.0.narrow)

pub overflow_mul-at : goal.overflow_mul-at
overflow_mul-at c = omega (arith, inside (goal.at.overflow_mul-at c).Start)

pub overflow_add-at : goal.overflow_add-at
overflow_add-at c = omega (arith, inside (goal.at.overflow_add-at c).Start)

pub offset_bounds-rests-at : goal.offset_bounds-rests-at
offset_bounds-rests-at c = omega (arith, inside (goal.at.offset_bounds-rests-at c).Start)

pub slice_bounds-copy_row-end : goal.slice_bounds-copy_row-end
slice_bounds-copy_row-end c = omega (arith, inside (goal.at.slice_bounds-copy_row-end c).Start)

pub returns : goal.returns
returns c =
    let args = c.args in
    lent_row (length args.row.now * args.d) args.rests.now args.row.now c.copy_row.ensures
