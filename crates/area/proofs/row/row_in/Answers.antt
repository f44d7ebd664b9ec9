-- `row_in` meets its contract: the place lies in the area, and the part there is the row. Assumes nothing.
use mathlib.Core.Path.{refl}
use native.Mathlib.Omega.{arith}
use Rattle.area.proofs.RowLaws.{InArea, row_inside, place-row}
use Rattle.area.proofs.row.row_in.Goals as goal
use Rattle.area.proofs.row.row_in.Goals.{After-struct_known-1}

-- the place lies in the area
within : (c : After-struct_known-1) → InArea c.args.w c.args.area.now c.row_place_in-found.result.start c.row_place_in-found.result.length
within c =
    let args = c.args in
    row_inside args.w args.area.now args.live args.block args.number c.row_place_in-found.ensures.0 c.row_place_in-found.ensures.1

pub overflow_add-to : goal.overflow_add-to
overflow_add-to c = omega (arith, (within c).low, c.requires)

pub offset_bounds-area-from : goal.offset_bounds-area-from
offset_bounds-area-from c = omega (arith, (within c).low, c.requires)

pub slice_bounds-result-end : goal.slice_bounds-result-end
slice_bounds-result-end c = omega (arith, (within c).inside)

pub returns : goal.returns
returns c =
    let args = c.args in
    let found = c.row_place_in-found in (
      place-row args.w args.area.now args.live args.block args.number found.ensures.0 found.ensures.1,
      refl,
      omega (arith, found.ensures.0),
    )
