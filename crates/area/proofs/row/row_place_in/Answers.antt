-- `row_place_in` meets its contract: each test that fails leaves no row, and past all of them the row stands there. Assumes nothing.
use Prim.Native.Nat.{◌+◌, ◌*◌, ◌≤◌}
use native.Mathlib.Omega.{arith}
use Rattle.area.proofs.RowLaws.{place-ends, wrong-length, block_high, count_high, number_high, row-there}
use Rattle.area.proofs.row.row_place_in.Goals as goal
use Rattle.area.proofs.row.row_place_in.Goals.{After-kind_start}

-- the row ends within the rows of its kind
ends : (c : After-kind_start) → let args = c.args in ((32 * args.block + args.number) * args.w + args.w ≤ 24 * (32 * args.w)) × (args.w ≤ 32)
ends c =
    let args = c.args in
    (place-ends args.w args.block args.number (omega arith) (omega arith), c.requires)

pub returns-then-area-w : goal.returns-then-area-w
returns-then-area-w c =
    let args = c.args in
    wrong-length args.w args.area.now args.live args.block args.number c.if-area-w.true

pub returns-then-block-ge24 : goal.returns-then-block-ge24
returns-then-block-ge24 c =
    let args = c.args in
    block_high args.w args.area.now args.live args.block args.number c.if-area-w.false (omega arith)

pub count_in-count-requires : goal.count_in-count-requires
count_in-count-requires c = (c.requires, c.if-area-w.false, omega arith)

pub returns-then-count-gt32 : goal.returns-then-count-gt32
returns-then-count-gt32 c =
    let counted = c in
    let args = counted.args in
    count_high args.w args.area.now args.live args.block args.number counted.if-area-w.false (omega arith) counted.count_in-count.ensures (omega arith)

pub returns-then-count-number : goal.returns-then-count-number
returns-then-count-number c =
    let counted = c in
    let args = counted.args in
    number_high args.w args.area.now args.live args.block args.number counted.if-area-w.false (omega arith) counted.count_in-count.ensures (omega arith) (omega arith)

pub kind_start-requires : goal.kind_start-requires
kind_start-requires c = c.requires

pub overflow_mul-result-2 : goal.overflow_mul-result-2
overflow_mul-result-2 c = omega (arith, ends c)

pub overflow_add-result-2 : goal.overflow_add-result-2
overflow_add-result-2 c = omega (arith, ends c)

pub returns : goal.returns
returns c =
    let counted = c in
    let args = counted.args in
    row-there args.w args.area.now args.live args.block args.number counted.if-area-w.false (omega arith) counted.count_in-count.ensures (omega arith) (omega arith) c.kind_start.ensures.0
