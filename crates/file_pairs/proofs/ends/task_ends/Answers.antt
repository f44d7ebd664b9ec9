-- `ends::task_ends` meets its contract: the end rows are those gathered at the end block. Assumes nothing.
use Prim.Native.Nat.{◌+◌, ◌*◌, ◌-◌, ◌≤◌}
use native.Mathlib.Omega.{arith}
use lib.ListN.{get_or}
use Rattle.cache.specs.Shape.{shaped}
use Rattle.body.specs.Decode.{decode, task_of}
use Rattle.rows.proofs.Parts.{row_within}
use Rattle.graphs.proofs.Gathered.{first-wide}
use Rattle.file_pairs.proofs.EndLaws.{rows-chunks, rows_fit, counts_few, ends_full, lent_size, ends-few}
use Rattle.file_pairs.proofs.ends.task_ends.Goals as goal
use Rattle.file_pairs.proofs.ends.task_ends.Goals.{After-block_count-end}

-- where the end rows end, among the rows and copied
inside : (c : After-block_count-end) → let w = c.args.w in let last = c.block_count-end.result - 1 in let count = get_or c.reaching_rows.new.counts last 0 in
    (32 * w * last + w * count ≤ 24 * (32 * w)) × (w * count ≤ 32 * w) × (32 * w * last + 32 * w ≤ 24 * (32 * w)) × (w ≤ 32)
inside c =
    let start = c in
    let gathered = c.reaching_rows in
    let last = c.block_count-end.result - 1 in
    let few = counts_few gathered.ensures c.if-reaching_rows.false last (omega (arith, c.block_count-end.ensures)) in
    let fit = rows_fit start.args.w last (get_or gathered.new.counts last 0) (omega (arith, c.block_count-end.ensures)) few in
    (fit.0, fit.1, omega (arith, row_within (32 * start.args.w) last 24 (omega (arith, c.block_count-end.ensures))), start.requires.2.narrow)

pub returns-then-reaching_rows : goal.returns-then-reaching_rows
returns-then-reaching_rows c =
    let start = c in
    let gathered = c.reaching_rows in
    ends_full (shaped start.args.w start.args.shape) (task_of (decode start.args.body.now)) gathered.new.rows gathered.new.counts start.args.ends.now
    start.requires.4 gathered.ensures c.if-reaching_rows.true

pub overflow_mul-part : goal.overflow_mul-part
overflow_mul-part c = omega (arith, inside c)

pub overflow_mul-at : goal.overflow_mul-at
overflow_mul-at c = omega (arith, inside c)

pub overflow_mul-long : goal.overflow_mul-long
overflow_mul-long c = omega (arith, inside c)

pub overflow_add-at : goal.overflow_add-at
overflow_add-at c = omega (arith, inside c)

pub offset_bounds-rows-at : goal.offset_bounds-rows-at
offset_bounds-rows-at c = omega (arith, inside c)

pub slice_bounds-copy_row-end : goal.slice_bounds-copy_row-end
slice_bounds-copy_row-end c = omega (arith, inside c, c.reaching_rows.ensures.long)

pub slice_bounds-copy_row-end-2 : goal.slice_bounds-copy_row-end-2
slice_bounds-copy_row-end-2 c = omega (arith, inside (goal.at.slice_bounds-copy_row-end-2 c).After-block_count-end, c.requires.4)

pub copy_row-requires : goal.copy_row-requires
copy_row-requires c =
    let start = c in
    let gathered = c.reaching_rows in
    let blocks = c.block_count-end in
    let w = start.args.w in
    let counts = gathered.new.counts in
    let count = get_or counts (blocks.result - 1) 0 in
    let long = lent_size (shaped w start.args.shape) (task_of (decode start.args.body.now)) gathered.new.rows counts start.args.ends.now
    start.requires.4 gathered.ensures c.if-reaching_rows.false blocks.result blocks.ensures.0 blocks.ensures.1 blocks.ensures.2 in
    let room = first-wide (w * count) start.args.ends.now (omega (arith, inside (goal.at.copy_row-requires c).After-block_count-end, start.requires.4)) in
    (omega (arith, long, rows-chunks w count start.requires.2.chunks), omega (arith, long, room))

pub returns : goal.returns
returns c =
    let start = c in
    let gathered = c.reaching_rows in
    let blocks = c.block_count-end in
    ends-few (shaped start.args.w start.args.shape) (task_of (decode start.args.body.now)) gathered.new.rows gathered.new.counts start.args.ends.now
    start.requires.4 gathered.ensures c.if-reaching_rows.false blocks.result blocks.ensures.0 blocks.ensures.1 blocks.ensures.2 c.copy_row.ensures
