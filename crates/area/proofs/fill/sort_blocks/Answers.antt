-- `fill::sort_blocks` meets its contract: after b turns the parts of the first b blocks are sorted. Assumes nothing.
use mathlib.Core.Path.{◌≡◌}
use Prim.Native.Nat.{◌+◌, ◌*◌, ◌≤◌}
use native.Mathlib.Omega.{arith}
use borrow.Author.Rules.{rules}
use lib.ListN.{length}
use Rattle.rows.specs.Rows.{kind_length}
use Rattle.area.proofs.Blocks.{blocks_start, part_ends, lent_rows, block_turn, blocks_end}
use Rattle.area.proofs.fill.sort_blocks.Goals as goal
use Rattle.area.proofs.fill.sort_blocks.Goals.{In-loop-b}

-- the part of block b ends within the rows
ends : (c : In-loop-b) → let w = c.args.w in (32 * w * c.loop-b.b + 32 * w ≤ length c.loop-b.rows) × (w ≤ 32) × (length c.loop-b.rows ≡ kind_length w)
ends c =
    let start = c in
    let at = c.loop-b in
    (omega (arith, part_ends start.args.rows.now start.args.counts.now start.requires at.b (omega arith), at.invariant.1, start.requires.long), start.requires.width.narrow, at.invariant.1)

pub overflow_mul-part : goal.overflow_mul-part
overflow_mul-part c = omega (arith, c.requires.width.narrow)

pub loop-b-init : goal.loop-b-init
loop-b-init c = (omega arith, c.requires.long, blocks_start c.args.w c.args.rows.now c.args.counts.now)

pub overflow_mul-at : goal.overflow_mul-at
overflow_mul-at c = omega (arith, ends c)

pub overflow_add-at : goal.overflow_add-at
overflow_add-at c = omega (arith, ends c)

pub offset_bounds-rows-at : goal.offset_bounds-rows-at
offset_bounds-rows-at c = omega (arith, ends c)

pub slice_bounds-sort_rows-end : goal.slice_bounds-sort_rows-end
slice_bounds-sort_rows-end c = omega (arith, ends c)

pub bounds-counts-b : goal.bounds-counts-b
bounds-counts-b c = omega (arith, c.requires.counts24.many)

pub sort_rows-requires : goal.sort_rows-requires
sort_rows-requires c =
    let at = c.loop-b in
    let start = c in
    lent_rows start.args.rows.now start.args.counts.now start.requires at.b (omega arith) at.invariant.2

pub loop-b-preserved : goal.loop-b-preserved
loop-b-preserved c =
    let at = c.loop-b in
    let start = c in
    (omega arith, search rules, block_turn start.args.rows.now start.args.counts.now start.requires at.b (omega arith) at.invariant.2 c.sort_rows.ensures)

pub returns : goal.returns
returns c =
    let at = c.loop-b in
    let start = c in
    blocks_end start.args.rows.now start.args.counts.now start.requires at.b (omega arith) at.invariant.2
