-- `gather::append_to` meets its contract: what appending to the block's part answers tells of the memory. Assumes nothing.
use Prim.Native.Nat.{◌*◌}
use native.Mathlib.Omega.{arith}
use lib.ListN.{length, length-take, length-drop}
use Rattle.rows.proofs.Parts.{row_within}
use Rattle.gather.proofs.Append.{to_present, to_full, to_added}
use Rattle.gather.proofs.gather.append_to.Goals as goal

pub overflow_mul-at : goal.overflow_mul-at
overflow_mul-at c = omega (arith, c.requires.1.width.narrow, row_within (32 * length c.args.row.now) c.args.s 24 c.requires.0)

pub overflow_add-at : goal.overflow_add-at
overflow_add-at c = omega (arith, c.requires.1.width.narrow, row_within (32 * length c.args.row.now) c.args.s 24 c.requires.0)

pub offset_bounds-rows-at : goal.offset_bounds-rows-at
offset_bounds-rows-at c = omega (arith, c.requires.1.width.narrow, row_within (32 * length c.args.row.now) c.args.s 24 c.requires.0)

pub append_row-requires : goal.append_row-requires
append_row-requires c =
    let start = c in
    let w = length start.args.row.now in
    let inside = row_within (32 * w) start.args.s 24 start.requires.0 in
    (start.requires.1.few start.args.s start.requires.0, start.requires.1.width.chunks, start.requires.1.width.narrow, simp (length-take, length-drop) (omega (arith, start.requires.1.long, inside)))

pub overflow_add-counts : goal.overflow_add-counts
overflow_add-counts c = omega (arith, c.requires.1.few c.args.s c.requires.0)

pub returns-in-Present : goal.returns-in-Present
returns-in-Present c =
    let start = c in
    let call = c.append_row in
    to_present start.args.s start.args.row.now start.args.rows.now start.args.counts.now start.requires.0 start.requires.1 call.ensures.0 call.ensures.1 c.in-Present.is

pub returns-in-Full : goal.returns-in-Full
returns-in-Full c =
    let start = c in
    let call = c.append_row in
    to_full start.args.s start.args.row.now start.args.rows.now start.args.counts.now start.requires.0 start.requires.1 call.ensures.0 call.ensures.1 c.in-Full.is

pub returns-in-Added : goal.returns-in-Added
returns-in-Added c =
    let start = c in
    let call = c.append_row in
    to_added start.args.s start.args.row.now start.args.rows.now start.args.counts.now start.requires.0 start.requires.1 call.ensures.0 call.ensures.1 c.in-Added.is
