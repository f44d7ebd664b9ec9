-- `meet_lanes` meets its contract: the rest rows are made once, and the points are met for the empty row before block 0, and for the rows of the
-- predecessors. Assumes nothing.
use native.Mathlib.Omega.{arith}
use Rattle.graphs.proofs.Gathered.{nothings}
use Rattle.pairs.specs.Pairs.{live_rows}
use Rattle.block_rows.specs.BlockRows.{cache_of, references_of, rows_by}
use Rattle.task_pairs.proofs.Meetings.{met_first, met_later}
use Rattle.task_pairs.proofs.meet_lanes.Goals as goal
use Rattle.task_pairs.proofs.meet_lanes.Goals.{else-block-eq0, then-block-eq0}

pub returns : goal.returns
returns c =
    let block = c.args.block.now in
    let ends = c.args.ends.now in
    let k = cache_of block in
    let ms = references_of block in
    let ls = live_rows c.args.lives.now in
    let rs = rows_by c.args.reaching.now in
    let met = c.meet_entering.ensures in
    elim c.if-block-eq0.branch [
      | then-block-eq0 v ↦ met_first ends ends.tasks k ms ls block.before rs block.blocks block.number v.if-block-eq0.true
          (nothings block.w 768 (omega (arith, ends.are.width.narrow))) v.meet_before.ensures (rw (v.numbers-is, v.points-is) at met)
      | else-block-eq0 v ↦ met_later ends ends.tasks k ms ls block.before rs block.blocks block.number v.if-block-eq0.false (rw (v.numbers-is, v.points-is) at met)
    ]
