-- `meet_rows` meets its contract: after k turns the points are met for the first k rows. Assumes nothing.
use mathlib.Core.Path.{◌∙◌}
use Rattle.pairs.specs.Pairs.{live_rows}
use Rattle.block_rows.specs.BlockRows.{cache_of, references_of}
use Rattle.task_pairs.proofs.Meetings.{met_row}
use Rattle.task_pairs.proofs.meet_rows.Goals as goal

pub loop-k-preserved : goal.loop-k-preserved
loop-k-preserved c =
    let at = c.loop-k in
    let points = c.args.points.now in
    let block = points.block in (
      c.meet_before.auto.numbers ∙ at.invariant.0,
      met_row points.ends points.ends.tasks (cache_of block) (references_of block) (live_rows points.lives) c.args.list.now.w c.args.list.now.rows.now at.k c.row.ensures.0 at.invariant.1
          c.meet_before.ensures,
    )
