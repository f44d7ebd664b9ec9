-- `meet_entering` meets its contract: after p turns the points are met for the rows of those of the first p blocks that are in the set. Assumes nothing.
use mathlib.Core.Path.{◌∙◌}
use Prim.Native.Nat.{◌+◌, ◌<◌}
use native.Mathlib.Omega.{arith}
use Rattle.cache.proofs.Members.{in_word, out_word}
use Rattle.points.specs.Points.{rows_in}
use Rattle.pairs.specs.Pairs.{live_rows, Met}
use Rattle.block_rows.specs.BlockRows.{cache_of, references_of, rows_by}
use Rattle.task_pairs.specs.TaskPairs.{block_most}
use Rattle.task_pairs.proofs.Meetings.{met_in, met_out}
use Rattle.task_pairs.proofs.meet_entering.Goals as goal
use Rattle.task_pairs.proofs.meet_entering.Goals.{else-set-p-ne0, then-set-p-ne0}

pub loop-p-preserved : goal.loop-p-preserved
loop-p-preserved c =
    let at = c.loop-p in
    let points = c.args.points.now in
    let block = points.block in
    let ends = points.ends in
    let reaching = c.args.reaching.now in
    let k = cache_of block in
    let ms = references_of block in
    let ls = live_rows points.lives in
    let rs = rows_by reaching in
    let below : at.p < 32 = omega (arith, block.is.inside, c.loop-p-test.true) in
    let next : Met (block_most k ms ls (rows_in block.before rs (at.p + 1) 0)) ends ends.tasks c.args.numbers.now c.if-set-p-ne0.numbers
    = elim c.if-set-p-ne0.branch [
      | then-set-p-ne0 v ↦ rw v.numbers-is
          (met_in ends ends.tasks k ms ls block.before rs at.p (in_word 32 block.before at.p below v.if-set-p-ne0.true)
          v.of_block.ensures.1 at.invariant.1 v.meet_rows.ensures)
      | else-set-p-ne0 v ↦ rw v.numbers-is
          (met_out ends ends.tasks k ms ls block.before rs at.p (out_word 32 block.before at.p below v.if-set-p-ne0.false) at.invariant.1)
    ] in
    (next.long ∙ c.requires.1, next)
