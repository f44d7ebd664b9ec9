-- `meet_rows` meets its contract: after k turns the points are met for the first k rows. Assumes nothing.
use mathlib.Core.Path.{◌≡◌}
use lib.ListN.{length}
use Rattle.rows.specs.Rows.{rows_of}
use Rattle.pairs.specs.Pairs.{live_rows, Met}
use Rattle.block_rows.specs.BlockRows.{cache_of, references_of}
use Rattle.task_pairs.specs.TaskPairs.{block_most}
use Rattle.task_pairs.proofs.meet_rows.Given as goal

abbrev pub invariant-loop-k : goal.invariant-loop-k
invariant-loop-k l =
    let block = l.points.block in
    (length l.numbers ≡ 8)
    × Met (block_most (cache_of block) (references_of block) (live_rows l.points.lives) (rows_of l.list.w l.k l.list.rows.now)) l.points.ends l.points.ends.tasks l.initial.numbers l.numbers
