-- `meet_entering` meets its contract: after p turns the points are met for the rows of those of the first p blocks that are in the set. Assumes nothing.
use mathlib.Core.Path.{◌≡◌}
use lib.ListN.{length}
use Rattle.points.specs.Points.{rows_in}
use Rattle.pairs.specs.Pairs.{live_rows, Met}
use Rattle.block_rows.specs.BlockRows.{cache_of, references_of, rows_by}
use Rattle.task_pairs.specs.TaskPairs.{block_most}
use Rattle.task_pairs.proofs.meet_entering.Given as goal

abbrev pub invariant-loop-p : goal.invariant-loop-p
invariant-loop-p l =
    let block = l.points.block in
    (length l.numbers ≡ 8)
    × Met (block_most (cache_of block) (references_of block) (live_rows l.points.lives) (rows_in l.set (rows_by l.reaching) l.p 0)) l.points.ends l.points.ends.tasks
    l.initial.numbers l.numbers
