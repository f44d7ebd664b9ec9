-- `meet_task` meets its contract: after b turns the points of the unmasked ones among the first b blocks are met. Assumes nothing.
use mathlib.Core.Path.{◌≡◌}
use lib.ListN.{length}
use Rattle.cache.specs.Shape.{shaped}
use Rattle.body.specs.Decode.{decode, task_of}
use Rattle.pairs.specs.Pairs.{Met}
use Rattle.block_rows.specs.BlockRows.{rows_by}
use Rattle.task_pairs.specs.TaskPairs.{task_most}
use Rattle.task_pairs.proofs.meet_task.Given as goal

abbrev pub invariant-loop-b : goal.invariant-loop-b
invariant-loop-b l =
    (length l.numbers ≡ 8)
    × Met (task_most (shaped l.ends.w l.shape) (task_of (decode l.body)) (rows_by l.reaching) (rows_by l.live) l.b 0) l.ends l.ends.tasks l.initial.numbers l.numbers
