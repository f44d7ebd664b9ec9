-- `meet_done` meets its contract: after i turns the numbers are right with the points after the first i references, or become so when the next is met.
-- Assumes nothing.
use mathlib.Core.Path.{◌≡◌}
use lib.ListN.{length, take}
use Rattle.cache.specs.Cache.{with_references}
use Rattle.pairs.specs.Pairs.{live_rows}
use Rattle.block_rows.specs.BlockRows.{cache_of, references_of}
use Rattle.task_pairs.proofs.PassedOver.{SoFar}
use Rattle.task_pairs.proofs.meet_done.Given as goal

abbrev pub invariant-loop-i : goal.invariant-loop-i
invariant-loop-i l =
    let block = l.points.block in
    (length l.row ≡ block.w) × (length l.numbers ≡ 8) × (l.row ≡ with_references (cache_of block) l.initial.row (take l.i (references_of block)))
    × SoFar l.points.ends l.points.ends.tasks (cache_of block) (references_of block) l.initial.row (live_rows l.points.lives) l.rising l.i l.initial.numbers l.numbers
