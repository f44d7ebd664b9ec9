-- `meet_before` meets its contract: a block without references has one point, and else there is one after each. Assumes nothing.
use mathlib.Core.Path.{sym, ◌∙◌}
use Prim.Native.Nat.{◌/◌}
use native.Mathlib.Omega.{arith}
use lib.ListN.{length, replicate}
use Rattle.cache.proofs.NumberLaws.{length-numbers}
use Rattle.rows.proofs.Parts.{lent_front}
use Rattle.graphs.proofs.Gathered.{first-row}
use Rattle.pairs.specs.Pairs.{live_rows}
use Rattle.block_rows.specs.BlockRows.{cache_of, references_of}
use Rattle.task_pairs.proofs.Meetings.{no_references, met_one, met_some}
use Rattle.task_pairs.proofs.meet_before.Goals as goal

pub returns-then-points-lt2 : goal.returns-then-points-lt2
returns-then-points-lt2 c =
    let points = c.args.points.now in
    let block = points.block in
    met_one points.ends points.ends.tasks (cache_of block) (references_of block) (live_rows points.lives) c.args.row.now
    (no_references block.references.now c.if-points-lt2.true) (first-row block.w points.rests.now ∙ points.are.left.each 0 (omega arith)) c.meet_point.ensures

pub returns : goal.returns
returns c =
    let points = c.args.points.now in
    let block = points.block in
    let references = block.references.now in
    met_some points.ends points.ends.tasks (cache_of block) (references_of block) (live_rows points.lives) c.args.row.now
    (length references / 2) (sym (length-numbers references)) (omega (arith, c.if-points-lt2.false))
    (lent_front block.w (replicate 32 0) c.args.row.now c.copy_row.ensures c.requires.0) c.meet_done.ensures.1
