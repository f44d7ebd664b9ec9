-- A turn makes the next reference, which adds 1 at most; at the end none is left.
use Rattle.std.proofs.Common.{arith, ◌∙◌}
use Rattle.cache.specs.Shape.{shaped}
use Rattle.runs.proofs.CacheLaws.{references_turn, references-end, reference_adds}
use Rattle.runs.proofs.replay_cache.refer_all.Goals as goal

pub loop-i-preserved : goal.loop-i-preserved
loop-i-preserved c =
    let old = c.loop-i.cache in (
      references_turn (shaped 32 c.args.shape) c.args.references.now c.loop-i.i old.cells old.misses c.loop-i-test.true c.reference_at.ensures c.refer.ensures.0 ∙ c.loop-i.invariant.0,
      omega (arith, c.loop-i.invariant.1, reference_adds (shaped 32 c.args.shape) c.reference_at.result.0 old.cells old.misses c.refer.ensures.0),
    )

pub returns : goal.returns
returns c =
    let old = c.loop-i.cache in
    references-end (shaped 32 c.args.shape) c.args.references.now c.loop-i.i old.cells old.misses c.loop-i-test.false ∙ c.loop-i.invariant.0
