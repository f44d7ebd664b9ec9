-- `paths::set_of` meets its contract: the bits set are the blocks read so far. Assumes nothing.
use mathlib.Core.Path.{refl, sym, ap, ◌∙◌}
use native.Mathlib.Omega.{arith}
use lib.Seq.{take_all}
use Rattle.body.specs.Jumps.{set_of}
use Rattle.body.proofs.BlockSets.{set-none, set_turn, below_at}
use Rattle.body.proofs.paths.set_of.Goals as goal

pub loop-b-init : goal.loop-b-init
loop-b-init c = sym set-none

pub overflow_shl-set : goal.overflow_shl-set
overflow_shl-set c = omega (arith, c.from.ensures, below_at c.args.blocks.now c.loop-b.b-index 24 c.requires (omega arith))

pub loop-b-preserved : goal.loop-b-preserved
loop-b-preserved c =
    let at = c.loop-b in
    let l = c.args.blocks.now in
    let small = below_at l at.b-index 24 c.requires (omega arith) in
    set_turn l at.b-index (omega arith) (sym c.from.ensures) (omega (arith, c.from.ensures)) at.invariant refl

pub returns : goal.returns
returns c =
    let at = c.loop-b in
    let l = c.args.blocks.now in
    at.invariant ∙ ap set_of (take_all at.b-index l (omega arith))
