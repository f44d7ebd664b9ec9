-- `predecessors::predecessors` meets its contract: the sets of the blocks so far, and zeros. Assumes nothing.
-- The idea: each turn stores the set of one block.
use mathlib.Core.Path.{◌≡◌, refl, ap, ◌∙◌}
use native.Mathlib.Omega.{arith}
use lib.ListN.{length-set}
use Rattle.body.specs.Turned.{leading_to}
use Rattle.body.proofs.Turning.{made_to, made_turn}
use Rattle.body.proofs.predecessors.predecessors.Goals as goal

pub loop-s-init : goal.loop-s-init
loop-s-init c = (omega arith, refl, refl)

pub loop-s-preserved : goal.loop-s-preserved
loop-s-preserved c =
    let at = c.loop-s in
    let args = c.args in (
      omega arith,
      simp length-set at.invariant.1,
      made_turn (leading_to args.sets args.blocks) at.s (omega arith) at.invariant.2 c.leading_to.ensures refl,
    )

pub returns : goal.returns
returns c =
    let at = c.loop-s in
    let args = c.args in
    let end : at.s ≡ args.blocks = omega arith in
    at.invariant.2 ∙ ap (made_to (leading_to args.sets args.blocks)) end
