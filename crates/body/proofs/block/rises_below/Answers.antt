-- `block::rises_below` meets its contract. The loop's invariant: the test from the last successor passed on gives what the whole gives.
use mathlib.Core.Path.{◌∙◌}
use native.Mathlib.Omega.{arith}
use Prim.Native.Nat.{◌-◌}
use lib.ListN.{length, drop, length-drop}
use lib.Seq.{take_all}
use Rattle.body.proofs.WalksBlock.{rises_start, rises_turn, rises_fails, rises-end, rises-none}
use Rattle.body.proofs.block.rises_below.Goals as goal

pub returns-in_default : goal.returns-in_default
returns-in_default c = rises-none _ c.args.successors.now (omega arith)

pub loop-next-init : goal.loop-next-init
loop-next-init c =
    let s = c.args.successors.now in
    rw (take_all (length s - 1) (drop 1 s) (omega (arith, length-drop 1 s))) (rises_start c.args.blocks s (λ e. omega arith))

pub returns-then-next-last : goal.returns-then-next-last
returns-then-next-last c =
    let at = c.loop-next in
    rises_fails _ at.last at.next-index _ (omega arith) (omega arith) ∙ at.invariant

pub loop-next-preserved : goal.loop-next-preserved
loop-next-preserved c =
    let at = c.loop-next in
    rises_turn _ at.last at.next-index _ (omega arith) (omega arith) ∙ at.invariant

pub returns : goal.returns
returns c =
    let at = c.loop-next in
    rises-end _ at.last at.next-index _ (omega arith) ∙ at.invariant
