-- `complete::steps_to_end` meets its contract: what is left of the path leads to the end just where the whole path is complete. Assumes nothing.
use mathlib.Core.Path.{◌∙◌}
use Prim.Native.Nat.{◌-◌}
use native.Mathlib.Omega.{arith}
use lib.ListN.{length, drop, length-drop}
use lib.Seq.{take_all}
use Rattle.sheet.proofs.StepLaws.{path-none, path_elsewhere, path_start, step-outside, step_off, step_on, path-end}
use Rattle.sheet.proofs.complete.steps_to_end.Goals as goal

pub returns-in_default : goal.returns-in_default
returns-in_default c = path-none _ _ c.args.path.now (omega arith)

pub returns-then-entry-ne0 : goal.returns-then-entry-ne0
returns-then-entry-ne0 c = path_elsewhere _ _ c.args.path.now (omega arith) c.if-entry-ne0.true

pub loop-step-init : goal.loop-step-init
loop-step-init c =
    let path = c.args.path.now in
    (omega arith, rw (take_all (length path - 1) (drop 1 path) (omega (arith, length-drop 1 path))) (path_start _ _ path (omega arith) c.if-entry-ne0.false))

pub returns-then-blocks-next : goal.returns-then-blocks-next
returns-then-blocks-next c =
    let at = c.loop-step in
    step-outside _ _ _ at.b at.step-index (omega arith) c.from-next.ensures c.if-blocks-next.true ∙ at.invariant.1

pub returns-then-sets-b-eq0 : goal.returns-then-sets-b-eq0
returns-then-sets-b-eq0 c =
    let at = c.loop-step in
    step_off _ _ _ at.b at.step-index (omega arith) c.from-next.ensures c.requires.1 c.if-blocks-next.false c.if-sets-b-eq0.true ∙ at.invariant.1

pub loop-step-preserved : goal.loop-step-preserved
loop-step-preserved c =
    let at = c.loop-step in
    (omega arith, step_on _ _ _ at.b at.step-index (omega arith) c.from-next.ensures c.requires.1 c.if-blocks-next.false c.if-sets-b-eq0.false ∙ at.invariant.1)

pub returns : goal.returns
returns c =
    let at = c.loop-step in
    path-end _ _ _ at.b at.step-index (omega arith) ∙ at.invariant.1
