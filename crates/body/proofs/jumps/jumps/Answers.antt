-- `jumps::jumps` meets its contract: the sets of the blocks so far, and zeros. Assumes nothing.
use mathlib.Core.Path.{refl, ◌∙◌}
use native.Mathlib.Omega.{arith}
use lib.ListN.{length-set}
use Rattle.body.proofs.JumpLaws.{jump_turn, jump_end, WalkedTask, its_task, successors-below}
use Rattle.body.proofs.jumps.jumps.Goals as goal
use Rattle.body.proofs.jumps.jumps.Goals.{Start}

-- the task of the body
facts : (c : Start) → let w = c.args.walk.now in WalkedTask w.body.now w.blocks w.starts
facts c = its_task c.args.walk.now

pub loop-b-init : goal.loop-b-init
loop-b-init c = (omega arith, refl, refl)

pub offset_bounds-walk-b : goal.offset_bounds-walk-b
offset_bounds-walk-b c = let f = facts (goal.at.offset_bounds-walk-b c).Start in omega (arith, f.long, f.bounds.few)

pub bounds-walk-b : goal.bounds-walk-b
bounds-walk-b c = let f = facts (goal.at.bounds-walk-b c).Start in omega (arith, f.long, f.bounds.few)

pub successors-requires : goal.successors-requires
successors-requires c =
    let f = facts (goal.at.successors-requires c).Start in
    (f.parts c.loop-b.b (omega (arith, f.long))).successors-within

pub set_of-requires : goal.set_of-requires
set_of-requires c =
    let at = c.loop-b in
    let f = facts (goal.at.set_of-requires c).Start in
    rw (c.successors.ensures ∙ (f.parts at.b (omega (arith, f.long))).successors) (successors-below f.its f.bounds at.b)

pub offset_bounds-sets-b : goal.offset_bounds-sets-b
offset_bounds-sets-b c = let f = facts (goal.at.offset_bounds-sets-b c).Start in omega (arith, f.long, f.bounds.few)

pub bounds-sets-b : goal.bounds-sets-b
bounds-sets-b c = let f = facts (goal.at.bounds-sets-b c).Start in omega (arith, f.long, f.bounds.few)

pub loop-b-smaller : goal.loop-b-smaller
loop-b-smaller c = let f = facts (goal.at.loop-b-smaller c).Start in omega (arith, f.long, f.bounds.few)

pub loop-b-preserved : goal.loop-b-preserved
loop-b-preserved c =
    let at = c.loop-b in
    let f = facts (goal.at.loop-b-preserved c).Start in (
      omega (arith, f.long),
      simp length-set at.invariant.1,
      rw f.same (jump_turn f.its at.b (omega (arith, f.long)) f.bounds.few (rw f.same at at.invariant.2)
          (c.successors.ensures ∙ (f.parts at.b (omega (arith, f.long))).successors) c.set_of.ensures refl),
    )

pub returns : goal.returns
returns c =
    let at = c.loop-b in
    let f = facts (goal.at.returns c).Start in
    rw f.same (jump_end f.its at.b (omega (arith, f.long)) (rw f.same at at.invariant.2))
