-- `lanes::lay_lane` meets its contract: after c turns the first c numbers of the row are laid. Assumes nothing.
use mathlib.Core.Path.{◌≡◌, refl}
use native.Mathlib.Omega.{arith}
use lib.ListN.{length, length-set}
use Rattle.row_sets.proofs.LaneLaws.{laid_one, kept-one}
use Rattle.row_sets.proofs.lanes.lay_lane.Goals as goal

pub loop-c-init : goal.loop-c-init
loop-c-init c = (omega arith, c.requires.2, (λ d h. absurd (omega arith)), (λ k d h other. refl))

pub loop-c-preserved : goal.loop-c-preserved
loop-c-preserved c =
    let at = c.loop-c in
    let start = c in
    let row = start.args.row.now in
    let l = start.args.l in (
      omega arith,
      simp length-set at.invariant.1,
      laid_one row l at.c at.lanes (omega arith) at.invariant.2,
      kept-one row l at.c at.lanes start.args.lanes.now start.requires.0 at.invariant.3,
    )

pub returns : goal.returns
returns c =
    let at = c.loop-c in
    let end : at.c ≡ length c.args.row.now = omega arith in
    (at.invariant.1, rw (← end) at.invariant.2, at.invariant.3)
