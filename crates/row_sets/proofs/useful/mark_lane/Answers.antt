-- `useful::mark_lane` meets its contract: after l turns the first l sets have their bit. Assumes nothing.
use mathlib.Core.Path.{◌≡◌, refl, ap₂}
use mathlib.Core.Logic.{inl, inr}
use native.Mathlib.Omega.{arith}
use lib.Bits.{bit_or}
use lib.ListN.{get_or, length-set}
use Rattle.cache.specs.References.{nothing}
use Rattle.row_sets.specs.Lanes.{marked_bit}
use Rattle.row_sets.proofs.LaneSets.{filled_next, marked-is}
use Rattle.row_sets.proofs.useful.mark_lane.Goals as goal
use Rattle.row_sets.proofs.useful.mark_lane.Goals.{else-held-m, else-x-eq-NOTHING, then-held-m, then-x-eq-NOTHING}

pub loop-l-init : goal.loop-l-init
loop-l-init c = (omega arith, c.requires.2, λ k h. absurd (omega arith), λ k h. refl)

pub loop-l-preserved : goal.loop-l-preserved
unfolding nothing
loop-l-preserved c =
    let at = c.loop-l in
    let args = c.args in
    let is = marked-is args.x args.m args.bit (get_or args.lane.now at.l 0) in
    let new : c.if-held-m.sets ≡ marked_bit args.x args.m args.bit (get_or args.lane.now at.l 0)
    = (elim c.if-x-eq-NOTHING.branch [ then-x-eq-NOTHING w ↦ (elim c.if-held-m.branch [ then-held-m v ↦ is (inl (w.if-x-eq-NOTHING.true, w.held-is)) (inl (v.if-held-m.true, v.sets-is)) | else-held-m v ↦ is (inl (w.if-x-eq-NOTHING.true, w.held-is)) (inr (v.if-held-m.false, v.sets-is)) ]) | else-x-eq-NOTHING w ↦ (elim c.if-held-m.branch [ then-held-m v ↦ is (inr (w.if-x-eq-NOTHING.false, w.held-is)) (inl (v.if-held-m.true, v.sets-is)) | else-held-m v ↦ is (inr (w.if-x-eq-NOTHING.false, w.held-is)) (inr (v.if-held-m.false, v.sets-is)) ]) ]) in
    let (marked, others) = filled_next (λ k. bit_or (get_or args.sets.now k 0) (marked_bit args.x args.m args.bit (get_or args.lane.now k 0))) (λ k. get_or args.sets.now k 0)
    at.sets at.l _ (omega arith) (ap₂ bit_or (at.invariant.3 at.l (omega arith)) new) at.invariant.2 at.invariant.3 in
    (omega arith, simp length-set (omega arith), marked, others)

pub returns : goal.returns
returns c =
    let at = c.loop-l in
    let end : at.l ≡ c.args.lived = omega arith in
    (at.invariant.1, λ k h. at.invariant.2 k (omega arith))
