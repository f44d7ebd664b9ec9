-- `write::Place::write_on` meets its contract: the blocks that are written and those that are to come are together the way on. Assumes nothing.
use mathlib.Core.Path.{◌≡◌, refl, sym, ap, ◌∙◌}
use mathlib.Core.List.{◌++◌, append-nil}
use Prim.Native.Nat.{ℕ, ◌+◌, ◌-◌, ◌/◌, ◌<◌}
use native.Mathlib.Nat.{sub-zero}
use native.Mathlib.Omega.{arith}
use lib.ListN.{length, take, length-set}
use lib.Seq.{take_all}
use Rattle.trails.specs.Trails.{parent_at, way_back}
use Rattle.trails.proofs.WriteLaws.{on_turn}
use Rattle.trails.proofs.write.Place.write_on.Goals as goal

pub loop-block-init : goal.loop-block-init
loop-block-init c =
    let self = c.args.self.now in
    (refl, self.is.inside, ap (λ (n : ℕ). way_back n self.trails.now (parent_at self.trails.now self.at)) (sub-zero (length c.args.out.now)))

pub loop-block-preserved : goal.loop-block-preserved
loop-block-preserved c =
    let at = c.loop-block in
    let self = c.args.self.now in
    let trails = self.trails.now in
    let long = length c.args.out.now in
    let k = at.block-index in
    let items = at.block-items in
    let next : parent_at trails at.at < 768 = self.is.places.inside at.at at.invariant.1 in
    let low : k < long = omega arith in
    let less : long - (k + 1) ≡ long - k - 1 = omega arith in (
      length-set items k (c.count-at.result / 32) ∙ at.invariant.0,
      rw c.count-at.ensures.0 next,
      rw (c.count-at.ensures.0, less)
          (on_turn trails k (long - k) (parent_at trails at.at) items (way_back long trails (parent_at trails self.at)) (omega arith) (omega arith) at.invariant.2),
    )

pub returns : goal.returns
returns c =
    let at = c.loop-block in
    let trails = c.args.self.now.trails.now in
    let long = length c.args.out.now in
    let none : long - at.block-index ≡ 0 = omega arith in
    sym (ap (λ (n : ℕ). take at.block-index at.block-items ++ way_back n trails (parent_at trails at.at)) none ∙ append-nil (take at.block-index at.block-items)
    ∙ take_all at.block-index at.block-items (omega arith)) ∙ at.invariant.2
