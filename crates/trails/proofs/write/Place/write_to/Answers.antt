-- `write::Place::write_to` meets its contract: the blocks that are written and those that are to come are together the path. Assumes nothing.
use mathlib.Core.Path.{◌≡◌, refl, sym, ap, ◌∙◌}
use mathlib.Core.List.{List, ◌++◌, append-nil}
use Prim.Native.Nat.{ℕ, ◌-◌, ◌/◌, ◌<◌}
use native.Mathlib.Nat.{sub-zero}
use native.Mathlib.Omega.{arith}
use lib.ListN.{length, drop, length-set}
use lib.Seq.{drop-length}
use Rattle.trails.specs.Trails.{parent_at, way_to}
use Rattle.trails.proofs.WriteLaws.{to_turn}
use Rattle.trails.proofs.write.Place.write_to.Goals as goal

pub loop-k-init : goal.loop-k-init
loop-k-init c =
    let self = c.args.self.now in
    let out = c.args.out.now in
    let whole = way_to (length out) self.trails.now self.at in
    (refl, self.is.inside, rw (sub-zero (length out)) (ap (λ (l : List ℕ). whole ++ l) (drop-length out) ∙ append-nil whole))

pub loop-k-preserved : goal.loop-k-preserved
loop-k-preserved c =
    let at = c.loop-k in
    let self = c.args.self.now in
    let trails = self.trails.now in
    let long = length c.args.out.now in
    let next : parent_at trails at.at < 768 = self.is.places.inside at.at at.invariant.1 in (
      length-set at.out (long - 1 - at.k) (at.at / 32) ∙ at.invariant.0,
      rw c.count-at.ensures.0 next,
      rw c.count-at.ensures.0 (to_turn trails long at.k at.at at.out (way_to long trails self.at) c.loop-k-test.true (sym at.invariant.0) at.invariant.2),
    )

pub returns : goal.returns
returns c =
    let at = c.loop-k in
    let none : length c.args.out.now - at.k ≡ 0 = omega arith in
    ap (λ (n : ℕ). way_to n c.args.self.now.trails.now at.at ++ drop n at.out) (sym none) ∙ at.invariant.2
