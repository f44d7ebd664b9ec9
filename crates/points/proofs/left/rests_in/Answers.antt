-- `left::rests_in` meets its contract: from d on the rows are those of what is left. Assumes nothing.
use mathlib.Core.Path.{◌≡◌, refl, sym, ap, ◌∙◌}
use Prim.Native.Nat.{◌+◌, ◌-◌, ◌/◌}
use lib.ListN.{length}
use Rattle.cache.specs.References.{numbers}
use Rattle.cache.specs.Shape.{shaped}
use Rattle.cache.proofs.NumberLaws.{length-numbers}
use Rattle.points.specs.Points.{rest_of}
use Rattle.points.proofs.Rests.{rest-long, rest-none, rest_more, rests_stored}
use native.Mathlib.Omega.{arith}
use Rattle.points.proofs.left.rests_in.Goals as goal

pub loop-d-init : goal.loop-d-init
loop-d-init c =
    let start = c in
    let k = shaped (length start.args.rest.now) start.args.shape in
    let ms = numbers start.args.references.now in
    let all = length-numbers start.args.references.now in
    let is = start.requires.3 ∙ sym (rest-none k ms) ∙ ap (rest_of k ms) all in (
      omega (arith, all),
      refl,
      c.keep_rest.auto.rests ∙ start.requires.4,
      is,
      rests_stored k ms start.args.rests.now (length start.args.references.now / 2) start.requires.4 start.requires.0 is c.keep_rest.ensures
          (λ e l h. absurd (omega (arith, all))),
    )

pub refer_row-requires : goal.refer_row-requires
refer_row-requires c =
    let start = c in
    let all = length-numbers start.args.references.now in
    (omega (arith, all, c.loop-d-test.true), rw c.loop-d.invariant.1 start.requires.1)

pub keep_rest-requires-in-loop-d : goal.keep_rest-requires-in-loop-d
keep_rest-requires-in-loop-d c =
    let start = c in
    let all = length-numbers start.args.references.now in
    let wide = c.refer_row.auto.row ∙ c.loop-d.invariant.1 in
    (rw wide start.requires.2, omega (arith, all, start.requires.0), rw wide c.loop-d.invariant.2)

pub loop-d-preserved : goal.loop-d-preserved
loop-d-preserved c =
    let start = c in
    let at = c.loop-d in
    let k = shaped (length start.args.rest.now) start.args.shape in
    let ms = numbers start.args.references.now in
    let all = length-numbers start.args.references.now in
    let one : at.d ≡ at.d - 1 + 1 = omega (arith, c.loop-d-test.true) in
    let is = rest_more k ms (at.d - 1) (omega (arith, c.loop-d-test.true)) (at.invariant.3 ∙ ap (rest_of k ms) one) refl c.refer_row.ensures in (
      omega arith,
      ap length is ∙ rest-long k ms (at.d - 1),
      c.keep_rest-in-loop-d.auto.rests ∙ at.invariant.2,
      is,
      rests_stored k ms at.rests (at.d - 1) at.invariant.2 (omega (arith, all, start.requires.0)) is c.keep_rest-in-loop-d.ensures
          (λ e l h. at.invariant.4 e (omega (arith, one)) h),
    )

pub returns : goal.returns
returns c =
    let start = c in
    let at = c.loop-d in
    let end : at.d ≡ 0 = omega arith in (
      at.invariant.3 ∙ ap (rest_of (shaped (length start.args.rest.now) start.args.shape) (numbers start.args.references.now)) end,
      record { long = at.invariant.2; each = λ d h. at.invariant.4 d (omega arith) h },
    )
