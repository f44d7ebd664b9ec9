-- `pairs_by` meets its contract: the loop adds the pair numbers of the tasks j + 1 to i. Assumes nothing.
use mathlib.Core.Path.{◌≡◌, refl, ap, ◌∙◌}
use Prim.Native.Nat.{ℕ, ◌-◌, ◌+◌}
use Rattle.cache.specs.Sum.{sum}
use Rattle.response.specs.Response.{g}
use Rattle.response.specs.Times.{table_pair}
use Rattle.response.proofs.ResponseLaws.{sum_turn}
use native.Mathlib.Omega.{arith}
use Rattle.response.proofs.pairs_by.Goals as goal

pub loop-k-init : goal.loop-k-init
loop-k-init c = (refl, omega arith, refl, omega arith)

pub loop-k-preserved : goal.loop-k-preserved
loop-k-preserved c =
    let at = c.loop-k in
    let args = c.args in
    (refl, omega arith, sum_turn (λ (h : ℕ). table_pair args.numbers.now (args.j + 1 + h) args.j) at.k at.invariant.2 c.from-sum.ensures, omega (arith, c.from-sum.ensures))

pub returns : goal.returns
unfolding g
returns c =
    let at = c.loop-k in
    let args = c.args in
    let e : at.k ≡ args.i - args.j = omega arith in
    (at.invariant.2 ∙ ap (λ (k : ℕ). sum k (λ (h : ℕ). table_pair args.numbers.now (args.j + 1 + h) args.j)) e, omega arith)
