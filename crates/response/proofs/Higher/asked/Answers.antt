-- `Higher::asked` meets its contract: the loop adds the terms of the higher tasks, each at most 10^15. Assumes nothing.
use mathlib.Core.Path.{◌≡◌, ap, ◌∙◌}
use Prim.Native.Nat.{ℕ, ◌≤◌, ◌*◌}
use native.Mathlib.Nat.{mul-le-mul}
use native.Mathlib.Omega.{arith}
use lib.ListN.{get_or}
use Rattle.response.specs.Response.{demand}
use Rattle.response.proofs.ResponseLaws.{demand-none, demand_turn}
use Rattle.response.proofs.Higher.asked.Goals as goal
use Rattle.response.proofs.Higher.asked.Goals.{After-releases}

pub loop-j-init : goal.loop-j-init
loop-j-init c = (omega arith, demand-none c.args.c c.args.self.now.periods c.args.self.now.costs c.args.r, omega arith)

pub releases-requires : goal.releases-requires
releases-requires c =
    let start = c in
    let b = start.requires.0 in
    (b.some c.loop-j.j (omega arith), omega (arith, start.requires.2), omega (arith, b.short c.loop-j.j (omega arith)))

-- a term is at most 10^15
term : (c : After-releases) → c.releases.result * get_or c.args.self.now.costs c.loop-j.j 0 ≤ 1000000 * 1000000000
term c =
    let few : c.releases.result ≤ 1000000 = omega (arith, c.releases.ensures.1, c.requires.2) in
    mul-le-mul few (c.requires.0.cheap c.loop-j.j (omega arith))

pub overflow_mul-sum : goal.overflow_mul-sum
overflow_mul-sum c = omega (arith, term (goal.at.overflow_mul-sum c).After-releases)

pub overflow_add-sum : goal.overflow_add-sum
overflow_add-sum c = omega (arith, term (goal.at.overflow_add-sum c).After-releases)

pub loop-j-preserved : goal.loop-j-preserved
loop-j-preserved c =
    let at = c.loop-j in
    let args = c.args in
    (omega arith, demand_turn args.c args.self.now.periods args.self.now.costs args.r at.j at.invariant.1 c.releases.ensures.0, omega (arith, term (goal.at.loop-j-preserved c).After-releases))

pub returns : goal.returns
returns c =
    let at = c.loop-j in
    let args = c.args in
    let e : at.j ≡ args.self.now.count = omega arith in
    at.invariant.1 ∙ ap (λ (j : ℕ). demand args.c args.self.now.periods args.self.now.costs j args.r) e
