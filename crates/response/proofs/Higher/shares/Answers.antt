-- `Higher::shares` meets its contract: the loop adds the shares of the higher tasks, each at most 10^9 times 2^30. Assumes nothing.
use mathlib.Core.Path.{◌≡◌, refl, ap, ◌∙◌}
use Prim.Native.Nat.{ℕ, ◌≤◌, ◌*◌, ◌/◌}
use native.Mathlib.Nat.{div-le_self}
use native.Mathlib.Omega.{arith}
use lib.ListN.{get_or}
use Rattle.response.specs.Iteration.{load}
use Rattle.response.proofs.ResponseLaws.{load-none, load_turn}
use Rattle.response.proofs.Higher.shares.Goals as goal
use Rattle.response.proofs.Higher.shares.Goals.{In-loop-j}

pub loop-j-init : goal.loop-j-init
loop-j-init c = (omega arith, load-none c.args.self.now.periods c.args.self.now.costs, omega arith)

-- a share is at most 10^9 times 2^30
term : (c : In-loop-j) → get_or c.args.self.now.costs c.loop-j.j 0 * 1073741824 / get_or c.args.self.now.periods c.loop-j.j 0 ≤ 1073741824000000000
term c =
    let cost = get_or c.args.self.now.costs c.loop-j.j 0 in
    let few : cost ≤ 1000000000 = c.requires.cheap c.loop-j.j (omega arith) in
    omega (arith, div-le_self (cost * 1073741824) (get_or c.args.self.now.periods c.loop-j.j 0))

pub overflow_mul-sum : goal.overflow_mul-sum
overflow_mul-sum c = omega (arith, c.requires.cheap c.loop-j.j (omega arith))

pub nonzero_div-sum : goal.nonzero_div-sum
nonzero_div-sum c = c.requires.some c.loop-j.j (omega arith)

pub overflow_add-sum : goal.overflow_add-sum
overflow_add-sum c = omega (arith, term (goal.at.overflow_add-sum c).In-loop-j)

pub loop-j-preserved : goal.loop-j-preserved
loop-j-preserved c =
    let at = c.loop-j in
    let args = c.args in
    (omega arith, load_turn args.self.now.periods args.self.now.costs at.j at.invariant.1 refl, omega (arith, term (goal.at.loop-j-preserved c).In-loop-j))

pub returns : goal.returns
returns c =
    let at = c.loop-j in
    let args = c.args in
    let e : at.j ≡ args.self.now.count = omega arith in
    at.invariant.1 ∙ ap (λ (j : ℕ). load args.self.now.periods args.self.now.costs j) e
