-- `higher_than` meets its contract. Assumes nothing.
use mathlib.Core.Path.{refl, ap}
use Prim.Native.Nat.{ℕ, ◌≤◌, ◌*◌, ◌+◌}
use native.Mathlib.Nat.{mul-le-mul}
use lib.ListN.{get_or, length-set}
use Rattle.response.specs.Response.{g}
use Rattle.response.specs.Times.{table_pair}
use Rattle.response.proofs.ResponseLaws.{costs_turn}
use native.Mathlib.Omega.{arith}
use Rattle.response.proofs.higher_than.Goals as goal
use Rattle.response.proofs.higher_than.Goals.{After-pairs_by}

pub loop-j-init : goal.loop-j-init
loop-j-init c = (omega arith, refl, λ h l. absurd (omega arith))

-- what the preemptions cost
term : (c : After-pairs_by) → c.args.penalty * c.pairs_by.result ≤ 1000 * 524280
term c = mul-le-mul c.requires.2 c.pairs_by.ensures.1

-- the execution time
short : (c : After-pairs_by) → get_or c.args.times.now.c c.loop-j.j 0 ≤ 1000000
short c = (c.requires.3 c.loop-j.j (omega arith)).most_c

pub overflow_mul-costs : goal.overflow_mul-costs
overflow_mul-costs c = omega (arith, term c)

pub overflow_add-costs : goal.overflow_add-costs
overflow_add-costs c = omega (arith, term c, short c)

pub loop-j-preserved : goal.loop-j-preserved
loop-j-preserved c =
    let at = c.loop-j in
    let args = c.args in (
      omega arith,
      simp length-set at.invariant.1,
      costs_turn (λ (h : ℕ). get_or args.times.now.c h 0 + args.penalty * g (table_pair args.numbers.now) args.i h) at.costs 1000000000 at.j
          (get_or args.times.now.c at.j 0 + args.penalty * c.pairs_by.result) (omega arith) at.invariant.2
          (ap (λ (x : ℕ). get_or args.times.now.c at.j 0 + args.penalty * x) c.pairs_by.ensures.0) (omega (arith, term c, short c)),
    )

pub returns : goal.returns
returns c =
    let at = c.loop-j in (
      record {
        few = omega arith;
        some = λ j l. (c.requires.3 j l).some_t;
        short = λ j l. (c.requires.3 j l).most_t;
        cheap = λ j l. (at.invariant.2 j (omega arith)).1;
      },
      refl,
      refl,
      λ j l. (at.invariant.2 j (omega arith)).0,
    )
