-- `response_of` meets its contract. Assumes nothing.
use mathlib.Core.Path.{refl, ap, ◌∙◌}
use Prim.Native.Nat.{ℕ}
use lib.ListN.{get_or}
use Rattle.response.specs.Response.{right_side, demand}
use Rattle.response.specs.Times.{met, table_pair}
use Rattle.response.proofs.ResponseLaws.{same_demand, same_answer, answer_le}
use native.Mathlib.Omega.{arith}
use Rattle.response.proofs.response_of.Goals as goal

pub higher_than-requires : goal.higher_than-requires
higher_than-requires c = (c.requires.0, c.requires.1, c.requires.2, λ j l. c.requires.3 j (omega arith))

pub response-requires : goal.response-requires
response-requires c =
    let own = c.requires.3 c.args.i (omega arith) in
    (c.higher_than.ensures.0, own.some_c, own.most_c, omega (arith, own.order, own.most_t))

pub returns : goal.returns
returns c =
    let args = c.args in
    let times = args.times.now in
    let own = c.requires.3 args.i (omega arith) in
    let d = get_or times.d args.i 0 in
    let higher = c.higher_than in
    let f = demand (get_or times.c args.i 0) times.t higher.result.costs args.i in
    let own-c : ℕ → ℕ = λ j. get_or times.c j 0 in
    let own-t : ℕ → ℕ = λ j. get_or times.t j 0 in
    let same = same_answer f (right_side own-c own-t (table_pair args.numbers.now) args.penalty args.i) d
    (same_demand own-c own-t times.t (table_pair args.numbers.now) args.penalty args.i higher.result.costs (λ j l. refl) higher.ensures.3) in
    let told = rw (higher.ensures.1, higher.ensures.2) at c.response.ensures in
    (told ∙ ap met same, omega (arith, same, answer_le f d, own.order, own.most_t))
