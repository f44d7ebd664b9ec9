-- `numbers::raised` meets its contract: the most is no more than what the set has in common with `all`. Assumes nothing.
use Prim.Native.Nat.{◌^◌, ◌<◌}
use native.Mathlib.Omega.{arith}
use borrow.Author.Rules.{rules}
use Rattle.pairs.proofs.Meeting.{most-few}
use Rattle.pairs.proofs.numbers.raised.Goals as goal

pub returns-then-common-number : goal.returns-then-common-number
returns-then-common-number c = omega (arith, c.requires)

pub overflow_cast-most : goal.overflow_cast-most
overflow_cast-most c =
    let start = c in
    let fits : start.args.set < 2 ^ 32 = search rules in
    omega (arith, most-few start.args.set start.args.sets.now fits)
