-- `numbers::may_raise` meets its contract: a set has no more in common with another than it has. Assumes nothing.
use mathlib.Core.Path.{sym, ap, ◌∙◌}
use Prim.Native.Nat.{ℕ, ◌^◌, ◌<◌}
use native.Mathlib.Omega.{arith}
use lib.Dec.{ltb}
use lib.ListN.{length}
use lib.Bits.{bit_and}
use lib.Count.{ones}
use borrow.Author.Tests.{le-ltb}
use Rattle.cache.specs.Sets.{bits}
use borrow.Author.Rules.{rules}
use Rattle.row_sets.specs.Sets.{some_replaces}
use Rattle.cache.proofs.Bits.{and_ones}
use Rattle.pairs.proofs.numbers.may_raise.Goals as goal

pub returns-then-held-number : goal.returns-then-held-number
returns-then-held-number c = λ fs j.
    let args = c.args in
    let fits : args.held < 2 ^ 32 = search rules in
    let all = bits (length args.row.now) (some_replaces fs args.row.now) in
    sym (le-ltb args.number (ones (bit_and args.held all)) (omega (arith, and_ones 32 args.held all fits, c.if-held-number.true)))

pub returns : goal.returns
returns c = λ fs j.
    let args = c.args in
    ap (ltb args.number) (c.common.ensures ∙ ap (λ (x : ℕ). ones (bit_and args.held x)) (c.replaced_by_some.ensures fs j))
