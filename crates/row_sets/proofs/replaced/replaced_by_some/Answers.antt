-- `replaced::replaced_by_some` meets its contract, by the law of one row for all end rows. Assumes nothing.
use mathlib.Core.Path.{ap, ◌∙◌}
use Prim.Native.Nat.{ℕ}
use borrow.Author.Rules.{rules}
use Rattle.cache.specs.Sets.{replaces, bits}
use Rattle.row_sets.proofs.OneRow.{joined-replaces}
use Rattle.row_sets.proofs.replaced.replaced_by_some.Goals as goal

pub replaced-requires : goal.replaced-requires
replaced-requires c = (rw c.requires.1 c.requires.0.chunks, rw c.requires.1 c.requires.0.narrow, search rules)

pub returns : goal.returns
returns c = λ fs joined.
    let start = c in
    let one = start.args.one.now in
    let row = start.args.row.now in
    joined-replaces fs one row joined (c.replaced.ensures ∙ ap (λ (n : ℕ). bits n (replaces one row)) start.requires.1)
