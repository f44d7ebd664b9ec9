-- `Row::first_of` meets its contract, by the two cases of its test. Assumes nothing.
use mathlib.Core.Path.{sym, ◌∙◌}
use Rattle.cache.specs.References.{nothing}
use Rattle.cache.proofs.Firsts.{first_of-none, first_of-some}
use Rattle.cache.proofs.row.Row.first_of.Goals as goal

pub returns-then-old : goal.returns-then-old
unfolding nothing
returns-then-old c =
    let read = c in
    sym (first_of-none read.args.m.0 (sym read.held-old.ensures ∙ c.if-old.true))

pub returns-else-old : goal.returns-else-old
unfolding nothing
returns-else-old c =
    let read = c in
    c.new.ensures ∙ read.held-old.ensures ∙ sym (first_of-some read.args.m.0 (λ e. c.if-old.false (read.held-old.ensures ∙ e)))
