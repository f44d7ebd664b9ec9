-- `numbers::may_raise_some` meets its contract: a task whose number the row may raise is one of them. Assumes nothing.
use mathlib.Core.Path.{sym, ◌∙◌}
use native.Mathlib.Omega.{arith}
use lib.ListN.{get_or}
use Rattle.pairs.specs.Pairs.{may_raise, end_rows}
use Rattle.pairs.proofs.UsefulSets.{some_here}
use Rattle.pairs.proofs.numbers.may_raise_some.Goals as goal

pub returns-then-may_raise : goal.returns-then-may_raise
returns-then-may_raise c =
    let at = c.loop-j in
    let args = c.args in
    let ends = args.ends.now in
    let asked = c.may_raise.ensures (end_rows ends at.j) (rw (c.requires.0, c.one_of.ensures) (ends.are.joined at.j (omega arith))) in
    sym (some_here (λ j. may_raise args.row.now args.held (get_or args.numbers.now j 0) (end_rows ends j)) ends.tasks at.j (omega arith)
    (sym asked ∙ c.if-may_raise.true))
