-- `are_wrong` meets its contract. Assumes nothing.
use mathlib.Core.Path.{sym, ◌∙◌}
use native.Mathlib.Omega.{arith}
use Rattle.responses.specs.Plan.{wrong_at}
use Rattle.responses.proofs.TimesLaws.{any_has}
use Rattle.responses.proofs.plan.are_wrong.Goals as goal

pub returns-then-is_wrong : goal.returns-then-is_wrong
returns-then-is_wrong c =
    sym (any_has (wrong_at c.args.times.now) c.args.tasks c.loop-i.i (omega arith) (sym c.is_wrong.ensures ∙ c.if-is_wrong.true))
