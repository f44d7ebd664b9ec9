-- `answered` meets its contract. Assumes nothing.
use mathlib.Core.Path.{sym, ◌∙◌}
use native.Mathlib.Omega.{arith}
use Rattle.response.proofs.ResponseLaws.{is_met, with_r, with_none}
use Rattle.response.proofs.answered.Goals as goal

pub overflow_cast-r : goal.overflow_cast-r
overflow_cast-r c = omega (arith, (is_met _ (sym c.response_of.ensures.0 ∙ c.in-Some.is)).0, c.response_of.ensures.1)

pub returns-in-Some : goal.returns-in-Some
returns-in-Some c = with_r c.args.task _ (sym c.response_of.ensures.0 ∙ c.in-Some.is)

pub returns-in-None : goal.returns-in-None
returns-in-None c = with_none c.args.task _ (sym c.response_of.ensures.0 ∙ c.in-None.is)
