-- The first records have their R, and the others are as they were.
use mathlib.Core.Path.{◌≡◌}
use Rattle.response.specs.Times.{with_responses}
use Rattle.responses.specs.Plan.{plan_response}
use Rattle.responses.proofs.set_responses.Given as goal

abbrev pub invariant-loop-i : goal.invariant-loop-i
invariant-loop-i l = l.list ≡ with_responses (plan_response l.plan) 0 l.i l.fn.list
