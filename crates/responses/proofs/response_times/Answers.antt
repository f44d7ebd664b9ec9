-- `response_times` meets its contract: the plan by the times of the list, set in the list. Assumes nothing.
use mathlib.Core.Path.{◌≡◌, sym, ap, ◌∙◌}
use native.Mathlib.Omega.{arith}
use Rattle.std.proofs.Common.{rules}
use Rattle.std.specs.Prelude.{Ok, Err}
use Rattle.project.specs.declared.answers.Refusal.{Refusal}
use Rattle.response.specs.declared.Times.{Times}
use Rattle.response.specs.Times.{with_responses}
use Rattle.responses.specs.Plan.{times_of, plan_of}
use Rattle.responses.proofs.PlanLaws.{found_ready, found_list, none_found}
use Rattle.responses.proofs.response_times.Goals as goal
use Rattle.responses.proofs.response_times.Goals.{After-planned, In-Ok}

-- the plan by the times of the list
planned_as : (c : After-planned) → plan_of 16 c.args.file.now c.args.area.now (times_of c.args.list.now) c.args.penalty ≡ c.planned.result
planned_as c =
    ap (λ (x : Times). plan_of 16 c.args.file.now c.args.area.now x c.args.penalty) (sym c.times_of.ensures) ∙ sym c.planned.ensures.0

found : (c : In-Ok) → plan_of 16 c.args.file.now c.args.area.now (times_of c.args.list.now) c.args.penalty ≡ Ok c.in-Ok.plan
found c =
    ap (λ (x : Times). plan_of 16 c.args.file.now c.args.area.now x c.args.penalty) (sym c.times_of.ensures) ∙ sym c.planned.ensures.0 ∙ c.in-Ok.is

pub set_responses-requires : goal.set_responses-requires
set_responses-requires c =
    let ready = found_ready 16 c.args.file.now c.args.area.now c.args.list.now c.args.penalty (found (goal.at.set_responses-requires c).In-Ok) in
    (ready.0, omega (arith, ready.1))

pub returns-in-Ok : goal.returns-in-Ok
returns-in-Ok c =
    let ready = found_ready 16 c.args.file.now c.args.area.now c.args.list.now c.args.penalty (found (goal.at.returns-in-Ok c).In-Ok) in
    let set = found_list 16 c.args.file.now c.args.area.now c.args.list.now c.args.penalty (found (goal.at.returns-in-Ok c).In-Ok) (rw ready.1 at c.set_responses.ensures) in
    (set.0, set.1, c.planned.ensures.1)

-- no record is set
pub returns-in-Err : goal.returns-in-Err
unfolding with_responses
returns-in-Err c =
    let kept = none_found 16 c.args.file.now c.args.area.now c.args.list.now c.args.penalty (planned_as (goal.at.returns-in-Err c).After-planned ∙ c.in-Err.is) (ap (λ (r : Refusal). Err r) c.into.ensures) in
    (kept.0, search rules ∙ kept.1, c.planned.ensures.1)
