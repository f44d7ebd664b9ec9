-- `read_bodies` meets its contract: each way out is a way of the reading. Assumes nothing.
use mathlib.Core.Path.{◌≡◌, sym, ap, ◌∙◌}
use mathlib.Core.Bool.{true}
use native.Mathlib.Omega.{arith}
use Rattle.std.specs.Prelude.{Err}
use Rattle.project.specs.declared.answers.Check.{Check}
use Rattle.project.specs.declared.answers.Check.TheVariants.{WrongContents}
use Rattle.project.specs.File.{edition, task_count, bodies_start, bodies}
use Rattle.project.specs.Checklist.{no_task, refusal}
use Rattle.project.specs.Reading.{contents_fit, tasks_check}
use Rattle.project.proofs.Checklists.{refused_by}
use Rattle.reader.proofs.ReadLaws.{HeadPassed, head_passed, fit_found, fit_none, read_contents, read_tasks, read_accepted, ends-order, ends-bodies}
use Rattle.reader.proofs.read_bodies.Goals as goal
use Rattle.reader.proofs.read_bodies.Goals.{After-check_tasks, In_ok-ends, Start}

head : (c : Start) → HeadPassed c.args.file.now
head c = head_passed 1 _ c.requires

-- past the contents, which fit
fit : (c : In_ok-ends) → contents_fit c.args.file.now (task_count c.args.file.now) 0 (bodies_start (edition c.args.file.now) (task_count c.args.file.now)) ≡ true
fit c = fit_found c.args.file.now c.byte_count.ensures.0 (sym c.contents.ensures ∙ c.in_ok-ends.ensures.ok_part)

bodies-checked : (c : After-check_tasks) → c.check_tasks.result ≡ tasks_check (bodies c.args.file.now)
bodies-checked c =
    let found = sym c.contents.ensures ∙ c.in_ok-ends.ensures.ok_part in
    c.check_tasks.ensures
    ∙ ap tasks_check (ends-bodies 1 c.args.file.now c.requires (fit_found c.args.file.now c.byte_count.ensures.0 found) _ c.byte_count.ensures.0 _ found c.byte_count-2.ensures.0)

pub contents-requires : goal.contents-requires
contents-requires c =
    let h = head (goal.at.contents-requires c).Start in
    (omega (arith, h.some, c.byte_count.ensures), omega (arith, h.few, c.byte_count.ensures), omega (arith, h.long))

pub returns-in_err-ends : goal.returns-in_err-ends
returns-in_err-ends c =
    let none = sym c.contents.ensures ∙ c.in_err-ends.ensures.ok_part in
    let which = rw c.in_err-ends.ensures.ok_part at c.in_err-ends.ensures.value in
    let same : c.in_err-ends.field-0.0 ≡ WrongContents = cc in
    refused_by c.from_residual.ensures
    ∙ ap (λ (k : Check). Err (refusal k no_task)) same
    ∙ read_contents 1 c.args.file.now c.requires (fit_none c.args.file.now c.byte_count.ensures.0 none)

pub check_tasks-requires : goal.check_tasks-requires
check_tasks-requires c =
    let found = sym c.contents.ensures ∙ c.in_ok-ends.ensures.ok_part in
    ends-order 1 c.args.file.now c.requires (fit (goal.at.check_tasks-requires c).In_ok-ends) _ c.byte_count.ensures.0 _ found (head (goal.at.check_tasks-requires c).Start).few c.byte_count-2.ensures.0

pub returns-in_err-check_tasks : goal.returns-in_err-check_tasks
returns-in_err-check_tasks c =
    refused_by c.from_residual-in_err-check_tasks.ensures
    ∙ read_tasks 1 c.args.file.now c.requires (fit (goal.at.returns-in_err-check_tasks c).In_ok-ends) (sym (bodies-checked (goal.at.returns-in_err-check_tasks c).After-check_tasks) ∙ c.in_err-check_tasks.was)

pub returns : goal.returns
returns c =
    read_accepted 1 c.args.file.now c.requires (fit (goal.at.returns c).In_ok-ends) (sym (bodies-checked (goal.at.returns c).After-check_tasks) ∙ c.in_ok-check_tasks.was)
