-- `costliest::run_of_two` meets its contract: check 11 of the two tasks, and then the run. Assumes nothing.
use mathlib.Core.Path.{◌≡◌, sym, subst, ◌∙◌}
use mathlib.Core.Bool.{Bool}
use native.Mathlib.Omega.{arith}
use Rattle.cache.specs.Shape.{shaped}
use Rattle.cache.specs.declared.blocks.CacheShape.{CacheShape}
use Rattle.model.specs.Tasks.{task}
use Rattle.project.specs.File.{task_count}
use Rattle.project.specs.Checklist.{verdict_of}
use Rattle.project.specs.Tasks.{tasks_of, file_cache_in}
use Rattle.reader.proofs.TaskBodies.{tasks_long}
use Rattle.task_trails.specs.TaskTrails.{AreaTrails}
use Rattle.costliest.specs.Costliest.{two_checks}
use Rattle.costliest.proofs.FoundRows.{few_tasks}
use Rattle.costliest.proofs.CostliestVerdicts.{two_tasks, two_verdict, both-passed}
use Rattle.project.proofs.Checklists.{refused_by}
use Rattle.costliest.proofs.Answers.{answer_as, refused_as}
use Rattle.costliest.proofs.run_of_two.Goals as goal
use Rattle.costliest.proofs.run_of_two.Goals.{After-check_two}

pub find_trails-own-requires : goal.find_trails-own-requires
find_trails-own-requires c =
    let start = c in
    (start.requires.0, start.requires.1, start.requires.2, start.requires.3, (two_tasks (task_count start.args.file.now) start.args.i start.args.j start.requires.4).0, start.requires.6)

pub find_trails-other-requires : goal.find_trails-other-requires
find_trails-other-requires c =
    let start = c in
    (start.requires.0, start.requires.1, start.requires.2, start.requires.3, (two_tasks (task_count start.args.file.now) start.args.i start.args.j start.requires.4).1, start.requires.7)

pub check_two-requires : goal.check_two-requires
check_two-requires c =
    let start = c in
    let few = few_tasks start.args.file.now start.requires.0 in
    (omega (arith, (two_tasks (task_count start.args.file.now) start.args.i start.args.j start.requires.4).0, few), omega (arith, (two_tasks (task_count start.args.file.now) start.args.i start.args.j start.requires.4).1, few))

-- the states of the two tasks, in rows of the file's cache
own-trails : (c : After-check_two)
    → let start = c in
    let found = c.find_trails-own in
    AreaTrails (file_cache_in start.args.w start.args.file.now) (task (tasks_of start.args.file.now) start.args.i) found.new.area
    found.result.reached found.result.lived found.result.to found.result.on found.result.full
own-trails c =
    let start = c in
    let found = c.find_trails-own in
    subst (λ (x : CacheShape). AreaTrails (shaped start.args.w x) (task (tasks_of start.args.file.now) start.args.i) found.new.area
    found.result.reached found.result.lived found.result.to found.result.on found.result.full) start.requires.1 found.ensures

other-trails : (c : After-check_two)
    → let start = c in
    let found = c.find_trails-other in
    AreaTrails (file_cache_in start.args.w start.args.file.now) (task (tasks_of start.args.file.now) start.args.j) found.new.area
    found.result.reached found.result.lived found.result.to found.result.on found.result.full
other-trails c =
    let start = c in
    let found = c.find_trails-other in
    subst (λ (x : CacheShape). AreaTrails (shaped start.args.w x) (task (tasks_of start.args.file.now) start.args.j) found.new.area
    found.result.reached found.result.lived found.result.to found.result.on found.result.full) start.requires.1 found.ensures

-- what check 11 of the two says
told : (c : After-check_two) → verdict_of (two_checks c.args.w c.args.file.now c.args.i c.args.j) ≡ c.check_two.result
told c =
    let start = c in
    let s = start.args.file.now in
    let (hi, hj, ne) = two_tasks (task_count start.args.file.now) start.args.i start.args.j start.requires.4 in
    two_verdict start.args.w s start.args.i start.args.j (rw (tasks_long s) hi) (rw (tasks_long s) hj) ne (own-trails c).rows.rows.answer (other-trails c).rows.rows.answer
    ∙ sym c.check_two.ensures

pub write_run-requires : goal.write_run-requires
write_run-requires c =
    let start = c in
    let e = c in
    let own = e.find_trails-own in
    let other = e.find_trails-other in
    let (p, q) = both-passed start.args.i start.args.j own.result.full other.result.full (sym e.check_two.ensures ∙ c.in_ok-check_two.was) in (
      start.requires.0,
      start.requires.1,
      start.requires.2,
      start.requires.4,
      start.requires.5,
      subst (λ (b : Bool). AreaTrails (file_cache_in start.args.w start.args.file.now) (task (tasks_of start.args.file.now) start.args.i) own.new.area
          own.result.reached own.result.lived own.result.to own.result.on b) p (own-trails (goal.at.write_run-requires c).After-check_two),
      subst (λ (b : Bool). AreaTrails (file_cache_in start.args.w start.args.file.now) (task (tasks_of start.args.file.now) start.args.j) other.new.area
          other.result.reached other.result.lived other.result.to other.result.on b) q (other-trails (goal.at.write_run-requires c).After-check_two),
    )

pub returns-in_err-check_two : goal.returns-in_err-check_two
returns-in_err-check_two c =
    let start = c in
    let e = c in
    (refused_as start.args.file.now start.args.i start.args.j start.args.sheet.now (told (goal.at.returns-in_err-check_two c).After-check_two ∙ c.in_err-check_two.was) (refused_by c.from_residual.ensures), (own-trails (goal.at.returns-in_err-check_two c).After-check_two).rows.long, (other-trails (goal.at.returns-in_err-check_two c).After-check_two).rows.long)

pub returns : goal.returns
returns c =
    let start = c in
    let e = c in
    (answer_as start.args.file.now start.args.i start.args.j start.args.sheet.now _ c.write_run.result (told (goal.at.returns c).After-check_two ∙ c.in_ok-check_two.was) c.write_run.ensures, (own-trails (goal.at.returns c).After-check_two).rows.long, (other-trails (goal.at.returns c).After-check_two).rows.long)
