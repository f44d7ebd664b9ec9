-- `states::fill_task` meets its contract: the body of the task keeps its layout, and check 11 of it is that of the task. Assumes nothing.
use Rattle.reader.proofs.TaskBodies.{TaskBody, body_kept}
use Rattle.reader.proofs.TaskBodies.{task-body as of-task}
use Rattle.states.proofs.Fillings.{too_many_lem, task-filled}
use Rattle.states.proofs.states.fill_task.Goals as goal
use Rattle.states.proofs.states.fill_task.Goals.{Start}

-- the task is one of an accepted file
of-file : (c : Start) → TaskBody c.args.file.now c.args.task
of-file c = of-task c.args.file.now c.requires.0 c.args.task c.requires.4

pub fill_body-requires : goal.fill_body-requires
fill_body-requires c =
    (body_kept c.args.file.now c.args.task (of-file (goal.at.fill_body-requires c).Start) c.task_body.ensures.0, c.requires.2, c.requires.3, c.requires.5)

pub returns-then-fill_body : goal.returns-then-fill_body
returns-then-fill_body c =
    too_many_lem c.args.w c.args.file.now c.args.task c.requires.0 c.requires.4
    c.task_body.ensures.0 c.requires.1 c.fill_body.ensures c.if-fill_body.true

pub returns : goal.returns
returns c =
    task-filled c.args.w c.args.file.now c.args.task c.requires.0 c.requires.4
    c.task_body.ensures.0 c.requires.1 c.fill_body.ensures c.if-fill_body.false
