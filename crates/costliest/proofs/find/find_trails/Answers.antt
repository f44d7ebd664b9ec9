-- `find::find_trails` meets its contract: the task of the body is the task of the file. Assumes nothing.
use Rattle.cache.specs.Shape.{shaped}
use Rattle.reader.proofs.TaskBodies.{task-body, body_kept}
use Rattle.costliest.proofs.FindLaws.{file_trails}
use Rattle.costliest.proofs.find.find_trails.Goals as goal

pub task_trails-requires : goal.task_trails-requires
task_trails-requires c =
    let args = c.args in (
      body_kept args.file.now args.number (task-body args.file.now c.requires.0 args.number c.requires.4) c.task_body.ensures.0,
      c.requires.2,
      c.requires.3,
      c.requires.5,
    )

pub returns : goal.returns
returns c =
    let args = c.args in
    file_trails (shaped args.w args.shape) args.file.now args.number c.requires.0 c.requires.4 c.task_body.result.now _ _ _ _ _ _ c.task_body.ensures.0 c.task_trails.ensures
