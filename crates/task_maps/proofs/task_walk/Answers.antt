-- `task_walk` meets its contract: each body of an accepted file keeps its layout. Assumes nothing.
use Rattle.reader.proofs.TaskBodies.{body_kept, task-body}
use Rattle.task_maps.proofs.task_walk.Goals as goal

pub kept_walk-requires : goal.kept_walk-requires
kept_walk-requires c = body_kept c.args.file.now c.args.j (task-body c.args.file.now c.requires.0 c.args.j c.requires.1) c.task_body.ensures.0
