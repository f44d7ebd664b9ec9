-- `complete_in` meets its contract: the body of a task of an accepted file keeps its layout, and its task is that of the file. Assumes nothing.
use mathlib.Core.Path.{ap, ◌∙◌}
use Rattle.sheet.specs.Parsed.{complete_path}
use Rattle.reader.proofs.TaskBodies.{TaskBody, body_kept, body-task}
use Rattle.reader.proofs.TaskBodies.{task-body as of-task}
use Rattle.sheet_checks.proofs.complete_in.Goals as goal
use Rattle.sheet_checks.proofs.complete_in.Goals.{Start}

of-file : (c : Start) → TaskBody c.args.file.now c.args.j
of-file c = of-task c.args.file.now c.requires.0 c.args.j c.requires.1

pub complete-requires : goal.complete-requires
complete-requires c = body_kept _ _ (of-file (goal.at.complete-requires c).Start) c.task_body.ensures.0

pub returns : goal.returns
returns c =
    let start = c in
    c.complete.ensures ∙ ap (λ t. complete_path t start.args.path.now) (body-task start.args.file.now start.args.j (of-file (goal.at.returns c).Start) c.task_body.ensures.0)
