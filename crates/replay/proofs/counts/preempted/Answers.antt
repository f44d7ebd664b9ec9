-- `counts::preempted` meets its contract: the row is that of the path's references, and the other run, the count and the lost hits stay. Assumes nothing.
use mathlib.Core.Path.{sym, ap, subst, ◌∙◌}
use mathlib.Core.List.{List}
use Prim.Native.Nat.{ℕ, ◌<◌}
use native.Mathlib.Omega.{arith}
use lib.ListN.{length}
use Rattle.cache.specs.References.{All}
use Rattle.cache.specs.Cache.{with_references}
use Rattle.cache.specs.Shape.{shaped}
use Rattle.model.specs.Tasks.{Task, references}
use Rattle.model.specs.Runs.{RowCount}
use Rattle.model.proofs.RunEvents.{own_row}
use Rattle.project.proofs.Accepted.{accepted-passed, file-holds}
use Rattle.reader.proofs.TaskBodies.{TaskBody, reading, body_kept, body-task}
use Rattle.reader.proofs.TaskBodies.{task-body as of-task}
use Rattle.runs.specs.Running.{row_count, held, both}
use Rattle.replay.proofs.counts.preempted.Goals as goal
use Rattle.replay.proofs.counts.preempted.Goals.{Start}

of-file : (c : Start) → TaskBody c.args.file.now c.args.j
of-file c = of-task c.args.file.now c.requires.0 c.args.j c.requires.1

pub run_path-by-requires : goal.run_path-by-requires
run_path-by-requires c =
    let start = c in
    let file = start.args.file.now in
    let at = of-file (goal.at.run_path-by-requires c).Start in
    let part = c.task_body.ensures.0 in (
      record {
        kept = body_kept file start.args.j at part;
        below = subst (λ (t : Task). All (λ b. b < length t) start.args.path.now) (sym (body-task file start.args.j at part)) start.requires.3;
      },
      file-holds 32 (omega arith) file (accepted-passed file _ (reading file start.requires.0)).0 start.requires.2,
      start.requires.4,
      omega (arith, start.requires.5),
    )

pub returns : goal.returns
returns c =
    let start = c in
    let k = shaped 32 start.args.shape in
    let path = start.args.path.now in
    let runs = start.args.runs in
    let same = body-task start.args.file.now start.args.j (of-file (goal.at.returns c).Start) c.task_body.ensures.0 in
    ap (λ (row : List ℕ). both (held runs.undisturbed) (row_count row runs.disturbed.misses) runs.lost) (
    ap (λ (a : RowCount). a.row) c.run_path-by.ensures ∙ own_row k (row_count runs.disturbed.cells 0) (references _ path)
    ∙ ap (λ (t : Task). with_references k runs.disturbed.cells (references t path)) same)
