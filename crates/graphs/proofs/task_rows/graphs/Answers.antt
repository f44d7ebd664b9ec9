-- `task_rows::graphs` meets its contract: the walked body is the body of a task. Assumes nothing.
use mathlib.Core.Path.{sym, ap, ◌∙◌}
use lib.ListN.{length}
use Rattle.body.specs.Decode.{decode, task_of}
use Rattle.body.specs.Jumps.{jump_sets}
use Rattle.body.proofs.JumpLaws.{kept_task}
use Rattle.cache.specs.Shape.{shaped}
use Rattle.graphs.specs.Graphs.{first_rows, last_rows}
use Rattle.graphs.proofs.task_rows.graphs.Goals as goal

pub returns : goal.returns
returns c =
    let same = c.kept_walk-walked.ensures in
    let f = kept_task c.kept_walk-walked.result same in
    let k = shaped c.args.w c.args.shape in (
      f.long ∙ sym (ap length f.same),
      c.jumps.ensures ∙ ap (λ b. jump_sets (task_of (decode b))) same,
      c.prepare.ensures.0 ∙ ap (λ b. first_rows k (task_of (decode b))) same,
      c.prepare.ensures.1 ∙ ap (λ b. last_rows k (task_of (decode b))) same,
    )
