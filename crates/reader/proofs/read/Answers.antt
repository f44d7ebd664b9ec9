-- `read` meets its contract: a head at fault is the answer, and a head that passed leaves the bodies. Assumes nothing.
use mathlib.Core.Path.{sym, ◌∙◌}
use Rattle.project.proofs.Checklists.{refused_by}
use Rattle.reader.proofs.ReadLaws.{head_refused}
use Rattle.reader.proofs.read.Goals as goal

pub returns-in_err-head : goal.returns-in_err-head
returns-in_err-head c = refused_by c.from_residual.ensures ∙ head_refused 1 c.args.file.now (sym c.head.ensures ∙ c.in_err-head.was)
