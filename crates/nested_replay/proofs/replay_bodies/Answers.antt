-- `replay_bodies` meets its contract: the reading of the bodies and then the sheet decide. Assumes nothing.
use mathlib.Core.Path.{sym, ◌∙◌}
use Rattle.project.proofs.Checklists.{refused_by}
use Rattle.nested_replay.proofs.CallLaws.{call_refused}
use Rattle.nested_replay.proofs.replay_bodies.Goals as goal

pub returns-in_err-accepted : goal.returns-in_err-accepted
returns-in_err-accepted c = refused_by c.from_residual.ensures ∙ call_refused c.args.file.now c.args.sheet.now (sym c.read_bodies.ensures ∙ c.in_err-accepted.was)
