-- `nested_replay` meets its contract: a head at fault is the answer, and a head that passed leaves the bodies. Assumes nothing.
use mathlib.Core.Path.{sym, ◌∙◌}
use Rattle.project.proofs.Checklists.{refused_by}
use Rattle.reader.proofs.ReadLaws.{head_refused}
use Rattle.nested_replay.proofs.CallLaws.{call_refused}
use Rattle.nested_replay.proofs.nested_replay.Goals as goal

pub replay_bodies-requires : goal.replay_bodies-requires
replay_bodies-requires c = sym c.head.ensures ∙ c.in_ok-head.was

pub returns-in_err-head : goal.returns-in_err-head
returns-in_err-head c =
    refused_by c.from_residual.ensures ∙ call_refused c.args.file.now c.args.sheet.now (sym (head_refused 1 c.args.file.now (sym c.head.ensures ∙ c.in_err-head.was)))
