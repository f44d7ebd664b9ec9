-- `replay_bodies` meets its contract: the reading of the bodies and then the checks on the sheet decide. Assumes nothing.
use Rattle.std.proofs.Common.{sym, ◌∙◌}
use Rattle.project.proofs.Checklists.{refused_by}
use Rattle.replay.proofs.CallLaws.{call_refused, call_sheet, ready}
use Rattle.replay.proofs.replay_bodies.Goals as goal

pub returns-in_err-accepted : goal.returns-in_err-accepted
returns-in_err-accepted c = refused_by c.from_residual.ensures ∙ call_refused c.args.file.now c.args.sheet.now (sym c.read_bodies.ensures ∙ c.in_err-accepted.was)

pub returns-in_err-check_sheet : goal.returns-in_err-check_sheet
returns-in_err-check_sheet c =
    refused_by c.from_residual-in_err-check_sheet.ensures
    ∙ call_sheet c.args.file.now c.args.sheet.now (sym c.read_bodies.ensures ∙ c.in_ok-accepted.was) (sym c.check_sheet.ensures ∙ c.in_err-check_sheet.was)

pub run_counts-requires : goal.run_counts-requires
run_counts-requires c = (ready c.args.file.now c.args.sheet.now (sym c.read_bodies.ensures ∙ c.in_ok-accepted.was) (sym c.check_sheet.ensures ∙ c.in_ok-check_sheet.was), c.file_shape.ensures)
