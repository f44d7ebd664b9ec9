-- `replay_sheet` meets its contract: the first number at fault and then the checks on all runs decide. Assumes nothing.
use mathlib.Core.Path.{◌≡◌, sym, ◌∙◌}
use Rattle.std.specs.Prelude.{Ok}
use Rattle.project.proofs.Checklists.{refused_by}
use Rattle.nested_replay.specs.NestedReplay.{nested_sheet_check, numbers_check}
use Rattle.nested_replay.specs.Passes.{runs_check}
use Rattle.nested_replay.proofs.CallLaws.{tasks_few, numbers_refused, sheet-reads, sheet-runs, call_sheet, ready, call_counted}
use Rattle.nested_replay.proofs.replay_sheet.Goals as goal
use Rattle.nested_replay.proofs.replay_sheet.Goals.{In_ok-check_numbers, In_ok-check_runs}

-- no number is at fault, and so the checks on all runs are the checks on the sheet
numbers : (c : In_ok-check_numbers) → numbers_check c.args.tasks c.args.sheet.now ≡ Ok tt
numbers c = sym c.check_numbers.ensures ∙ c.in_ok-check_numbers.was

runs : (c : In_ok-check_numbers) → nested_sheet_check c.args.file.now c.args.sheet.now ≡ runs_check c.args.file.now c.args.sheet.now
runs c = sheet-runs c.args.file.now c.args.sheet.now c.requires.0 c.requires.1 (numbers c)

-- the checks on the sheet pass
passed : (c : In_ok-check_runs) → nested_sheet_check c.args.file.now c.args.sheet.now ≡ Ok tt
passed c = sheet-runs c.args.file.now c.args.sheet.now c.requires.0 c.requires.1 (sym c.check_numbers.ensures ∙ c.in_ok-check_numbers.was) ∙ sym c.check_runs.ensures ∙ c.in_ok-check_runs.was

pub check_numbers-requires : goal.check_numbers-requires
check_numbers-requires c = tasks_few c.args.file.now c.args.sheet.now c.requires.0 c.requires.1

pub returns-in_err-check_numbers : goal.returns-in_err-check_numbers
returns-in_err-check_numbers c =
    refused_by c.from_residual.ensures
    ∙ call_sheet c.args.file.now c.args.sheet.now c.requires.0 (numbers_refused c.args.file.now c.args.sheet.now c.requires.0 c.requires.1 (sym c.check_numbers.ensures ∙ c.in_err-check_numbers.was))

pub check_runs-requires : goal.check_runs-requires
check_runs-requires c = (sheet-reads c.args.file.now c.args.sheet.now c.requires.0 c.requires.1 (numbers (goal.at.check_runs-requires c).In_ok-check_numbers), c.task_maps-maps.ensures)

pub returns-in_err-check_runs : goal.returns-in_err-check_runs
returns-in_err-check_runs c =
    refused_by c.from_residual-in_err-check_runs.ensures
    ∙ call_sheet c.args.file.now c.args.sheet.now c.requires.0 (runs (goal.at.returns-in_err-check_runs c).In_ok-check_numbers ∙ sym c.check_runs.ensures ∙ c.in_err-check_runs.was)

pub total_misses-requires : goal.total_misses-requires
total_misses-requires c = (c.task_maps-maps.ensures, ready c.args.file.now c.args.sheet.now c.requires.0 (passed (goal.at.total_misses-requires c).In_ok-check_runs), c.requires.2)

pub returns : goal.returns
returns c = call_counted c.args.file.now c.args.sheet.now c.requires.0 (passed (goal.at.returns c).In_ok-check_runs) c.total_misses.ensures
