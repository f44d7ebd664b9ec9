-- `checks::check_runs` meets its contract: what is told of the outer run decides, all paths and points first, and then masks. Assumes nothing.
use mathlib.Core.Path.{sym, ap, ◌∙◌}
use Rattle.std.specs.Prelude.{Err}
use borrow.Author.Tests.{not-true, not-false}
use Rattle.nested_replay.proofs.CallLaws.{runs_13, runs_16, runs-passed}
use Rattle.nested_replay.proofs.checks.check_runs.Goals as goal

pub returns-in_default : goal.returns-in_default
returns-in_default c = ap Err c.into.ensures ∙ runs_13 c.args.input.now.file.now c.args.input.now.sheet.now (sym c.in_default.is ∙ c.check_run.ensures)

pub returns-then-not-all : goal.returns-then-not-all
returns-then-not-all c = ap Err c.into-then-not-all.ensures ∙ runs_16 c.args.input.now.file.now c.args.input.now.sheet.now (sym c.in-Some.is ∙ c.check_run.ensures) (not-true c.in-Some.all.unmasked c.if-not-all.true)

pub returns : goal.returns
returns c = runs-passed c.args.input.now.file.now c.args.input.now.sheet.now (sym c.in-Some.is ∙ c.check_run.ensures) (not-false c.in-Some.all.unmasked c.if-not-all.false)
