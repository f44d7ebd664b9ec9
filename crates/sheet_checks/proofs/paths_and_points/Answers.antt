-- `paths_and_points` meets its contract: the paths decide, or the points do. Assumes nothing.
use mathlib.Core.Path.{sym, ap, ◌∙◌}
use mathlib.Core.Bool.{Bool, ◌&&◌}
use Rattle.project.specs.Tasks.{tasks_of}
use Rattle.sheet.specs.Parsed.{done_all}
use Rattle.sheet_checks.specs.SheetChecks.{run_in}
use Rattle.sheet_checks.proofs.paths_and_points.Goals as goal

pub all_done-requires : goal.all_done-requires
all_done-requires c = (c.requires, sym c.all_complete.ensures ∙ c.if-all_complete.true)

pub returns-then-all_complete : goal.returns-then-all_complete
returns-then-all_complete c =
    let args = c.args in
    let r = run_in args.file.now args.sheet.now in
    c.all_done.ensures ∙ ap (λ (b : Bool). b && done_all (tasks_of args.file.now) r) (sym (sym c.all_complete.ensures ∙ c.if-all_complete.true))

pub returns : goal.returns
returns c =
    let args = c.args in
    ap (λ (b : Bool). b && done_all (tasks_of args.file.now) (run_in args.file.now args.sheet.now)) (sym (sym c.all_complete.ensures ∙ c.if-all_complete.false))
