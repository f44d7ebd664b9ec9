-- `check_sheet` meets its contract: the rules of the sheet, its paths and points, and masks decide, one after the other. Assumes nothing.
use mathlib.Core.Path.{ap, ◌∙◌}
use Rattle.std.specs.Prelude.{Err}
use Rattle.sheet_checks.proofs.CheckLaws.{sheet_12, passed_12, sheet_13, passed_13, sheet_16, sheet-passed}
use Rattle.sheet_checks.proofs.check_sheet.Goals as goal

pub returns-then-not-sheet_kept : goal.returns-then-not-sheet_kept
returns-then-not-sheet_kept c =
    ap Err c.into.ensures ∙ sheet_12 c.args.file.now c.args.sheet.now c.requires.0 c.requires.1 c.sheet_kept.ensures c.if-not-sheet_kept.true

pub paths_and_points-requires : goal.paths_and_points-requires
paths_and_points-requires c = passed_12 c.args.file.now c.args.sheet.now c.requires.0 c.requires.1 c.sheet_kept.ensures c.if-not-sheet_kept.false

pub returns-then-not-paths_and_points : goal.returns-then-not-paths_and_points
returns-then-not-paths_and_points c =
    ap Err c.into-then-not-paths_and_points.ensures
    ∙ sheet_13 c.args.file.now c.args.sheet.now c.requires.0 c.requires.1 c.sheet_kept.ensures c.if-not-sheet_kept.false c.paths_and_points.ensures c.if-not-paths_and_points.true

pub all_unmasked-requires : goal.all_unmasked-requires
all_unmasked-requires c =
    passed_13 c.args.file.now c.args.sheet.now c.requires.0 c.requires.1 c.sheet_kept.ensures c.if-not-sheet_kept.false c.paths_and_points.ensures c.if-not-paths_and_points.false

pub returns-then-not-all_unmasked : goal.returns-then-not-all_unmasked
returns-then-not-all_unmasked c =
    ap Err c.into-then-not-all_unmasked.ensures
    ∙ sheet_16 c.args.file.now c.args.sheet.now c.requires.0 c.requires.1 c.sheet_kept.ensures c.if-not-sheet_kept.false c.paths_and_points.ensures c.if-not-paths_and_points.false c.all_unmasked.ensures c.if-not-all_unmasked.true

pub returns : goal.returns
returns c =
    sheet-passed c.args.file.now c.args.sheet.now c.requires.0 c.requires.1 c.sheet_kept.ensures c.if-not-sheet_kept.false c.paths_and_points.ensures c.if-not-paths_and_points.false c.all_unmasked.ensures c.if-not-all_unmasked.false
