-- `print_answer` meets its contract: the answered length lies within the sheet. Assumes nothing.
use Rattle.std.proofs.Common.{arith}
use Rattle.costliest.proofs.Answers.{written_within}
use Rattle.run_examples.proofs.print_answer.Goals as goal

pub offset_bounds-sheet-length : goal.offset_bounds-sheet-length
offset_bounds-sheet-length g c =
    let args = c.args in
    let inside = written_within args.file.now args.i args.j args.first.now args.second.now args.sheet.now _ c.costliest_run.ensures.0 c.in-Ok.is in
    omega (arith, inside)

pub slice_bounds-print_kept-count : goal.slice_bounds-print_kept-count
slice_bounds-print_kept-count g c =
    let args = c.args in
    written_within args.file.now args.i args.j args.first.now args.second.now args.sheet.now _ c.costliest_run.ensures.0 c.in-Ok.is

pub slice_bounds-print_kept-start : goal.slice_bounds-print_kept-start
slice_bounds-print_kept-start g c =
    let args = c.args in
    written_within args.file.now args.i args.j args.first.now args.second.now args.sheet.now _ c.costliest_run.ensures.0 c.in-Ok.is
