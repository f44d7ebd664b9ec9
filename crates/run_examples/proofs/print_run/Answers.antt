-- `print_run` meets its contract: the answered length lies within the sheet. Assumes nothing.
use Rattle.costliest.proofs.Answers.{written_within}
use Rattle.run_examples.proofs.print_run.Goals as goal

pub slice_bounds-written-end : goal.slice_bounds-written-end
slice_bounds-written-end g c =
    let args = c.args in
    written_within args.file.now args.i args.j args.first.now args.second.now args.sheet.now _ c.costliest_run.ensures.0 c.in-Ok.is
