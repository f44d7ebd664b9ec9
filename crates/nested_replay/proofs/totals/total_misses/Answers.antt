-- `totals::total_misses` meets its contract: the misses of all references from the empty row, which fit into eight bytes. Assumes nothing.
use Rattle.cache.specs.References.{nothing}
use Rattle.nested_replay.proofs.TotalLaws.{total-fits, total-is}
use Rattle.nested_replay.proofs.totals.total_misses.Goals as goal

pub total_run-all-requires : goal.total_run-all-requires
total_run-all-requires c =
    let start = c in
    (start.requires.0, start.requires.1, start.requires.2, total-fits start.args.input.now.file.now start.args.input.now.sheet.now start.requires.1)

pub returns : goal.returns
unfolding nothing
returns c =
    let start = c in
    total-is start.args.input.now.file.now start.args.input.now.sheet.now start.requires.1 start.requires.2 c.cells-cells.ensures c.total_run-all.ensures.0
