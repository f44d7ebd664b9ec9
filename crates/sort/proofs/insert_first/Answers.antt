-- `sort::insert_first` meets its contract: the first row is copied, and the copy is inserted. Assumes nothing.
-- `sort::insert_first` meets its contract: the first row is copied, and the copy is inserted. Assumes nothing.
use mathlib.Core.Path.{ap, ◌∙◌}
use lib.ListN.{replicate}
use Rattle.rows.specs.Rows.{flat}
use Rattle.sort.proofs.Insertion.{first_asks, first_inserted}
use mathlib.Core.Path.{ap, ◌∙◌}
use lib.ListN.{replicate}
use Rattle.rows.specs.Rows.{flat}
use Rattle.sort.proofs.Insertion.{first_asks, first_inserted}
use Rattle.sort.proofs.insert_first.Goals as goal

pub insert_row-requires : goal.insert_row-requires
insert_row-requires c =
    let start = c in
    first_asks start.args.w start.args.others (replicate 32 0) start.args.rows.now start.requires.1 c.copy_row.ensures start.requires.0.chunks start.requires.2

pub returns : goal.returns
returns c =
    let start = c in
    c.insert_row.ensures ∙ ap flat (first_inserted start.args.w start.args.others (replicate 32 0) start.args.rows.now start.requires.1 c.copy_row.ensures)
