-- `sort::move_row` meets its contract. Assumes nothing.
use Rattle.sort.proofs.Insertion.{moved_row}
use Rattle.sort.proofs.move_row.Goals as goal

pub returns-in_default : goal.returns-in_default
returns-in_default c = moved_row c.args.w c.args.at c.args.rows.now c.requires.1 c.copy_within.ensures.after
