-- `rows::holds_row` meets its contract, by the width of the row. Assumes nothing.
use Rattle.rows.proofs.Parts.{whole_row}
use Rattle.rows.proofs.holds_row.Goals as goal

pub returns-in-16 : goal.returns-in-16
returns-in-16 c =
    let args = c.args in
    whole_row 16 args.count args.part.now args.row.now c.in-16.is c.chunk_at.ensures c.holds.ensures

pub returns-in-32 : goal.returns-in-32
returns-in-32 c =
    let args = c.args in
    whole_row 32 args.count args.part.now args.row.now c.in-32.is c.chunk_at-in-32.ensures c.holds-in-32.ensures
