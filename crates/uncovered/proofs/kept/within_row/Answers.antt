-- `kept::within_row` meets its contract: the row is within the other where no memory block of it is another one there. Assumes nothing.
use Rattle.uncovered.proofs.Sets.{within-bits}
use Rattle.uncovered.proofs.kept.within_row.Goals as goal

pub replaced-requires : goal.replaced-requires
replaced-requires c = (c.requires.0.chunks, c.requires.0.narrow, c.requires.1)

pub returns : goal.returns
returns c = within-bits c.args.row.now c.args.other.now c.requires.1 c.replaced.ensures
