-- `kept::filled_row` meets its contract: the ones of the used set are counted. Assumes nothing.
use mathlib.Core.Path.{ap, ◌∙◌}
use native.Mathlib.Omega.{arith}
use lib.Count.{ones}
use Rattle.uncovered.proofs.Sets.{filled_ones, filled_le}
use Rattle.uncovered.proofs.kept.filled_row.Goals as goal

pub used-requires : goal.used-requires
used-requires c = (c.requires.chunks, c.requires.narrow)

pub overflow_cast-result : goal.overflow_cast-result
overflow_cast-result c = omega (arith, ap ones c.used.ensures, filled_ones c.args.row.now, filled_le c.args.row.now, c.requires.narrow)

pub returns : goal.returns
returns c = ap ones c.used.ensures ∙ filled_ones c.args.row.now
