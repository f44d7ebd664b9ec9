-- `Row::with_reference` meets its contract. Assumes nothing.
use mathlib.Core.Path.{ap₂}
use lib.ListN.{set}
use Rattle.cache.proofs.row.Row.with_reference.Goals as goal

pub returns : goal.returns
returns c = ap₂ (set c.args.cells.now) c.index-at.ensures c.number-v.ensures
