-- `useful::kept` meets its contract: the used set without what the rest replaces. Assumes nothing.
use mathlib.Core.Path.{sym}
use Rattle.row_sets.proofs.Kept.{kept_made}
use native.Mathlib.Omega.{arith}
use Rattle.row_sets.proofs.useful.kept.Goals as goal

pub replaced-requires : goal.replaced-requires
replaced-requires c = let start = c in (rw start.requires.1 start.requires.0.chunks, omega (arith, start.requires.0.narrow), sym start.requires.1)

pub returns : goal.returns
returns c = let start = c in kept_made start.args.row.now start.args.rest.now start.requires.1 c.used-set.ensures c.replaced.ensures
