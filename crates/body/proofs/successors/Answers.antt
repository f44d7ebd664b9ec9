-- `successors` meets its contract.
use mathlib.Core.Path.{refl}
use Rattle.body.proofs.WalksParts.{part_is}
use Rattle.body.proofs.successors.Goals as goal

pub returns : goal.returns
returns c = part_is c.args.body.now refl c.from.ensures
