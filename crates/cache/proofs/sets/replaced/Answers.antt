-- `sets::replaced` meets its contract: its closure is the test. Assumes nothing.
use mathlib.Core.Bool.{not, ◌&&◌}
use borrow.Author.Rules.{rules}
use lib.Dec.{eqb}
use Rattle.cache.specs.References.{nothing}
use Rattle.cache.proofs.sets.replaced.Goals as goal

pub returns : goal.returns
unfolding nothing
returns c = c.places.ensures (λ x y. not (eqb x nothing) && not (eqb x y)) (λ m other b h i e. search rules)
