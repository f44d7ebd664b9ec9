-- `BlockReferences::none` meets its contract, for every number of cache blocks. Assumes nothing.
use Rattle.cache.specs.References.{nothing}
use Rattle.cache.specs.Cache.{wide}
use Rattle.cache.proofs.SoFarLaws.{none_so_far}
use Rattle.cache.proofs.references.BlockReferences.none.Goals as goal

pub returns : goal.returns
unfolding nothing
returns c = λ n. none_so_far (wide 32 n)
