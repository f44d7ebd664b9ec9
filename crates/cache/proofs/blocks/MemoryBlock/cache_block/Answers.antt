-- `MemoryBlock::cache_block` meets its contract: a remainder by the number of blocks is below it, so it fits a byte. Assumes nothing.
use native.Mathlib.Omega.{arith}
use native.Mathlib.Nat.{mod-lt}
use Rattle.cache.proofs.blocks.MemoryBlock.cache_block.Goals as goal

pub overflow_cast-result-2 : goal.overflow_cast-result-2
overflow_cast-result-2 c = omega (arith, mod-lt c.args.self.0 c.requires)
