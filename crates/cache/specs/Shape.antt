-- The cache that the code's shape means. Definitions only.
use Rattle.std.specs.Prelude.{ℕ, ◌≤◌, ◌<◌}
use Rattle.cache.specs.Cache.{Cache, wide}
use Rattle.cache.specs.declared.blocks.CacheShape.{CacheShape}

-- in rows of w places
abbrev pub shaped : ℕ → CacheShape → Cache
shaped w shape = wide w shape.blocks

-- rows of w places have one for each cache block, and there is one
pub record Holds (w : ℕ) (shape : CacheShape) : Type 0 where
  pub some : 0 < shape.blocks
  pub room : shape.blocks ≤ w
