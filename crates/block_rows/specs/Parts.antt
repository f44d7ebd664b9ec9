-- What a block of a task and a list of rows are made of. Definitions only, but for the two lemmas that a struct's fact needs.
use Rattle.std.specs.Prelude.{◌≡◌, List, [], ◌∷◌, ℕ, ◌*◌, ◌/◌, ◌≤◌, length}
use Rattle.std.specs.Coded.{×_prop, Unit-prop}
use Rattle.cache.specs.declared.blocks.CacheShape.{CacheShape}
use Rattle.cache.specs.References.{Real, All}
use Rattle.cache.specs.Shape.{Holds}
use Rattle.rows.specs.Rows.{Width}

-- a task has at most 24 blocks, and a block at most 16 references; rows of w places have one for each cache block
pub record BlockParts (w : ℕ) (shape : CacheShape) (blocks : ℕ) (references : List ℕ) : Type 0 where
  pub holds : Holds w shape
  pub inside : blocks ≤ 24
  pub few : length references / 2 ≤ 16

-- there is at most one proof that references are memory blocks
Real-prop : (m : ℕ) → IsProp (Real m)
Real-prop m = Prim.hlevel

pub all_real_prop : (ms : List ℕ) → IsProp (All Real ms)
all_real_prop [] = Unit-prop
all_real_prop (m ∷ ms) = ×_prop (Real-prop m) (all_real_prop ms)

-- room for 32 rows of w numbers, of which there are `count`
pub record RowRoom (w : ℕ) (rows : List ℕ) (count : ℕ) : Type 0 where
  pub width : Width w
  pub long : length rows ≡ 32 * w
  pub few : count ≤ 32
