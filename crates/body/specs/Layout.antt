-- Document 01, "The project file", and document 02, Point 1: the layout of a task's body. Definitions only.
use Rattle.std.specs.Prelude.{◌≡◌, List, [], ◌∷◌, ◌++◌, ℕ, ◌/◌, ◌%◌, ◌≤◌, ◌<◌, length}
use Rattle.cache.specs.References.{nothing, All}
use Rattle.model.specs.Lists.{Each}
use Rattle.model.specs.Tasks.{Block, Task}

-- "Numbers of two bytes have the low byte first"
abbrev pub two_bytes : List ℕ → List ℕ
two_bytes [] = []
two_bytes (m ∷ ms) = m % 256 ∷ m / 256 ∷ two_bytes ms

-- "each block: flags byte .., successor count (0 to 4), reference count (0 to 16), the successors (one byte each ..), the
-- references (two bytes each ..)"
abbrev pub block_bytes : Block → List ℕ
block_bytes x = x.flags ∷ length x.successors ∷ length x.references ∷ (x.successors ++ two_bytes x.references)

abbrev pub blocks_bytes : Task → List ℕ
blocks_bytes [] = []
blocks_bytes (x ∷ t) = block_bytes x ++ blocks_bytes t

-- the bytes of a task's body
abbrev pub Body : Type 0
Body = List ℕ

-- "A body: B, the basic blocks ..; a zero byte; then each block .. A body ends with its last block."
abbrev pub body_bytes : Task → Body
body_bytes t = length t ∷ 0 ∷ blocks_bytes t

-- "strictly rising"
abbrev pub StrictlyRising : List ℕ → Type 0
StrictlyRising [] = Unit {0}
StrictlyRising (x ∷ []) = Unit {0}
StrictlyRising (x ∷ y ∷ l) = (x < y) × StrictlyRising (y ∷ l)

-- a block of a task of B blocks: "successor count (0 to 4), reference count (0 to 16), the successors (.. below B, strictly rising), the
-- references (.. 0 to 65,534)"; Point 1: "The flags byte of a block may be 1 .. Flags of 2 or more remain check 8."
pub record BlockInBounds (B : ℕ) (x : Block) : Type 0 where
  pub flags : x.flags ≤ 1
  pub successors : length x.successors ≤ 4
  pub references : length x.references ≤ 16
  pub below : All (λ (s : ℕ). s < B) x.successors
  pub rising : StrictlyRising x.successors
  pub real : All (λ (m : ℕ). m < nothing) x.references

-- "B, the basic blocks, 1 to 24"
pub record InBounds (t : Task) : Type 0 where
  pub some : 1 ≤ length t
  pub few : length t ≤ 24
  pub each : Each (BlockInBounds (length t)) t

-- a body that keeps its layout: the bytes of a task within the bounds; check 8 is "a body breaks its layout"
abbrev pub Layout : Body → Type 0
Layout s = (t : Task) × InBounds t × (s ≡ body_bytes t)
