-- The task that a body is the bytes of, computed; proofs/Decoded shows that it is the task of `Layout`.
use Rattle.std.specs.Prelude.{Bool, true, ◌&&◌, cond, List, [], ◌∷◌, ℕ, zero, suc, ◌+◌, ◌*◌, eqb, ltb, leb, length, take, drop}
use Rattle.cache.specs.References.{nothing, numbers}
use Rattle.model.specs.Tasks.{Block, Task}
use Rattle.body.specs.Layout.{Body}

-- a task, or none where the bytes break the layout
pub data Decoded : Type 0 where
  broken : Decoded
  decoded : Task → Decoded

-- the task of a body that keeps its layout
abbrev pub task_of : Decoded → Task
task_of broken = []
task_of (decoded t) = t

abbrev pub with_block : Block → Decoded → Decoded
with_block x broken = broken
with_block x (decoded t) = decoded (x ∷ t)

-- each number is below the bound and above the one before it
abbrev pub rises_below : ℕ → List ℕ → Bool
rises_below B [] = true
rises_below B (x ∷ []) = ltb x B
rises_below B (x ∷ y ∷ l) = ltb x y && rises_below B (y ∷ l)

-- none of the numbers is 65,535
abbrev pub all_real : List ℕ → Bool
all_real [] = true
all_real (m ∷ ms) = ltb m nothing && all_real ms

-- the block whose flags byte is f and whose counts are the numbers sc and rc, before the bytes rest
abbrev pub block_from : ℕ → ℕ → ℕ → List ℕ → Block
block_from f sc rc rest = record { flags = f; successors = take sc rest; references = numbers (take (2 * rc) (drop sc rest)) }

-- its flags, counts, successors and references are within the bounds, and its bytes are there
abbrev pub block_test : ℕ → ℕ → ℕ → ℕ → List ℕ → Bool
block_test B f sc rc rest =
    leb f 1 && (leb sc 4 && (leb rc 16 && (leb (sc + 2 * rc) (length rest) && (rises_below B (take sc rest) && all_real (numbers (take (2 * rc) (drop sc rest)))))))

-- the last `left` blocks of a task of B blocks
unfoldable pub blocks_from : ℕ → ℕ → List ℕ → Decoded
blocks_from B zero [] = decoded []
blocks_from B zero (x ∷ s) = broken
blocks_from B (suc left) [] = broken
blocks_from B (suc left) (f ∷ []) = broken
blocks_from B (suc left) (f ∷ sc ∷ []) = broken
blocks_from B (suc left) (f ∷ sc ∷ rc ∷ rest) =
    cond (block_test B f sc rc rest) (with_block (block_from f sc rc rest) (blocks_from B left (drop (sc + 2 * rc) rest))) broken

unfoldable pub decode : Body → Decoded
decode [] = broken
decode (B ∷ []) = broken
decode (B ∷ z ∷ s) = cond (leb 1 B && (leb B 24 && eqb z 0)) (blocks_from B B s) broken
