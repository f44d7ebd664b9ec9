-- Document 01, "The project file" and "Paths and cache", and document 02, Points 1 and 6: basic blocks, tasks, masked blocks, paths, points and the
-- rules that tasks keep. Definitions only.
use Rattle.std.specs.Prelude.{◌≡◌, ◌≢◌, true, List, [], ◌∷◌, ◌++◌, ℕ, ◌-◌, ◌≤◌, ◌<◌, eqb, length, get_or}
use Rattle.cache.specs.References.{Real, All}
use Rattle.model.specs.Lists.{mem}

-- "each block: flags byte .., the successors .., the references"
pub record Block : Type 0 where
  pub flags : ℕ
  pub successors : List ℕ
  pub references : List ℕ

-- a task is the list of its basic blocks
abbrev pub Task : Type 0
Task = List Block

abbrev pub no_block : Block
no_block = record { flags = 0; successors = []; references = [] }

abbrev pub block : Task → ℕ → Block
block t b = get_or t b no_block

-- document 02, Point 1: "The flags byte of a block may be 1: no preemption after it.": the block is not masked
abbrev pub Unmasked : Task → ℕ → Type 0
Unmasked t b = (block t b).flags ≡ 0

-- the task has an unmasked block
abbrev pub SomeUnmasked : Task → Type 0
SomeUnmasked t = (b : ℕ) × (b < length t) × Unmasked t b

-- document 02, Point 6: "how many references of that block are done, from 1 to all, or 0 where it has none"
abbrev pub Done : List ℕ → ℕ → Type 0
Done [] d = d ≡ 0
Done (m ∷ ms) d = (1 ≤ d) × (d ≤ length (m ∷ ms))

-- "A preemption may follow every single reference. .. Masked blocks allow none.": it may come in the block b where d references are done
abbrev pub Allows : Task → ℕ → ℕ → Type 0
Allows t b d = Unmasked t b × Done (block t b).references d

-- all references of the block b are done
abbrev pub AllDone : Task → ℕ → ℕ → Type 0
AllDone t b d = d ≡ length (block t b).references

-- "Block 0 is the entry, block B - 1 the end."
abbrev pub end : Task → ℕ
end t = length t - 1

-- the blocks of a path, in order
abbrev pub Path : Type 0
Path = List ℕ

-- "A path steps from a block to one of its successors.": from the block b over the blocks p, in order, to the block e
pub data PathFrom (t : Task) : ℕ → Path → ℕ → Type 0 where
  stay : {b : ℕ} → b < length t → PathFrom t b [] b
  step : {b c e : ℕ} {p : Path} → mem eqb c (block t b).successors ≡ true → PathFrom t c p e → PathFrom t b (c ∷ p) e

-- a path from block 0 to the block b, by its blocks before b
abbrev pub PathTo : Task → Path → ℕ → Type 0
PathTo t before b = (p : Path) × PathFrom t 0 p b × (0 ∷ p ≡ before ++ (b ∷ []))

-- "A complete path begins in block 0 and ends in block B - 1; it may pass through the end block earlier."
abbrev pub Complete : Task → Path → Type 0
Complete t [] = ⊥
Complete t (b ∷ p) = (b ≡ 0) × PathFrom t b p (end t)

-- "Every block must lie on a complete path."
abbrev pub OnCompletePath : Task → ℕ → Type 0
OnCompletePath t b = (p : Path) × Complete t p × (mem eqb b p ≡ true)

-- the references of the blocks of a path, in order
abbrev pub references : Task → Path → List ℕ
references t [] = []
references t (b ∷ p) = (block t b).references ++ references t p

-- the memory blocks that a task refers to
abbrev pub memory_blocks : Task → List ℕ
memory_blocks [] = []
memory_blocks (x ∷ t) = x.references ++ memory_blocks t

-- "two tasks share a memory block"
abbrev pub Share : Task → Task → Type 0
Share i j = (m : ℕ) × (mem eqb m (memory_blocks i) ≡ true) × (mem eqb m (memory_blocks j) ≡ true)

-- the task numbered j of a file
abbrev pub task : List Task → ℕ → Task
task ts j = get_or ts j []

-- no two tasks of a file share a memory block, as document 01's check 10 asked
abbrev pub Apart : List Task → Type 0
Apart ts = (i j : ℕ) → i ≢ j → Share (task ts i) (task ts j) → ⊥

-- what the tasks of an accepted file keep: "B, the basic blocks, 1 to 24"; check 9; references are "0 to 65,534"
pub record Rules (ts : List Task) : Type 0 where
  pub some : (j : ℕ) → j < length ts → 0 < length (task ts j)
  pub complete : (j b : ℕ) → j < length ts → b < length (task ts j) → OnCompletePath (task ts j) b
  pub real : (j : ℕ) → All Real (memory_blocks (task ts j))
