-- A block of a walked body: its predecessors, its references, and what a `Block` says of them. Assumes nothing.
use mathlib.Core.Path.{◌≡◌, sym, ap, ap₂, ◌∙◌}
use mathlib.Core.List.{List}
use Prim.Native.Nat.{ℕ, ◌<◌}
use native.Mathlib.Omega.{arith}
use lib.ListN.{length, get_or}
use Rattle.cache.specs.declared.blocks.CacheShape.{CacheShape}
use Rattle.cache.specs.References.{numbers as references_in, Real, All}
use Rattle.cache.specs.Shape.{Holds}
use Rattle.model.specs.Tasks.{block}
use Rattle.body.specs.Decode.{decode, task_of}
use Rattle.body.specs.Parts.{references_at}
use Rattle.body.specs.Jumps.{jump_sets}
use Rattle.body.specs.Turned.{turned}
use Rattle.body.proofs.Decoded.{few_bytes, blocks-real}
use Rattle.body.proofs.JumpLaws.{WalkedTask}
use Rattle.graphs.proofs.Listed.{block-real}
use Rattle.points.specs.Points.{predecessors_of}
use Rattle.block_rows.specs.Parts.{BlockParts}

-- the predecessors of the block b
pub predecessors-are : (s : List ℕ) (n : ℕ) (starts : List ℕ) (f : WalkedTask s n starts) (sets : List ℕ) → sets ≡ jump_sets (task_of (decode s))
    → (before : List ℕ) → before ≡ turned sets n → (b : ℕ) → get_or before b 0 ≡ predecessors_of (task_of (decode s)) b
predecessors-are s n starts f sets jumps before e b = ap (λ (l : List ℕ). get_or l b 0) (e ∙ ap₂ turned jumps (f.long ∙ ap length (sym f.same)))

-- the references of block b
pub references-are : (s : List ℕ) (n : ℕ) (starts : List ℕ) (f : WalkedTask s n starts) (b : ℕ) (r : List ℕ) → b < n → r ≡ references_at (get_or starts b 0) s
    → references_in r ≡ (block f.its b).references
references-are s n starts f b r low e = ap references_in e ∙ (f.parts b (omega (arith, f.long, low))).references

pub block_parts : (s : List ℕ) (n : ℕ) (starts : List ℕ) (f : WalkedTask s n starts) (b : ℕ) (r : List ℕ) → b < n → r ≡ references_at (get_or starts b 0) s
    → {w : ℕ} {shape : CacheShape} → Holds w shape → BlockParts w shape n r
block_parts s n starts f b r low e holds =
    record { holds = holds; inside = omega (arith, f.long, f.bounds.few); few = few_bytes f.its f.bounds b r (references-are s n starts f b r low e) }

pub block_real : (s : List ℕ) (n : ℕ) (starts : List ℕ) (f : WalkedTask s n starts) (b : ℕ) (r : List ℕ) → b < n → r ≡ references_at (get_or starts b 0) s
    → All Real (references_in r)
block_real s n starts f b r low e = rw (references-are s n starts f b r low e) (block-real f.its (blocks-real (length f.its) f.its f.bounds.each) b)
