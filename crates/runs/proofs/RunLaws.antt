-- A body that was walked, and a part of a path in the code's words: a turn of the loop over its blocks.
-- The idea: what is left, run from here, gives what the whole gives from the start.
use mathlib.Core.Path.{◌≡◌, sym, ap}
use mathlib.Core.Bool.{true}
use mathlib.Core.List.{List, [], ◌∷◌}
use Prim.Native.Nat.{ℕ, zero, suc, ◌+◌, ◌-◌, ◌≤◌, ◌<◌}
use native.Mathlib.Nat.{not-suc-le-zero}
use native.Mathlib.Omega.{arith}
use lib.ListN.{length, get_or, replicate, length-append}
use Rattle.cache.specs.References.{All, numbers}
use Rattle.cache.specs.Cache.{Cache}
use Rattle.cache.proofs.NumberLaws.{length-numbers}
use Rattle.model.specs.Tasks.{Task, block}
use Rattle.model.specs.Runs.{RowCount, own_references}
use Rattle.body.specs.Layout.{InBounds}
use Rattle.body.specs.Decode.{decode, task_of}
use Rattle.body.specs.Walk.{starts_from, kept_of, starts_of}
use Rattle.body.proofs.Decoded.{decoded-bounds}
use Rattle.body.proofs.Walks.{length-starts}
use Rattle.body.proofs.WalksParts.{BlockParts, kept-decoded, walked_parts}
use Rattle.runs.specs.Parts.{part_at, PartIn}
use Rattle.runs.specs.declared.part.PathPoint.{PathPoint}
use Rattle.runs.proofs.PathCounts.{own-bound, own-append}
use Rattle.runs.proofs.PartTurns.{part_left, part_made, part_end, part_room}

pub all-at : (P : ℕ → Type 0) (l : List ℕ) → All P l → (i : ℕ) → i < length l → P (get_or l i 0)
all-at P [] a i h = absurd (not-suc-le-zero h)
all-at P (x ∷ l) a zero h = a.0
all-at P (x ∷ l) a (suc i) h = all-at P l a.1 i (omega arith)

-- a body that was walked, by its decoding
pub record Walked (s starts : List ℕ) : Type 0 where
  pub bounds : InBounds (task_of (decode s))
  pub parts : (b : ℕ) → b < length (task_of (decode s)) → BlockParts s (get_or starts b 0) (block (task_of (decode s)) b)

pub walked : (s starts : List ℕ) → kept_of (decode s) ≡ true → starts ≡ starts_of (decode s) → Walked s starts
walked s starts k es =
    let (t, q) = kept-decoded (decode s) k in
    record { bounds = rw q (decoded-bounds s t q); parts = λ b. rw q (λ l. walked_parts s t b q l (ap (λ x. get_or x b 0) es)) }

-- there is a beginning for each block
pub starts-long : (s starts : List ℕ) → kept_of (decode s) ≡ true → starts ≡ starts_of (decode s) → length (task_of (decode s)) ≤ length starts
starts-long s starts k es =
    let (t, q) = kept-decoded (decode s) k in
    rw (es, q) (omega (arith, length-append (starts_from 2 t) (replicate (24 - length t) 0), length-starts 2 t))

-- ---- the blocks of a part of a path

module _ (k : Cache) (t : Task) (path : List ℕ) (from to : PathPoint) (x : ℕ) (s : RowCount) where
  -- the next block of the part
  pub own_part_turn : (bytes : List ℕ) {r : RowCount} → PartIn t path from to → from.position ≤ x → x ≤ to.position → numbers bytes ≡ part_at t path from to x
      → r ≡ own_references k s (numbers bytes) → own_references k r (part_left t path from to (x + 1)) ≡ own_references k s (part_left t path from to x)
  own_part_turn bytes h l u er en = part_made t path from to h x l u (own_references k) (own-append k) s bytes er en

  -- what is left of the count's room after it
  pub own_part_room : (bytes : List ℕ) {r : RowCount} {most : ℕ} → PartIn t path from to → from.position ≤ x → x ≤ to.position → numbers bytes ≡ part_at t path from to x
      → r ≡ own_references k s (numbers bytes) → s.count + length (part_left t path from to x) < most → r.count + length (part_left t path from to (x + 1)) < most
  own_part_room bytes h l u er en few =
      omega (arith, ap (λ (y : RowCount). y.count) en, own-bound k (numbers bytes) s, length-numbers bytes, part_room t path from to h x l u bytes er)

  pub own_part_end : to.position + 1 ≤ x → s ≡ own_references k s (part_left t path from to x)
  own_part_end h = ap (own_references k s) (sym (part_end t path from to x h))
