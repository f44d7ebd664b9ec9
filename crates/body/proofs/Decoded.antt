-- `decode` and `Layout` agree: the bytes of a task within the bounds decode to it, and bytes that decode to a task are its bytes.
-- The idea: `Read` is the run of `blocks_from` as data; each fact of a decoded task is an induction on it.
use mathlib.Core.Path.{◌≡◌, refl, sym, ap, ◌∙◌}
use mathlib.Core.Logic.{◌⊎◌, inl, inr}
use mathlib.Core.Bool.{Bool, true, false, ◌&&◌, cond}
use mathlib.Core.List.{List, [], ◌∷◌, ◌++◌, append_assoc}
use Prim.Native.Nat.{ℕ, zero, suc, ◌+◌, ◌*◌, ◌/◌, ◌≤◌, ◌<◌}
use native.Mathlib.Omega.{arith}
use lib.Dec.{eqb, leb}
use lib.ListN.{length, get_or, take, drop, length-append, length-take, length-drop, take-append-drop}
use lib.Seq.{take_at, drop_at, take-add}
use borrow.Author.Tests.{eqb-true, leb-true, le-leb}
use Rattle.cache.specs.References.{Real, All, numbers}
use Rattle.cache.proofs.NumberLaws.{length-numbers as half-numbers}
use Rattle.model.specs.Lists.{Each}
use Rattle.model.specs.Tasks.{Block, Task, block, memory_blocks}
use Rattle.model.proofs.Membership.{both_left, both_right, all_join}
use Rattle.model.proofs.Disjoint.{all_map}
use Rattle.body.specs.Layout.{two_bytes, blocks_bytes, body_bytes, BlockInBounds, InBounds, Layout}
use Rattle.body.specs.Decode.{Decoded, broken, decoded, with_block, rises_below, all_real, block_from, block_test, blocks_from, decode}
use Rattle.body.proofs.BlockParts.{length-two_bytes, numbers-two_bytes, length-numbers, two_bytes-numbers, all_take, all_drop, rises-below, below-rises, all-real, real-all}

-- ---- a block's bytes, before the bytes r, are read as the block

pub parts-long : (x : Block) → length (x.successors ++ two_bytes x.references) ≡ length x.successors + 2 * length x.references
parts-long x = rw (length-append, length-two_bytes)

module _ (x : Block) (r : List ℕ) where
  pub take-successors : take (length x.successors) ((x.successors ++ two_bytes x.references) ++ r) ≡ x.successors
  take-successors = rw append_assoc (take_at x.successors (two_bytes x.references ++ r) (length x.successors) refl)

  pub take-references : take (2 * length x.references) (drop (length x.successors) ((x.successors ++ two_bytes x.references) ++ r)) ≡ two_bytes x.references
  take-references = rw (append_assoc, drop_at x.successors (two_bytes x.references ++ r) (length x.successors) refl)
      (take_at (two_bytes x.references) r (2 * length x.references) (length-two_bytes x.references))

  pub drop_block : drop (length x.successors + 2 * length x.references) ((x.successors ++ two_bytes x.references) ++ r) ≡ r
  drop_block = drop_at (x.successors ++ two_bytes x.references) r (length x.successors + 2 * length x.references) (parts-long x)

  pub block_passes : (B : ℕ) → BlockInBounds B x
      → block_test B x.flags (length x.successors) (length x.references) ((x.successors ++ two_bytes x.references) ++ r) ≡ true
  block_passes B h = rw (
    take-successors,
    take-references,
    numbers-two_bytes x.references,
    length-append (x.successors ++ two_bytes x.references) r,
    le-leb x.flags 1 h.flags,
    le-leb (length x.successors) 4 h.successors,
    le-leb (length x.references) 16 h.references,
    le-leb (length x.successors + 2 * length x.references) (length (x.successors ++ two_bytes x.references) + length r) (omega (arith, parts-long x)),
    below-rises B x.successors h.below h.rising,
    real-all x.references h.real,
  )

  pub same_block : block_from x.flags (length x.successors) (length x.references) ((x.successors ++ two_bytes x.references) ++ r) ≡ x
  same_block = λ i. record { flags = x.flags; successors = take-successors i; references = (ap numbers take-references ∙ numbers-two_bytes x.references) i }

pub blocks_bytes_lem : (B : ℕ) (t : Task) → Each (BlockInBounds B) t → blocks_from B (length t) (blocks_bytes t) ≡ decoded t
unfolding blocks_from
blocks_bytes_lem B [] h = refl
blocks_bytes_lem B (x ∷ t) h =
    rw (block_passes x (blocks_bytes t) B h.0, drop_block x (blocks_bytes t), blocks_bytes_lem B t h.1, same_block x (blocks_bytes t))

pub decode_bytes : (t : Task) → InBounds t → decode (body_bytes t) ≡ decoded t
unfolding decode
decode_bytes t h = rw (le-leb 1 (length t) h.some, le-leb (length t) 24 h.few) (blocks_bytes_lem (length t) t h.each)

-- ---- what reading the blocks of a task does

-- what `block_test` asks: the block with the flags f and the counts sc and rc keeps the bounds and stands in the bytes rest
pub record Fits (B f sc rc : ℕ) (rest : List ℕ) : Type 0 where
  pub flags : f ≤ 1
  pub few : sc ≤ 4
  pub short : rc ≤ 16
  pub there : sc + 2 * rc ≤ length rest
  pub rises : rises_below B (take sc rest) ≡ true
  pub real : all_real (numbers (take (2 * rc) (drop sc rest))) ≡ true

pub fits : (B f sc rc : ℕ) (rest : List ℕ) → block_test B f sc rc rest ≡ true → Fits B f sc rc rest
fits B f sc rc rest e =
    let e1 = both_right (leb f 1) _ e in
    let e2 = both_right (leb sc 4) _ e1 in
    let e3 = both_right (leb rc 16) _ e2 in
    let e4 = both_right (leb (sc + 2 * rc) (length rest)) _ e3 in
    record {
      flags = leb-true f 1 (both_left (leb f 1) _ e);
      few = leb-true sc 4 (both_left (leb sc 4) _ e1);
      short = leb-true rc 16 (both_left (leb rc 16) _ e2);
      there = leb-true (sc + 2 * rc) (length rest) (both_left (leb (sc + 2 * rc) (length rest)) _ e3);
      rises = both_left (rises_below B (take sc rest)) _ e4;
      real = both_right (rises_below B (take sc rest)) _ e4;
    }

-- the numbers are read as the last `left` blocks of a task of B blocks: the task
pub data Read (B : ℕ) : ℕ → List ℕ → Task → Type 0 where
  done : Read B zero [] []
  one : {left f sc rc : ℕ} {rest : List ℕ} {t : Task} → Fits B f sc rc rest → Read B left (drop (sc + 2 * rc) rest) t
      → Read B (suc left) (f ∷ sc ∷ rc ∷ rest) (block_from f sc rc rest ∷ t)

pub no_task_lem : {X : Type 0} {t : Task} → broken ≡ decoded t → X
no_task_lem e = let z : ◌≡◌ {A = ℕ} 0 1 = cc in absurd (omega arith)

pub reads : (B left : ℕ) (s : List ℕ) (t : Task) → blocks_from B left s ≡ decoded t → Read B left s t
unfolding blocks_from
reads B zero [] t e = let z : [] ≡ t = cc in rw (← z) done
reads B zero (x ∷ s) t e = no_task_lem e
reads B (suc left) [] t e = no_task_lem e
reads B (suc left) (f ∷ []) t e = no_task_lem e
reads B (suc left) (f ∷ sc ∷ []) t e = no_task_lem e
reads B (suc left) (f ∷ sc ∷ rc ∷ rest) t e =
    go (block_test B f sc rc rest) (blocks_from B left (drop (sc + 2 * rc) rest)) refl refl e (reads B left (drop (sc + 2 * rc) rest))
  where
    go : (b : Bool) (d : Decoded) → block_test B f sc rc rest ≡ b → blocks_from B left (drop (sc + 2 * rc) rest) ≡ d
        → cond b (with_block (block_from f sc rc rest) d) broken ≡ decoded t
        → ((u : Task) → blocks_from B left (drop (sc + 2 * rc) rest) ≡ decoded u → Read B left (drop (sc + 2 * rc) rest) u)
        → Read B (suc left) (f ∷ sc ∷ rc ∷ rest) t
    go false d p q e ih = no_task_lem e
    go true broken p q e ih = no_task_lem e
    go true (decoded u) p q e ih =
        let z : block_from f sc rc rest ∷ u ≡ t = cc in
        rw (← z) (one (fits B f sc rc rest p) (ih u q))

pub read_length : {B left : ℕ} {s : List ℕ} {t : Task} → Read B left s t → length t ≡ left
read_length done = refl
read_length (one h r) = ap suc (read_length r)

references-long : (sc rc : ℕ) (rest : List ℕ) → sc + 2 * rc ≤ length rest → length (take (2 * rc) (drop sc rest)) ≡ 2 * rc
references-long sc rc rest h = simp (length-take, length-drop) (omega arith)

successors-long : (sc rc : ℕ) (rest : List ℕ) → sc + 2 * rc ≤ length rest → length (take sc rest) ≡ sc
successors-long sc rc rest h = simp length-take (omega arith)

pub read_bounds : {B left : ℕ} {s : List ℕ} {t : Task} → Read B left s t → Each (BlockInBounds B) t
read_bounds done = tt
read_bounds {B} (one {sc = sc} {rc = rc} {rest = rest} h r) = (
  record {
    flags = h.flags;
    successors = omega (arith, successors-long sc rc rest h.there, h.few);
    references = omega (arith, length-numbers (take (2 * rc) (drop sc rest)) rc (references-long sc rc rest h.there), h.short);
    below = (rises-below B (take sc rest) h.rises).0;
    rising = (rises-below B (take sc rest) h.rises).1;
    real = all-real (numbers (take (2 * rc) (drop sc rest))) h.real;
  },
  read_bounds r,
)

pub read_bytes : {B left : ℕ} {s : List ℕ} {t : Task} → Read B left s t → All (λ (x : ℕ). x < 256) s → s ≡ blocks_bytes t
read_bytes done a = refl
read_bytes (one {f = f} {sc = sc} {rc = rc} {rest = rest} {t = t} h r) a =
    go (successors-long sc rc rest h.there) (length-numbers bytes rc long) (two_bytes-numbers bytes rc long inside)
    (read_bytes r (all_drop (λ (x : ℕ). x < 256) (sc + 2 * rc) rest a.1.1.1))
  where
    bytes : List ℕ
    bytes = take (2 * rc) (drop sc rest)

    long : length bytes ≡ 2 * rc
    long = references-long sc rc rest h.there

    inside : All (λ (x : ℕ). x < 256) bytes
    inside = all_take (λ (x : ℕ). x < 256) (2 * rc) (drop sc rest) (all_drop (λ (x : ℕ). x < 256) sc rest a.1.1.1)

    go : length (take sc rest) ≡ sc → length (numbers bytes) ≡ rc → two_bytes (numbers bytes) ≡ bytes → drop (sc + 2 * rc) rest ≡ blocks_bytes t
        → f ∷ sc ∷ rc ∷ rest ≡ f ∷ length (take sc rest) ∷ length (numbers bytes) ∷ ((take sc rest ++ two_bytes (numbers bytes)) ++ blocks_bytes t)
    go m n p q = rw (m, n, p, ← q, ← (take-add sc (2 * rc) rest), take-append-drop (sc + 2 * rc) rest)

-- a body that begins with B and z and was decoded to the task
record Opened (B z : ℕ) (s : List ℕ) (t : Task) : Type 0 where
  some : 1 ≤ B
  few : B ≤ 24
  zeroed : z ≡ 0
  read : Read B B s t

opened : (B z : ℕ) (s : List ℕ) (t : Task) → decode (B ∷ z ∷ s) ≡ decoded t → Opened B z s t
unfolding decode
opened B z s t e = go (leb 1 B && (leb B 24 && eqb z 0)) refl e
  where
    go : (b : Bool) → (leb 1 B && (leb B 24 && eqb z 0)) ≡ b → cond b (blocks_from B B s) broken ≡ decoded t → Opened B z s t
    go false p e = no_task_lem e
    go true p e =
        let p1 = both_right (leb 1 B) _ p in
        record {
          some = leb-true 1 B (both_left (leb 1 B) _ p);
          few = leb-true B 24 (both_left (leb B 24) _ p1);
          zeroed = eqb-true z 0 (both_right (leb B 24) _ p1);
          read = reads B B s t e;
        }

-- what is decoded is within the bounds, whatever the numbers that it was decoded from
pub decoded-bounds : (s : List ℕ) (t : Task) → decode s ≡ decoded t → InBounds t
unfolding decode
decoded-bounds [] t e = no_task_lem e
decoded-bounds (B ∷ []) t e = no_task_lem e
decoded-bounds (B ∷ z ∷ s) t e =
    let o = opened B z s t e in
    let n = read_length o.read in
    record { some = omega (arith, o.some); few = omega (arith, o.few); each = rw n (read_bounds o.read) }

pub decoded_layout : (s : List ℕ) (t : Task) → All (λ (x : ℕ). x < 256) s → decode s ≡ decoded t → InBounds t × (s ≡ body_bytes t)
unfolding decode
decoded_layout [] t a e = no_task_lem e
decoded_layout (B ∷ []) t a e = no_task_lem e
decoded_layout (B ∷ z ∷ s) t a e =
    let o = opened B z s t e in
    (decoded-bounds (B ∷ z ∷ s) t e, rw (read_length o.read, o.zeroed, read_bytes o.read a.1.1))

-- ---- bodies that keep their layout

pub layout_decoded : (s : List ℕ) → Layout s → (t : Task) × (decode s ≡ decoded t) × InBounds t
layout_decoded s (t, h, e) = (t, ap decode e ∙ decode_bytes t h, h)

pub broken_no_layout : (s : List ℕ) → decode s ≡ broken → Layout s → ⊥
broken_no_layout s b l = no_task_lem (sym b ∙ (layout_decoded s l).1)

pub layout_or_broken : (s : List ℕ) → All (λ (x : ℕ). x < 256) s → Layout s ⊎ (Layout s → ⊥)
layout_or_broken s a = go (decode s) refl
  where
    go : (d : Decoded) → decode s ≡ d → Layout s ⊎ (Layout s → ⊥)
    go broken e = inr (broken_no_layout s e)
    go (decoded t) e = let (h, p) = decoded_layout s t a e in inl (t, h, p)

pub bytes_injective : (t u : Task) → InBounds t → InBounds u → body_bytes t ≡ body_bytes u → t ≡ u
bytes_injective t u h g e = let z : decoded t ≡ decoded u = sym (decode_bytes t h) ∙ ap decode e ∙ decode_bytes u g in cc

pub blocks-long : (B : ℕ) (t : Task) → Each (BlockInBounds B) t → length (blocks_bytes t) ≤ 39 * length t
blocks-long B [] h = omega arith
blocks-long B (x ∷ t) h =
    rw (length-append (x.successors ++ two_bytes x.references) (blocks_bytes t), parts-long x)
    (omega (arith, blocks-long B t h.1, h.0.successors, h.0.references))

pub body-long : (t : Task) → InBounds t → length (body_bytes t) ≤ 938
body-long t h = omega (arith, blocks-long (length t) t h.each, h.few)

-- ---- no block has more than 16 references

pub few-references : (t : Task) → InBounds t → (b : ℕ) → length (block t b).references ≤ 16
few-references t h b = go t h.each b
  where
    go : (u : Task) → Each (BlockInBounds (length t)) u → (b : ℕ) → length (block u b).references ≤ 16
    go [] e b = omega arith
    go (x ∷ u) e zero = e.0.references
    go (x ∷ u) e (suc b) = go u e.1 b

-- the same for the bytes of a block's references
pub few_bytes : (t : Task) → InBounds t → (b : ℕ) (bytes : List ℕ) → numbers bytes ≡ (block t b).references → length bytes / 2 ≤ 16
few_bytes t h b bytes e = omega (arith, half-numbers bytes, ap length e, few-references t h b)

-- ---- references are memory blocks

pub blocks-real : (B : ℕ) (t : Task) → Each (BlockInBounds B) t → All Real (memory_blocks t)
blocks-real B [] h = tt
blocks-real B (x ∷ t) h = all_join Real x.references (memory_blocks t) (all_map (λ m l e. omega arith) x.references h.0.real) (blocks-real B t h.1)

pub decoded-real : (s : List ℕ) (t : Task) → decode s ≡ decoded t → All Real (memory_blocks t)
decoded-real s t e = blocks-real (length t) t (decoded-bounds s t e).each

-- ---- its first byte is the number of its blocks

pub record FirstByte (s : List ℕ) (t : Task) : Type 0 where
  pub there : 1 ≤ length s
  pub count : get_or s 0 0 ≡ length t

pub first_byte : (s : List ℕ) (t : Task) → decode s ≡ decoded t → FirstByte s t
unfolding decode
first_byte [] t e = no_task_lem e
first_byte (B ∷ []) t e = no_task_lem e
first_byte (B ∷ z ∷ s) t e = record { there = omega arith; count = sym (read_length (opened B z s t e).read) }

-- ---- how long a body is, by its decoding alone

read_long : {B left : ℕ} {s : List ℕ} {t : Task} → Read B left s t → length s ≤ 39 * left
read_long done = omega arith
read_long (one {sc = sc} {rc = rc} {rest = rest} h r) = omega (arith, read_long r, length-drop (sc + 2 * rc) rest, h.few, h.short)

pub decoded-long : (s : List ℕ) (t : Task) → decode s ≡ decoded t → length s ≤ 938
unfolding decode
decoded-long [] t e = no_task_lem e
decoded-long (B ∷ []) t e = no_task_lem e
decoded-long (B ∷ z ∷ s) t e = go (leb 1 B && (leb B 24 && eqb z 0)) refl e
  where
    go : (b : Bool) → (leb 1 B && (leb B 24 && eqb z 0)) ≡ b → cond b (blocks_from B B s) broken ≡ decoded t → length (B ∷ z ∷ s) ≤ 938
    go false p e = no_task_lem e
    go true p e =
        let few = leb-true B 24 (both_left (leb B 24) (eqb z 0) (both_right (leb 1 B) (leb B 24 && eqb z 0) p)) in
        omega (arith, read_long (reads B B s t e))
