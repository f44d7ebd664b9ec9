-- Laws of the parts of a block: in a body that decodes to a task they stand where the walk says that the block begins.
-- The idea: an induction along the blocks that are decoded, each of which ends where the next begins.
use mathlib.Core.Path.{◌≡◌, refl, sym, ap, subst, ◌∙◌}
use mathlib.Core.Bool.{Bool, true, false, ◌&&◌, false≢true, cond}
use mathlib.Core.List.{List, [], ◌∷◌}
use Prim.Native.Nat.{ℕ, zero, suc, ◌+◌, ◌-◌, ◌≤◌, ◌<◌}
use native.Mathlib.Omega.{arith}
use lib.Dec.{eqb, leb}
use lib.ListN.{length, get_or, take, drop, replicate, get_or-append}
use lib.Seq.{drop-drop}
use Rattle.cache.specs.References.{numbers}
use Rattle.model.specs.Tasks.{Block, Task, block}
use Rattle.body.specs.Layout.{block_bytes}
use Rattle.body.specs.Decode.{Decoded, broken, decoded, with_block, blocks_from, decode}
use Rattle.body.specs.Walk.{starts_from, kept_of, starts_of}
use Rattle.body.specs.Parts.{successors_end, references_end, successors_at, references_at}
use Rattle.body.specs.BlockEnd.{kept_at}
use Rattle.body.proofs.Decoded.{no_task_lem}
use Rattle.body.proofs.Walks.{block_at, Kept, keeps, broken-by, kept_next, end-behind, end-within, length-starts}

-- a part of a slice, as the code takes it: n bytes from `from` on
pub part_is : (s : List ℕ) {from base n m : ℕ} → from ≡ base → n ≡ m → take (from + n - from) (drop from s) ≡ take m (drop base s)
part_is s {from} {base} {n} p q =
    let e : from + n - from ≡ n = omega arith in
    rw (e, p, q)

-- ---- where the blocks of a decoded task stand

-- the block x stands at `at`
abbrev Stands : List ℕ → ℕ → Block → Type 0
Stands s at x = (references_end at s ≤ length s) × (block_at at s ≡ x)

none : (B : ℕ) (r : List ℕ) (t : Task) → blocks_from B zero r ≡ decoded t → length t ≡ 0
unfolding blocks_from
none B [] t h = let e : t ≡ [] = cc in ap length e
none B (x ∷ r) t h = no_task_lem h

first-kept : (B left at : ℕ) (s : List ℕ) (t : Task) → blocks_from B (suc left) (drop at s) ≡ decoded t → Kept B at s
first-kept B left at s t h = go (kept_at B at s) refl
  where
    go : (k : Bool) → kept_at B at s ≡ k → Kept B at s
    go true q = keeps B at s q
    go false q = no_task_lem (sym (broken-by B left at s q) ∙ h)

taken_off : (x : Block) (d : Decoded) (t : Task) → with_block x d ≡ decoded t → (u : Task) × (d ≡ decoded u) × (x ∷ u ≡ t)
taken_off x broken t h = no_task_lem h
taken_off x (decoded u) t h = (u, refl, (cc))

-- the first block stands at `at`, and the others, from where it ends on, in order
in_order : (s : List ℕ) (at e : ℕ) (x : Block) (u : Task) → e ≡ at + length (block_bytes x) → Stands s at x
    → ((b : ℕ) → b < length u → Stands s (get_or (starts_from e u) b 0) (block u b))
    → (b : ℕ) → b < length (x ∷ u) → Stands s (get_or (starts_from at (x ∷ u)) b 0) (block (x ∷ u) b)
in_order s at e x u q here rest zero l = here
in_order s at e x u q here rest (suc b) l = subst (λ (n : ℕ). Stands s (get_or (starts_from n u) b 0) (block u b)) q (rest b (omega arith))

stands : (left B at : ℕ) (s : List ℕ) (t : Task) → blocks_from B left (drop at s) ≡ decoded t → (b : ℕ) → b < length t
    → Stands s (get_or (starts_from at t) b 0) (block t b)
stands zero B at s t h = λ b l. absurd (omega (arith, none B (drop at s) t h))
stands (suc left) B at s t h =
    let k = first-kept B left at s t h in
    let e = references_end at s in
    let f = taken_off (block_at at s) (blocks_from B left (drop e s)) t (sym (kept_next B left at s k) ∙ h) in
    subst (λ (v : Task). (b : ℕ) → b < length v → Stands s (get_or (starts_from at v) b 0) (block v b)) f.2
    (in_order s at e (block_at at s) f.0 (end-behind B at s k) (end-within B at s k, refl) (stands left B e s f.0 f.1))

picked : (k : Bool) (d : Decoded) (t : Task) → cond k d broken ≡ decoded t → d ≡ decoded t
picked true d t h = h
picked false d t h = no_task_lem h

-- the blocks of a body follow its first two bytes
body-blocks : (s : List ℕ) (t : Task) → decode s ≡ decoded t → (B : ℕ) × (blocks_from B B (drop 2 s) ≡ decoded t)
unfolding decode
body-blocks [] t h = no_task_lem h
body-blocks (B ∷ []) t h = no_task_lem h
body-blocks (B ∷ z ∷ s) t h = (B, picked (leb 1 B && (leb B 24 && eqb z 0)) (blocks_from B B s) t h)

-- ---- the parts

-- the parts of the block x stand in the body s, which has it at `at`
pub record BlockParts (s : List ℕ) (at : ℕ) (x : Block) : Type 0 where
  pub flags : get_or s at 0 ≡ x.flags
  pub successors-within : successors_end at s ≤ length s
  pub references-within : references_end at s ≤ length s
  pub successors : successors_at at s ≡ x.successors
  pub references : numbers (references_at at s) ≡ x.references

of_stands : (s : List ℕ) (at : ℕ) (x : Block) → Stands s at x → BlockParts s at x
of_stands s at x h =
    record {
      flags = ap (λ (y : Block). y.flags) h.1;
      successors-within = omega (arith, h.0);
      references-within = h.0;
      successors = ap (λ (y : Block). y.successors) h.1;
      references = rw (← drop-drop (get_or s (at + 1) 0) (at + 3) s) (ap (λ (y : Block). y.references) h.1);
    }

-- block b of the task that a body decodes to
pub block-parts : (s : List ℕ) (t : Task) (b : ℕ) {at : ℕ} → decode s ≡ decoded t → b < length t → at ≡ get_or (starts_from 2 t) b 0
    → BlockParts s at (block t b)
block-parts s t b {at} h l e =
    let p = body-blocks s t h in
    of_stands s at (block t b) (rw e (stands p.0 p.0 2 s t p.1 b l))

-- the same, by the starts that the walk answers
pub walked_parts : (s : List ℕ) (t : Task) (b : ℕ) {at : ℕ} → decode s ≡ decoded t → b < length t → at ≡ get_or (starts_of (decode s)) b 0
    → BlockParts s at (block t b)
walked_parts s t b h l e =
    let start = get_or-append (starts_from 2 t) (replicate (24 - length t) 0) 0 b (omega (arith, length-starts 2 t)) in
    block-parts s t b h l (e ∙ rw h start)

-- a body that keeps its layout decodes to a task
pub kept-decoded : (d : Decoded) → kept_of d ≡ true → (t : Task) × (d ≡ decoded t)
kept-decoded broken h = absurd (false≢true h)
kept-decoded (decoded t) h = (t, refl)
