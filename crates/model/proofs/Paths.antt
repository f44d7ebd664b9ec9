-- Laws of paths: longer by a block at either end, joined, and their references.
-- Each is an induction on the path.
use mathlib.Core.Path.{◌≡◌, refl}
use mathlib.Core.Logic.{inl, inr}
use mathlib.Core.Bool.{Bool, true, false, cond, false≢true}
use mathlib.Core.List.{List, [], ◌∷◌, ◌++◌, append_assoc}
use Prim.Native.Nat.{ℕ, zero, suc, ◌+◌, ◌<◌}
use native.Mathlib.Nat.{add-zero, add-suc, suc-add}
use native.Mathlib.Omega.{arith}
use lib.Dec.{eqb, ltb}
use lib.ListN.{length, get_or, get_or-eq_default}
use borrow.Author.Tests.{eqb-true, ltb-true, ltb-false}
use Rattle.model.specs.Lists.{mem}
use Rattle.model.specs.Tasks.{Task, no_block, block, PathFrom, stay, step, Complete, references}
use Rattle.model.specs.Computed.{predecessors_from}
use Rattle.model.proofs.Membership.{eqb_self, or_cases, or_left, or_right, mem-append_cases}

-- a block with a successor is a block of the task
pub successor_below : (t : Task) (b c : ℕ) → mem eqb c (block t b).successors ≡ true → b < length t
successor_below t b c e = go (ltb b (length t)) refl
  where
    go : (s : Bool) → ltb b (length t) ≡ s → b < length t
    go true q = ltb-true b (length t) q
    go false q = absurd (false≢true (rw (get_or-eq_default t no_block {n = b} (omega (arith, ltb-false b (length t) q))) at e))

pub path-first : (t : Task) {b e : ℕ} {p : List ℕ} → PathFrom t b p e → b < length t
path-first t (stay h) = h
path-first t {b} (step {c = c} m w) = successor_below t b c m

pub path-last : (t : Task) {b e : ℕ} {p : List ℕ} → PathFrom t b p e → e < length t
path-last t (stay h) = h
path-last t (step m w) = path-last t w

pub path_snoc : (t : Task) {b e : ℕ} {p : List ℕ} (c : ℕ) → PathFrom t b p e → mem eqb c (block t e).successors ≡ true → c < length t → PathFrom t b (p ++ (c ∷ [])) c
path_snoc t c (stay h) m l = step m (stay l)
path_snoc t c (step m' w) m l = step m' (path_snoc t c w m l)

pub path_join : (t : Task) {b c e : ℕ} {p q : List ℕ} → PathFrom t b p c → PathFrom t c q e → PathFrom t b (p ++ q) e
path_join t (stay h) v = v
path_join t (step m w) v = step m (path_join t w v)

-- each block of a path is a block of the task
pub path_inside : (t : Task) {b e : ℕ} {p : List ℕ} (n : ℕ) → PathFrom t b p e → n < length (b ∷ p) → get_or (b ∷ p) n 0 < length t
path_inside t zero w h = path-first t w
path_inside t (suc n) (stay l) h = absurd (omega arith)
path_inside t (suc n) (step m w) h = path_inside t n w (omega arith)

pub complete-inside : (t : Task) (path : List ℕ) (n : ℕ) → Complete t path → n < length path → get_or path n 0 < length t
complete-inside t [] n c h = absurd c
complete-inside t (b ∷ p) n (e, w) h = path_inside t n w h

-- the block where a path ends stands in it after the others
pub path-at : (t : Task) {b e : ℕ} {p : List ℕ} (q : List ℕ) → PathFrom t b p e → get_or (b ∷ (p ++ q)) (length p) 0 ≡ e
path-at t q (stay h) = refl
path-at t q (step m w) = path-at t q w

pub references_join : (t : Task) (p q : List ℕ) → references t (p ++ q) ≡ references t p ++ references t q
references_join t [] q = refl
references_join t (b ∷ p) q = rw (references_join t p q, append_assoc)

-- what is true of each reference of each block is true of each reference of a path
pub references-each : (t : Task) (P : ℕ → Type 0) → ((b m : ℕ) → mem eqb m (block t b).references ≡ true → P m)
    → (p : List ℕ) (m : ℕ) → mem eqb m (references t p) ≡ true → P m
references-each t P h [] m e = absurd (false≢true e)
references-each t P h (b ∷ p) m e =
    elim (mem-append_cases eqb eqb_self eqb-true m (block t b).references (references t p) e) [ inl q ↦ h b m q | inr q ↦ references-each t P h p m q ]

-- ---- predecessors

pub predecessors_has : (xs : Task) (i b c : ℕ) → mem eqb c (block xs b).successors ≡ true → mem eqb (i + b) (predecessors_from i xs c) ≡ true
predecessors_has [] i b c e = absurd (false≢true e)
predecessors_has (x ∷ xs) i zero c e = rw e (or_left (eqb (i + 0) i) (mem eqb (i + 0) (predecessors_from (suc i) xs c)) (rw add-zero (eqb_self i)))
predecessors_has (x ∷ xs) i (suc b) c e = go (mem eqb c x.successors) (rw (add-suc, ← (suc-add i b)) (predecessors_has xs (suc i) b c e))
  where
    go : (s : Bool) → mem eqb (i + suc b) (predecessors_from (suc i) xs c) ≡ true
        → mem eqb (i + suc b) (cond s (i ∷ predecessors_from (suc i) xs c) (predecessors_from (suc i) xs c)) ≡ true
    go true ih = or_right (eqb (i + suc b) i) (mem eqb (i + suc b) (predecessors_from (suc i) xs c)) ih
    go false ih = ih

-- p is a predecessor of c, counted from i
pub record Predecessor (xs : Task) (i p c : ℕ) : Type 0 where
  pub place : ℕ
  pub counted : p ≡ i + place
  pub below : place < length xs
  pub leads : mem eqb c (block xs place).successors ≡ true

pub predecessors_only : (xs : Task) (i p c : ℕ) → mem eqb p (predecessors_from i xs c) ≡ true → Predecessor xs i p c
predecessors_only [] i p c e = absurd (false≢true e)
predecessors_only (x ∷ xs) i p c e = go (mem eqb c x.successors) refl e (predecessors_only xs (suc i) p c)
  where
    later : Predecessor xs (suc i) p c → Predecessor (x ∷ xs) i p c
    later r = record { place = suc r.place; counted = omega (arith, r.counted); below = omega (arith, r.below); leads = r.leads }

    go : (s : Bool) → mem eqb c x.successors ≡ s → mem eqb p (cond s (i ∷ predecessors_from (suc i) xs c) (predecessors_from (suc i) xs c)) ≡ true
        → (mem eqb p (predecessors_from (suc i) xs c) ≡ true → Predecessor xs (suc i) p c) → Predecessor (x ∷ xs) i p c
    go true q e ih = elim (or_cases (eqb p i) (mem eqb p (predecessors_from (suc i) xs c)) e)
        [ inl r ↦ record { place = 0; counted = omega (arith, eqb-true p i r); below = omega arith; leads = q } | inr r ↦ later (ih r) ]
    go false q e ih = later (ih e)
