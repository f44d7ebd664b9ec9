-- One reference, and the references in a list of bytes, in the code's words.
-- The idea: what is left of the references, made from here, gives what all of them give from the start.
use mathlib.Core.Path.{◌≡◌, sym, ap, ap₂, ◌∙◌}
use mathlib.Core.Bool.{Bool, true, false, not}
use mathlib.Core.List.{List, [], ◌∷◌}
use Prim.Native.Nat.{ℕ, suc, ◌+◌, ◌*◌, ◌/◌, ◌<◌, ◌≤◌}
use native.Mathlib.Numerals.{add-one}
use native.Mathlib.Omega.{arith}
use lib.Dec.{eqb}
use lib.ListN.{length, drop, drop_of_length-le}
use lib.Seq.{drop-cons}
use borrow.Author.Tests.{eq-eqb, ne_eqb}
use Rattle.cache.specs.Sum.{bit}
use Rattle.cache.specs.References.{number_at, numbers}
use Rattle.cache.specs.Cache.{Cache, held, hits, with_reference}
use Rattle.cache.proofs.NumberLaws.{length-numbers, get_d_numbers}
use Rattle.model.specs.Runs.{RowCount, own_references}
use Rattle.runs.specs.Running.{row_count, with_own}
use Rattle.runs.proofs.PathCounts.{own-bound}

-- ---- one reference: `was` is what its place held, v is m, and `next` the row after it

module _ (k : Cache) (m old : ℕ) (cells : List ℕ) {was v : ℕ} {next : List ℕ} (ew : was ≡ held cells (k.place m)) (ev : v ≡ m) (en : next ≡ with_reference k cells m) where
  seen : (b : Bool) → eqb was v ≡ b → hits k cells m ≡ b
  seen b e = sym (ap₂ eqb ew ev) ∙ e

  pub reference_missed : {new : ℕ} → (was ≡ v → ⊥) → new ≡ old + 1 → row_count next new ≡ with_own k (row_count cells old) m
  reference_missed h e = ap₂ row_count en (e ∙ sym (ap (λ b. old + bit (not b)) (seen _ (ne_eqb was v h))))

  pub reference_hit : {new : ℕ} → was ≡ v → new ≡ old → row_count next new ≡ with_own k (row_count cells old) m
  reference_hit h e = ap₂ row_count en (e ∙ sym (ap (λ b. old + bit (not b)) (seen _ (eq-eqb was v h)) ∙ omega arith))

-- it hits just where the count is the one before
pub hit_by_count : (k : Cache) (m old : ℕ) (cells : List ℕ) {next : List ℕ} {new : ℕ} → row_count next new ≡ with_own k (row_count cells old) m → eqb new old ≡ hits k cells m
hit_by_count k m old cells {new = new} e = go (hits k cells m) (ap (λ (x : RowCount). x.count) e)
  where
    go : (b : Bool) → new ≡ old + bit (not b) → eqb new old ≡ b
    go true q = eq-eqb new old (omega arith)
    go false q = ne_eqb new old (λ same. omega arith)

-- ---- references in a list of bytes

-- the next of them is the one numbered i
pub next-number : (s : List ℕ) (i : ℕ) {m : ℕ} → i < length s / 2 → m ≡ number_at s (2 * i) → drop i (numbers s) ≡ m ∷ drop (i + 1) (numbers s)
next-number s i h em =
    rw (add-one i, em)
    (drop-cons (numbers s) i 0 (rw length-numbers h) ∙ ap (λ x. x ∷ drop (suc i) (numbers s)) (get_d_numbers s i (omega arith)))

-- none is left
pub no_number_lem : (s : List ℕ) (i : ℕ) → length s / 2 ≤ i → [] ≡ drop i (numbers s)
no_number_lem s i h = sym (drop_of_length-le (numbers s) {i = i} (rw length-numbers h))

module _ (k : Cache) (s : List ℕ) (i : ℕ) where
  pub references_turn : (cells : List ℕ) (old : ℕ) {next : List ℕ} {new m : ℕ} → i < length s / 2 → m ≡ number_at s (2 * i) → row_count next new ≡ with_own k (row_count cells old) m
      → own_references k (row_count next new) (drop (i + 1) (numbers s)) ≡ own_references k (row_count cells old) (drop i (numbers s))
  references_turn cells old h em en =
      ap (λ (x : RowCount). own_references k x (drop (i + 1) (numbers s))) en ∙ ap (own_references k (row_count cells old)) (sym (next-number s i h em))

  pub references-end : (cells : List ℕ) (old : ℕ) → length s / 2 ≤ i → row_count cells old ≡ own_references k (row_count cells old) (drop i (numbers s))
  references-end cells old h = ap (own_references k (row_count cells old)) (no_number_lem s i h)

-- a reference adds at most 1
pub reference_adds : (k : Cache) (m : ℕ) (cells : List ℕ) (old : ℕ) {next : List ℕ} {new : ℕ} → row_count next new ≡ with_own k (row_count cells old) m → new ≤ old + 1
reference_adds k m cells old e = omega (arith, ap (λ (x : RowCount). x.count) e, own-bound k (m ∷ []) (row_count cells old))
