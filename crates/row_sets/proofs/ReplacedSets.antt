-- The sets that end rows replace: a turn of the passes over the end rows, and the count of the definitions.
use mathlib.Core.Path.{◌≡◌, refl, sym, ap, ap₂, ◌∙◌}
use mathlib.Core.Bool.{Bool, ◌||◌, or_assoc, or-false}
use mathlib.Core.List.{List, [], ◌∷◌, ◌++◌, map, map-append}
use Prim.Native.Nat.{ℕ, ◌+◌, ◌-◌, ◌*◌, ◌<◌}
use native.Mathlib.Numerals.{add-one}
use native.Mathlib.Omega.{arith}
use lib.ListN.{length, set, take, drop}
use lib.Seq.{drop-drop, drop-set-lt, take-suc-set}
use lib.Bits.{bit_and, bit_or}
use lib.Count.{ones}
use Rattle.cache.specs.Cache.{Cache}
use Rattle.cache.specs.Sets.{useful, replaces, useful_replaced, bits}
use Rattle.cache.proofs.Bits.{ones_useful_replaced}
use Rattle.cache.proofs.Masks.{bits-or, bits_cong}
use Rattle.rows.specs.Rows.{rows_of}
use Rattle.rows.proofs.Parts.{rows_more}
use Rattle.row_sets.specs.Sets.{useful_set, replaced_set, any_row}

-- ---- a turn of the passes over the end rows, of which k were seen

pub any_append : (test : List ℕ → Bool) (a b : List (List ℕ)) → any_row test (a ++ b) ≡ (any_row test a || any_row test b)
any_append test [] b = refl
any_append test (f ∷ a) b = ap (λ (x : Bool). test f || x) (any_append test a b) ∙ sym (or_assoc (test f) (any_row test a) (any_row test b))

-- the union of the sets so far, with the set of the next row
module _ (test : List ℕ → ℕ → Bool) (w k : ℕ) (l : List ℕ) where
  abbrev row : List ℕ
  row = take (w * k + w - w * k) (drop (w * k) l)

  any_more : (c : ℕ) → (any_row (λ (f : List ℕ). test f c) (rows_of w k l) || test row c) ≡ any_row (λ (f : List ℕ). test f c) (rows_of w (k + 1) l)
  any_more c =
      let t : List ℕ → Bool = λ (f : List ℕ). test f c in
      ap (λ (x : Bool). any_row t (rows_of w k l) || x) (sym (or-false (test row c)))
      ∙ sym (any_append t (rows_of w k l) (row ∷ []))
      ∙ ap (any_row t) (sym (rows_more w k l))

  pub union_more : {all set new : ℕ} → all ≡ bits w (λ c. any_row (λ (f : List ℕ). test f c) (rows_of w k l)) → set ≡ bits w (test row) → new ≡ bit_or all set
      → new ≡ bits w (λ c. any_row (λ (f : List ℕ). test f c) (rows_of w (k + 1) l))
  union_more e d q =
      q
      ∙ ap₂ bit_or e d
      ∙ bits-or w (λ c. any_row (λ (f : List ℕ). test f c) (rows_of w k l)) (test row)
      ∙ bits_cong w _ _ (λ c h. any_more c)

-- what f makes of the next row, stored after what it makes of the rows so far
pub stored_more : (f : List ℕ → ℕ) (w k : ℕ) (l sets : List ℕ) {v : ℕ} → k < length sets → take k sets ≡ map f (rows_of w k l)
    → v ≡ f (take (w * k + w - w * k) (drop (w * k) l)) → take (k + 1) (set sets k v) ≡ map f (rows_of w (k + 1) l)
stored_more f w k l sets {v} h e d =
    ap (λ (n : ℕ). take n (set sets k v)) (add-one k)
    ∙ take-suc-set sets k v h
    ∙ ap₂ (λ (a : List ℕ) (x : ℕ). a ++ (x ∷ [])) e d
    ∙ sym (map-append f (rows_of w k l) (take (w * k + w - w * k) (drop (w * k) l) ∷ []))
    ∙ ap (map f) (sym (rows_more w k l))

-- a set stored at n leaves those after it
pub after-new : (first sets : List ℕ) (n v : ℕ) → drop n sets ≡ drop n first → drop (n + 1) (set sets n v) ≡ drop (n + 1) first
after-new first sets n v e = drop-set-lt (n + 1) sets n v (omega arith) ∙ sym (drop-drop 1 n sets) ∙ ap (drop 1) e ∙ drop-drop 1 n first

-- ---- the count of the definitions

-- of rows as wide as the cache's
pub counts_as : (k : Cache) (r l f : List ℕ) → length r ≡ k.width → ones (bit_and (useful_set r l) (replaced_set f r)) ≡ useful_replaced k r l f
counts_as k r l f p = ap (λ (w : ℕ). ones (bit_and (bits w (useful r l)) (bits w (replaces f r)))) p ∙ ones_useful_replaced k r l f
