-- No useful set has more in common with one of the sets that end rows replace than with their union, nor more than what can be useful at the point has.
-- The number of cache blocks in both of two sets is a count, and a count of more tests that pass is no smaller.
use mathlib.Core.Path.{◌≡◌, refl, sym, ap, ap₂, ◌∙◌}
use mathlib.Core.Bool.{Bool, true, false, not, cond, ◌&&◌, false≢true}
use mathlib.Core.List.{List, [], ◌∷◌}
use Prim.Native.Nat.{ℕ, zero, suc, ◌≤◌, max}
use native.Mathlib.Nat.{le_trans}
use native.Mathlib.Omega.{arith}
use lib.Dec.{eqb}
use lib.ListN.{length}
use lib.Bits.{bit_and}
use lib.Count.{ones}
use borrow.Author.Tests.{eqb-true, eq-eqb}
use Rattle.cache.specs.Sum.{bit}
use Rattle.cache.specs.References.{nothing}
use Rattle.cache.specs.Cache.{held}
use Rattle.cache.specs.Sets.{useful, used, replaces, bits}
use Rattle.cache.proofs.Sums.{sum_le}
use Rattle.cache.proofs.Bits.{ones_and}
use Rattle.model.specs.Lists.{best}
use Rattle.model.proofs.Membership.{or_left, or_right, both_left, both_right}
use Rattle.rows.specs.Overlay.{overlay}
use Rattle.row_sets.specs.Sets.{useful_set, kept, kept_set, replaced_set, replaced_sets, some_replaces}
use Rattle.pairs.specs.Pairs.{most_common, point_most}

bit_mono : (a b : Bool) → (a ≡ true → b ≡ true) → bit a ≤ bit b
bit_mono true b h = rw (h refl) (omega arith)
bit_mono false b h = omega arith

-- two sets have no more in common than two that hold them
common_mono : (w : ℕ) (P Q P' Q' : ℕ → Bool) → ((c : ℕ) → P c ≡ true → P' c ≡ true) → ((c : ℕ) → Q c ≡ true → Q' c ≡ true)
    → ones (bit_and (bits w P) (bits w Q)) ≤ ones (bit_and (bits w P') (bits w Q'))
common_mono w P Q P' Q' f g =
    rw (ones_and w P Q, ones_and w P' Q')
    (sum_le w (λ c. bit (P c && Q c)) (λ c. bit (P' c && Q' c)) (λ c h. bit_mono (P c && Q c) (P' c && Q' c) (both c)))
  where
    both : (c : ℕ) → P c && Q c ≡ true → P' c && Q' c ≡ true
    both c e = rw (f c (both_left (P c) (Q c) e), g c (both_right (P c) (Q c) e))

best-below : (f : List ℕ → ℕ) (n : ℕ) → ((x : List ℕ) → f x ≤ n) → (l : List (List ℕ)) → best f l ≤ n
best-below f n h [] = omega arith
best-below f n h (x ∷ l) = omega (arith, h x, best-below f n h l)

-- what is held where the rest holds something is that
overlaid : (l rest : List ℕ) (c m : ℕ) → eqb m (held (overlay l rest) c) && not (eqb m nothing) ≡ true
    → not (eqb m nothing) && not (used rest c && not (eqb (held rest c) m)) ≡ true
overlaid [] rest c m e = absurd (false≢true (sym (unlike (eqb m nothing)) ∙ e))
  where
    unlike : (b : Bool) → b && not b ≡ false
    unlike true = refl
    unlike false = refl
overlaid (x ∷ l) [] c m e = rw (both_right (eqb m (held (x ∷ l) c)) (not (eqb m nothing)) e, eq-eqb nothing nothing refl)
overlaid (x ∷ l) (y ∷ rest) zero m e = go (eqb y nothing) refl e
  where
    go : (b : Bool) → eqb y nothing ≡ b → eqb m (cond b x y) && not (eqb m nothing) ≡ true
        → not (eqb m nothing) && not (not (eqb y nothing) && not (eqb y m)) ≡ true
    go true q h = rw (q, both_right (eqb m x) (not (eqb m nothing)) h)
    go false q h =
        let same : m ≡ y = eqb-true m y (both_left (eqb m y) (not (eqb m nothing)) h) in
        rw (q, both_right (eqb m y) (not (eqb m nothing)) h, eq-eqb y m (sym same))
overlaid (x ∷ l) (y ∷ rest) (suc c) m e = overlaid l rest c m e

module _ (r : List ℕ) where
  pub all-bounds : (fs : List (List ℕ)) (l : List ℕ)
      → most_common (useful_set r l) (replaced_sets r fs) ≤ ones (bit_and (useful_set r l) (bits (length r) (some_replaces fs r)))
  all-bounds [] l = omega arith
  all-bounds (f ∷ fs) l =
      let one = common_mono (length r) (useful r l) (replaces f r) (useful r l) (some_replaces (f ∷ fs) r) (λ c e. e) (λ c e. or_left (replaces f r c) (some_replaces fs r c) e) in
      let more = common_mono (length r) (useful r l) (some_replaces fs r) (useful r l) (some_replaces (f ∷ fs) r) (λ c e. e) (λ c e. or_right (replaces f r c) (some_replaces fs r c) e) in
      omega (arith, one, more, all-bounds fs l)

  module _ (rest : List ℕ) (ls fs : List (List ℕ)) where
    most-held : point_most r rest ls fs ≤ ones (bit_and (kept_set r rest) (bits (length r) (some_replaces fs r)))
    most-held =
        best-below (λ (l : List ℕ). most_common (useful_set r (overlay l rest)) (replaced_sets r fs)) (ones (bit_and (kept_set r rest) (bits (length r) (some_replaces fs r))))
        (λ l. le_trans (all-bounds fs (overlay l rest))
        (common_mono (length r) (useful r (overlay l rest)) (some_replaces fs r) (kept r rest) (some_replaces fs r) (λ c e. overlaid l rest c (held r c) e) (λ c e. e)))
        ls

    -- so a number stays where what can be useful has no more in common with what the end rows replace
    module _ (number : ℕ) {mine other both : ℕ} (is : mine ≡ kept_set r rest) (few : both ≤ number) (e : both ≡ ones (bit_and mine other)) where
      pub stays_replaced : other ≡ bits (length r) (some_replaces fs r) → number ≡ max number (point_most r rest ls fs)
      stays_replaced d = omega (arith, few, e, ap₂ (λ (x y : ℕ). ones (bit_and x y)) is d, most-held)

-- the most in common with one of the sets that end rows replace, over the end rows
pub over_ends_lem : (u : ℕ) (r : List ℕ) (fs : List (List ℕ)) → most_common u (replaced_sets r fs) ≡ best (λ (f : List ℕ). ones (bit_and u (replaced_set f r))) fs
over_ends_lem u r [] = refl
over_ends_lem u r (f ∷ fs) = ap (max (ones (bit_and u (replaced_set f r)))) (over_ends_lem u r fs)
