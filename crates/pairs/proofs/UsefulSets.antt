-- The useful sets of a reaching row at a point: the most that they have in common with what end rows replace is the most over the live rows that they are made
-- of, and a number that the row cannot raise stays.
use mathlib.Core.Path.{◌≡◌, refl, sym, ap, ◌∙◌}
use mathlib.Core.Bool.{Bool, true, false, true≢false}
use mathlib.Core.List.{List, [], ◌∷◌, map}
use Prim.Native.Nat.{ℕ, zero, suc, ◌+◌, ◌-◌, ◌^◌, ◌≤◌, ◌<◌, max}
use native.Mathlib.Numerals.{add-one}
use native.Mathlib.Omega.{arith}
use lib.Dec.{eqb}
use lib.ListN.{length, get_or, take, drop}
use lib.Bits.{bit_and, and_comm}
use lib.Count.{ones}
use lib.Pow.{pow_mono}
use borrow.Author.Tests.{eqb-true, eqb-false, ltb-false}
use Rattle.cache.specs.Sets.{useful, bits}
use Rattle.cache.proofs.Bits.{bits_lt}
use Rattle.model.specs.Lists.{best}
use Rattle.model.proofs.Membership.{or_left, or_right}
use Rattle.rows.specs.Overlay.{overlay}
use Rattle.rows.proofs.Parts.{lent_first}
use Rattle.row_sets.specs.Sets.{useful_set, kept_set, useful_sets, replaced_sets, some_replaces}
use Rattle.pairs.specs.Pairs.{UsefulSets, most_common, sets_most, largest_of, NoMoreThanAll, point_most, useful_most, some_below, may_raise_some, end_rows, Met}
use Rattle.pairs.specs.declared.ends.Ends.{Ends}
use Rattle.pairs.proofs.Bounds.{all-bounds, stays_replaced}
use Rattle.pairs.proofs.Meeting.{most_ones}

-- ---- the sets are made of some live rows

best-map : (g : ℕ → ℕ) (f : List ℕ → ℕ) (ls : List (List ℕ)) → best (λ (l : List ℕ). g (f l)) ls ≡ best g (map f ls)
best-map g f [] = refl
best-map g f (l ∷ ls) = ap (max (g (f l))) (best-map g f ls)

each_made : (P : ℕ → Type 0) (f : List ℕ → ℕ) → ((l : List ℕ) → P (f l)) → (ls : List (List ℕ)) (k : ℕ) → k < length (map f ls)
    → P (get_or (map f ls) k 0)
each_made P f h [] k b = absurd (omega arith)
each_made P f h (l ∷ ls) zero b = h l
each_made P f h (l ∷ ls) (suc k) b = each_made P f h ls k (omega arith)

point_useful : (r rest : List ℕ) (ls fs : List (List ℕ)) → point_most r rest ls fs ≡ useful_most r (useful_sets r rest ls) fs
point_useful r rest ls fs = best-map (λ (u : ℕ). most_common u (replaced_sets r fs)) (λ (l : List ℕ). useful_set r (overlay l rest)) ls

module _ (r : List ℕ) (held : ℕ) (us : List ℕ) (is : UsefulSets r held us) where
  pub useful-most : (fs : List (List ℕ)) → point_most r is.rest is.lives fs ≡ useful_most r us fs
  useful-most fs = point_useful r is.rest is.lives fs ∙ ap (λ (x : List ℕ). useful_most r x fs) (sym is.sets)

  -- the first of the replaced sets were lent as a part, and all is their union
  pub part_bounded : (fs : List (List ℕ)) {part : List ℕ} {all : ℕ} → part ≡ replaced_sets r fs → all ≡ bits (length r) (some_replaces fs r) → NoMoreThanAll us part all
  part_bounded fs e d =
      rw (e, d, is.sets)
      (each_made (λ u. most_common u (replaced_sets r fs) ≤ ones (bit_and u (bits (length r) (some_replaces fs r)))) (λ (l : List ℕ). useful_set r (overlay l is.rest))
      (λ l. all-bounds r fs (overlay l is.rest)) is.lives)

  -- so the most is no more than the most that one of the useful sets has in common with all of them
  pub most_of_all : (fs : List (List ℕ)) {all : ℕ} → all ≡ bits (length r) (some_replaces fs r) → useful_most r us fs ≤ most_common all us
  most_of_all fs {all} d = go us (part_bounded fs refl d)
    where
      go : (l : List ℕ) → NoMoreThanAll l (replaced_sets r fs) all → sets_most l (replaced_sets r fs) ≤ most_common all l
      go [] h = omega arith
      go (u ∷ l) h =
          let first : most_common u (replaced_sets r fs) ≤ ones (bit_and all u) = rw (and_comm all u) (h 0 (omega arith)) in
          omega (arith, first, go l (λ k b. h (suc k) (omega arith)))

  -- nor than the largest useful set has
  pub most_of_largest : length r ≤ 32 → (fs : List (List ℕ)) → useful_most r us fs ≤ largest_of us
  most_of_largest narrow fs = rw is.sets (go is.lives)
    where
      go : (ls : List (List ℕ)) → useful_most r (useful_sets r is.rest ls) fs ≤ largest_of (useful_sets r is.rest ls)
      go [] = omega arith
      go (l ∷ ls) =
          let u = useful_set r (overlay l is.rest) in
          let fits : u < 2 ^ 32 = omega (arith, bits_lt (length r) (useful r (overlay l is.rest)), pow_mono {i = length r} {j = 32} narrow) in
          omega (arith, most_ones u (replaced_sets r fs) fits, go ls)

-- the first n of the sets were lent as a part
module _ (r rest : List ℕ) (ls : List (List ℕ)) (n : ℕ) (sets : List ℕ) (e : take n sets ≡ useful_sets r rest ls) where
  pub lent_sets : {held : ℕ} → held ≡ kept_set r rest → UsefulSets r held (take (n - 0) (drop 0 sets))
  lent_sets is = record { rest = rest; lives = ls; kept-is = is; sets = lent_first n sets ∙ e }

  pub lent_useful : (fs : List (List ℕ)) → point_most r rest ls fs ≡ useful_most r (take (n - 0) (drop 0 sets)) fs
  lent_useful fs = point_useful r rest ls fs ∙ ap (λ (us : List ℕ). useful_most r us fs) (sym (lent_first n sets ∙ e))

-- ---- whether a number may be raised

module _ (test : ℕ → Bool) where
  pub some_more : (j : ℕ) → test j ≡ false → some_below test j ≡ false → some_below test (j + 1) ≡ false
  some_more j h e = rw (add-one j, h, e)

  pub some_here : (n j : ℕ) → j < n → test j ≡ true → some_below test n ≡ true
  some_here zero j l h = absurd (omega arith)
  some_here (suc n) j l h = go (eqb j n) refl (λ i. some_here n j i h)
    where
      go : (s : Bool) → eqb j n ≡ s → (j < n → some_below test n ≡ true) → some_below test (suc n) ≡ true
      go true q ih = or_left (test n) (some_below test n) (rw (eqb-true j n q) at h)
      go false q ih = or_right (test n) (some_below test n) (ih (omega (arith, eqb-false j n q)))

  pub some-not : (n j : ℕ) → some_below test n ≡ false → j < n → test j ≡ false
  some-not n j e l = go (test j) refl
    where
      go : (s : Bool) → test j ≡ s → test j ≡ false
      go true q = absurd (true≢false (sym (some_here n j l q) ∙ e))
      go false q = q

-- where none may be raised, the numbers are met as they are
pub met_as_is : (row rest : List ℕ) (ends : Ends) (numbers : List ℕ) (ls : List (List ℕ)) (tasks : ℕ) {held : ℕ}
    → held ≡ kept_set row rest → may_raise_some row held ends numbers tasks ≡ false → Met (point_most row rest ls) ends tasks numbers numbers
met_as_is row rest ends numbers ls tasks {held} is e =
    record {
      long = refl;
      each = λ j h.
          let fs = end_rows ends j in
          let all = bits (length row) (some_replaces fs row) in
          stays_replaced row rest ls fs (get_or numbers j 0) is (ltb-false (get_or numbers j 0) (ones (bit_and held all)) (some-not _ tasks j e h)) refl refl;
      rest = λ j h. refl;
    }
