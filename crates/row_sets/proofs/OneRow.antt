-- One row and one set for all end rows: what some end row replaces in a row is where the end rows hold more than one memory block, and where the one row
-- replaces it. Where the end rows hold one memory block only, it is that of the one row; where they hold more, one of them is not what the row holds.
use mathlib.Core.Path.{◌≡◌, refl, sym, ap, ap₂, ◌∙◌}
use mathlib.Core.Bool.{Bool, true, false, not, cond, ◌&&◌, ◌||◌, and-false, or-false, true≢false, false≢true}
use mathlib.Core.Logic.{inl, inr}
use mathlib.Core.List.{List, [], ◌∷◌, ◌++◌}
use Prim.Native.Nat.{ℕ, zero, suc, ◌+◌, ◌-◌, ◌*◌, ◌<◌}
use native.Mathlib.Omega.{arith}
use lib.Dec.{eqb}
use lib.Bits.{bit_or}
use lib.ListN.{length, take, drop, replicate}
use borrow.Author.Tests.{eqb-true, eq-eqb}
use Rattle.cache.specs.References.{nothing}
use Rattle.cache.specs.Cache.{held}
use Rattle.cache.specs.Sets.{used, replaces, bits}
use Rattle.cache.proofs.Masks.{bits-or, bits_cong}
use Rattle.model.proofs.Membership.{or_cases, or_left, or_right, both_left}
use Rattle.rows.specs.Overlay.{overlay}
use Rattle.rows.specs.Rows.{rows_of}
use Rattle.rows.proofs.Parts.{rows_more}
use Rattle.rows.proofs.Overlays.{length-overlay, held-overlay}
use Rattle.row_sets.specs.Sets.{any_row, some_replaces, some_uses, some_holds, OneOfThem, Joined}
use Rattle.row_sets.proofs.ReplacedSets.{any_append}

-- ---- what some end row replaces

any_mono : (t u : List ℕ → Bool) → ((f : List ℕ) → t f ≡ true → u f ≡ true) → (fs : List (List ℕ)) → any_row t fs ≡ true → any_row u fs ≡ true
any_mono t u h [] e = absurd (false≢true e)
any_mono t u h (f ∷ fs) e = elim (or_cases (t f) (any_row t fs) e) [
  | inl i ↦ or_left (u f) (any_row u fs) (h f i)
  | inr i ↦ or_right (u f) (any_row u fs) (any_mono t u h fs i)
]

-- what an end row replaces is used by the end row
some-used : (r : List ℕ) (fs : List (List ℕ)) (c : ℕ) → some_replaces fs r c ≡ true → some_uses fs c ≡ true
some-used r [] c e = absurd (false≢true e)
some-used r (f ∷ fs) c e = elim (or_cases (replaces f r c) (some_replaces fs r c) e) [
  | inl h ↦ or_left (used f c) (some_uses fs c) (both_left (used f c) (not (eqb (held f c) (held r c))) h)
  | inr h ↦ or_right (used f c) (some_uses fs c) (some-used r fs c h)
]

none-used : (r : List ℕ) (fs : List (List ℕ)) (c : ℕ) → some_uses fs c ≡ false → some_replaces fs r c ≡ false
none-used r fs c e = go (some_replaces fs r c) refl
  where
    go : (b : Bool) → some_replaces fs r c ≡ b → some_replaces fs r c ≡ false
    go true q = absurd (true≢false (sym (some-used r fs c q) ∙ e))
    go false q = q

module _ (w : ℕ) (fs : List (List ℕ)) (one r : List ℕ) (is : OneOfThem w fs one) (c : ℕ) (l : c < w) where
  unused : used one c ≡ false → some_uses fs c ≡ false
  unused q = go (some_uses fs c) refl
    where
      go : (b : Bool) → some_uses fs c ≡ b → some_uses fs c ≡ false
      go true e = absurd (true≢false (sym (is.all c l e) ∙ q))
      go false e = e

  pub some-by-one : (some_replaces fs one c || replaces one r c) ≡ some_replaces fs r c
  some-by-one = go (eqb (held one c) (held r c)) refl (used one c) refl
    where
      go : (b : Bool) → eqb (held one c) (held r c) ≡ b → (u : Bool) → used one c ≡ u → (some_replaces fs one c || replaces one r c) ≡ some_replaces fs r c
      go true e u q =
          let none : replaces one r c ≡ false = rw e (and-false (used one c)) in
          ap (λ (x : Bool). some_replaces fs one c || x) none
          ∙ or-false (some_replaces fs one c)
          ∙ ap (λ (z : ℕ). any_row (λ (f : List ℕ). used f c && not (eqb (held f c) z)) fs) (eqb-true (held one c) (held r c) e)
      go false e true q =
          let here : replaces one r c ≡ true = rw (q, e) in
          let each : (f : List ℕ) → eqb (held f c) (held one c) ≡ true → replaces f r c ≡ true = λ f h. rw (eqb-true (held f c) (held one c) h) here in
          or_right (some_replaces fs one c) (replaces one r c) here
          ∙ sym (any_mono (λ (f : List ℕ). eqb (held f c) (held one c)) (λ (f : List ℕ). replaces f r c) each fs (is.from c q))
      go false e false q =
          let none = unused q in
          let left : replaces one r c ≡ false = rw q in
          ap₂ (λ (x y : Bool). x || y) (none-used one fs c none) left ∙ sym (none-used r fs c none)

-- as sets
pub joined-replaces : (fs : List (List ℕ)) (one r : List ℕ) {w mixed mine : ℕ} → Joined w fs one mixed → mine ≡ bits w (replaces one r) → bit_or mixed mine ≡ bits w (some_replaces fs r)
joined-replaces fs one r {w} j e =
    ap₂ bit_or j.others e
    ∙ bits-or w (some_replaces fs one) (replaces one r)
    ∙ bits_cong w _ _ (λ c l. some-by-one w fs one r j.row c l)

-- ---- the row is made by laying the end rows one over the other

used-inside : (row : List ℕ) (c : ℕ) → used row c ≡ true → c < length row
used-inside [] c u = absurd (true≢false (sym u ∙ rw (eq-eqb nothing nothing refl)))
used-inside (x ∷ row) zero u = omega arith
used-inside (x ∷ row) (suc c) u = omega (arith, used-inside row c u)

module _ (w : ℕ) (fs : List (List ℕ)) (one f : List ℕ) (is : OneOfThem w fs one) where
  at : (c : ℕ) → c < w → held (overlay one f) c ≡ cond (eqb (held f c) nothing) (held one c) (held f c)
  at c l = held-overlay one f c (rw is.wide l)

  one-append : OneOfThem w (fs ++ (f ∷ [])) (overlay one f)
  one-append =
      record {
        wide = length-overlay one f ∙ is.wide;
        from = λ c u. from c (omega (arith, used-inside (overlay one f) c u, length-overlay one f, is.wide)) u (eqb (held f c) nothing) refl;
        all = λ c l u. all c l (rw (any_append (λ (g : List ℕ). used g c) fs (f ∷ []), or-false (used f c)) at u) (eqb (held f c) nothing) refl;
      }
    where
      from : (c : ℕ) → c < w → used (overlay one f) c ≡ true → (b : Bool) → eqb (held f c) nothing ≡ b → some_holds (fs ++ (f ∷ [])) c (held (overlay one f) c) ≡ true
      from c l u true q =
          let same : held (overlay one f) c ≡ held one c = at c l ∙ rw q in
          rw (any_append (λ (g : List ℕ). eqb (held g c) (held (overlay one f) c)) fs (f ∷ []), same) (or_left (some_holds fs c (held one c)) (some_holds (f ∷ []) c (held one c)) (is.from c (rw same at u)))
      from c l u false q =
          let same : held (overlay one f) c ≡ held f c = at c l ∙ rw q in
          rw (any_append (λ (g : List ℕ). eqb (held g c) (held (overlay one f) c)) fs (f ∷ []), same) (or_right (some_holds fs c (held f c)) (some_holds (f ∷ []) c (held f c)) (rw (eq-eqb (held f c) (held f c) refl)))

      all : (c : ℕ) → c < w → (some_uses fs c || used f c) ≡ true → (b : Bool) → eqb (held f c) nothing ≡ b → used (overlay one f) c ≡ true
      all c l u true q =
          let same : held (overlay one f) c ≡ held one c = at c l ∙ rw q in
          rw same (is.all c l (sym (or-false (some_uses fs c)) ∙ (rw q at u)))
      all c l u false q =
          let same : held (overlay one f) c ≡ held f c = at c l ∙ rw q in
          rw (same, q)

-- a turn, with the row numbered k
pub one_more : (w k : ℕ) (l one : List ℕ) {new : List ℕ} → OneOfThem w (rows_of w k l) one
    → new ≡ overlay one (take (w * k + w - w * k) (drop (w * k) l)) → OneOfThem w (rows_of w (k + 1) l) new
one_more w k l one is e = rw (e, rows_more w k l) (one-append w (rows_of w k l) one (take (w * k + w - w * k) (drop (w * k) l)) is)

-- the row of nothings is the row for none
nothings : (n m c : ℕ) → held (take n (replicate m nothing)) c ≡ nothing
nothings zero m c = refl
nothings (suc n) zero c = refl
nothings (suc n) (suc m) zero = refl
nothings (suc n) (suc m) (suc c) = nothings n m c

pub one_of-none : (w m : ℕ) {row : List ℕ} → length row ≡ w → row ≡ take w (replicate m nothing) → OneOfThem w [] row
one_of-none w m long e =
    record {
      wide = long;
      from = λ c u. absurd (true≢false (sym u ∙ rw (e, nothings w m c, eq-eqb nothing nothing refl)));
      all = λ c l u. absurd (false≢true u);
    }
