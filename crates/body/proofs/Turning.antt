-- Sets turned round: a turn of the loop that makes them, and what they have.
use mathlib.Core.Path.{◌≡◌, refl, sym, ap, ◌∙◌}
use mathlib.Core.Bool.{Bool, true, false, false≢true}
use mathlib.Core.List.{List, ◌∷◌, ◌++◌}
use Prim.Native.Nat.{ℕ, zero, suc, ◌+◌, ◌-◌, ◌≤◌, ◌<◌}
use native.Mathlib.Nat.{add-zero, add-suc, suc-add, zero-add}
use native.Mathlib.Numerals.{add-one}
use native.Mathlib.Omega.{arith}
use lib.Dec.{ltb}
use lib.ListN.{get_or, set, replicate, get_or-append}
use lib.Pow.{pow_mono}
use borrow.Author.Tests.{ltb-true, ltb-false}
use Rattle.cache.specs.References.{All}
use Rattle.cache.specs.Cache.{row_from}
use Rattle.cache.specs.Sets.{in_set}
use Rattle.cache.proofs.Rows.{length-row_from, row_from-at}
use Rattle.cache.proofs.Bits.{bits_lt}
use Rattle.cache.proofs.Masks.{bits_test}
use Rattle.cache.proofs.Members.{in_empty, in_below}
use Rattle.body.specs.Turned.{leading_to, turned}

-- ---- the loop

-- the numbers up to s, and zeros up to 24
abbrev pub made_to : (ℕ → ℕ) → ℕ → List ℕ
made_to f s = row_from 0 s f ++ replicate (24 - s) 0

stored : (f : ℕ → ℕ) (c s k : ℕ) → set (row_from c s f ++ replicate (suc k) 0) s (f (c + s)) ≡ row_from c (suc s) f ++ replicate k 0
stored f c zero k = ap (λ i. f i ∷ replicate k 0) (add-zero c)
stored f c (suc s) k = ap (λ l. f c ∷ l) (ap (λ i. set (row_from (suc c) s f ++ replicate (suc k) 0) s (f i)) (add-suc c s ∙ sym (suc-add c s)) ∙ stored f (suc c) s k)

pub made_turn : (f : ℕ → ℕ) (s : ℕ) {l now : List ℕ} {x : ℕ} → s < 24 → l ≡ made_to f s → x ≡ f s → now ≡ set l s x → now ≡ made_to f (s + 1)
made_turn f s h el ex en =
    let e : 24 - s ≡ suc (24 - suc s) = omega arith in
    en ∙ rw (el, ex, add-one s, e) (ap (λ i. set (row_from 0 s f ++ replicate (suc (24 - suc s)) 0) s (f i)) (sym (zero-add s)) ∙ stored f 0 s (24 - suc s))

-- ---- what a set has that was turned round

pub no_set : (k b : ℕ) → ◌≡◌ {A = ℕ} (get_or (replicate k 0) b 0) 0
no_set zero b = refl
no_set (suc k) zero = refl
no_set (suc k) (suc b) = no_set k b

made_at : (f : ℕ → ℕ) (c w k s : ℕ) → s < w → get_or (row_from c w f ++ replicate k 0) s 0 ≡ f (c + s)
made_at f c w k s h = get_or-append (row_from c w f) (replicate k 0) 0 s (rw (length-row_from w c f) h) ∙ row_from-at w c s 0 f h

made_beyond : (f : ℕ → ℕ) (c w k s : ℕ) → w ≤ s → get_or (row_from c w f ++ replicate k 0) s 0 ≡ 0
made_beyond f c zero k s h = no_set k s
made_beyond f c (suc w) k zero h = absurd (omega arith)
made_beyond f c (suc w) k (suc s) h = made_beyond f (suc c) w k s (omega arith)

module _ (sets : List ℕ) (B : ℕ) where
  turned-at : (s : ℕ) → s < B → get_or (turned sets B) s 0 ≡ leading_to sets B s
  turned-at s h = made_at (leading_to sets B) 0 B (24 - B) s h ∙ ap (leading_to sets B) (zero-add s)

  pub turned_has : (s b : ℕ) → s < B → b < B → in_set (get_or sets b 0) s ≡ true → in_set (get_or (turned sets B) s 0) b ≡ true
  turned_has s b hs hb e = ap (λ (x : ℕ). in_set x b) (turned-at s hs) ∙ bits_test B b (λ d. in_set (get_or sets d 0) s) hb ∙ e

  pub turned_only : (s b : ℕ) → in_set (get_or (turned sets B) s 0) b ≡ true → (b < B) × (in_set (get_or sets b 0) s ≡ true)
  turned_only s b e = go (ltb s B) refl
    where
      go : (x : Bool) → ltb s B ≡ x → (b < B) × (in_set (get_or sets b 0) s ≡ true)
      go true q =
          let has : in_set (leading_to sets B s) b ≡ true = sym (ap (λ (x : ℕ). in_set x b) (turned-at s (ltb-true s B q))) ∙ e in
          let below : b < B = in_below B (leading_to sets B s) b (bits_lt B (λ d. in_set (get_or sets d 0) s)) has in
          (below, sym (bits_test B b (λ d. in_set (get_or sets d 0) s) below) ∙ has)
      go false q =
          absurd (false≢true (sym (in_empty b) ∙ sym (ap (λ (x : ℕ). in_set x b) (made_beyond (leading_to sets B) 0 B (24 - B) s (ltb-false s B q))) ∙ e))

-- each set is below 2 ^ 24
pub turned-below : (sets : List ℕ) (B : ℕ) → B ≤ 24 → All (λ (x : ℕ). x < 16777216) (turned sets B)
turned-below sets B h = rows 0 B (24 - B)
  where
    one : (s : ℕ) → leading_to sets B s < 16777216
    one s = omega (arith, bits_lt B (λ d. in_set (get_or sets d 0) s), pow_mono {i = B} {j = 24} h)

    zeros : (k : ℕ) → All (λ (x : ℕ). x < 16777216) (replicate k 0)
    zeros zero = tt
    zeros (suc k) = (omega arith, zeros k)

    rows : (c w k : ℕ) → All (λ (x : ℕ). x < 16777216) (row_from c w (leading_to sets B) ++ replicate k 0)
    rows c zero k = zeros k
    rows c (suc w) k = (one c, rows (suc c) w k)
