-- g is at least what Point 7 charges for a run inside runs of lower tasks: `charged_le`.
-- The idea: g is the sum of the pair numbers up to i without those up to j; tasks of rising number take each of its terms once at most.
use mathlib.Core.Path.{◌≡◌, ap, ◌∙◌}
use mathlib.Core.List.{List, [], ◌∷◌}
use Prim.Native.Nat.{ℕ, zero, suc, ◌+◌, ◌-◌, ◌≤◌, ◌<◌}
use native.Mathlib.Nat.{le_refl}
use native.Mathlib.Omega.{arith}
use Rattle.cache.specs.Sum.{sum}
use Rattle.response.specs.Response.{g}

module _ (pair : ℕ → ℕ → ℕ) (j : ℕ) where
  -- the pair numbers by j of the tasks below n
  abbrev below : ℕ → ℕ
  below n = sum n (λ (h : ℕ). pair h j)

  below_grows : (n d m : ℕ) → m ≡ d + n → below n ≤ below m
  below_grows n zero m e = let z : n ≡ m = omega arith in rw z (le_refl (below m))
  below_grows n (suc d) zero e = absurd (omega arith)
  below_grows n (suc d) (suc m) e = omega (arith, below_grows n d m (omega arith))

  g-own : g pair j j ≡ 0
  unfolding g
  g-own = let e : j - j ≡ 0 = omega arith in ap (λ (k : ℕ). sum k (λ (k : ℕ). pair (j + 1 + k) j)) e

  g-next : (i : ℕ) → j ≤ i → g pair (suc i) j ≡ g pair i j + pair (suc i) j
  unfolding g
  g-next i l =
      let e : suc i - j ≡ suc (i - j) = omega arith in
      let m : j + 1 + (i - j) ≡ suc i = omega arith in
      ap (λ (k : ℕ). sum k (λ (k : ℕ). pair (j + 1 + k) j)) e ∙ ap (λ (h : ℕ). sum (i - j) (λ (k : ℕ). pair (j + 1 + k) j) + pair h j) m

  g-below : (d i : ℕ) → i ≡ d + j → g pair i j + below (suc j) ≡ below (suc i)
  g-below zero i e = let z : i ≡ j = omega arith in rw z (omega (arith, g-own))
  g-below (suc d) zero e = absurd (omega arith)
  g-below (suc d) (suc i) e = omega (arith, g-below d i (omega arith), g-next i (omega arith))

  -- tasks of rising number, above `last` and up to i: those around a run, from the inside
  abbrev pub Rise : ℕ → List ℕ → ℕ → Type 0
  Rise last [] i = Unit {0}
  Rise last (h ∷ hs) i = (last < h) × (h ≤ i) × Rise h hs i

  -- the pair numbers by j of these tasks
  abbrev pub charged : List ℕ → ℕ
  charged [] = 0
  charged (h ∷ hs) = pair h j + charged hs

  charged_below : (hs : List ℕ) (last i : ℕ) → last ≤ i → Rise last hs i → charged hs + below (suc last) ≤ below (suc i)
  charged_below [] last i l r = omega (arith, below_grows (suc last) (i - last) (suc i) (omega arith))
  charged_below (h ∷ hs) last i l (a, b, r) =
      omega (arith, charged_below hs h i b r, below_grows (suc last) (h - suc last) h (omega arith))

  pub charged_le : (hs : List ℕ) (i : ℕ) → j ≤ i → Rise j hs i → charged hs ≤ g pair i j
  charged_le hs i l r = omega (arith, charged_below hs j i l r, g-below (i - j) i (omega arith))
