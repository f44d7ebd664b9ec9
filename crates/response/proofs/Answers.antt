-- What a response time says: the answer is right in each case; a task is in time exactly when at some time up to its deadline all that is asked for
-- fits; and R never falls where a pair number, the penalty or an execution time rises.
use mathlib.Core.Path.{◌≡◌, refl, sym, subst}
use mathlib.Core.Logic.{◌↔◌, ◌⊎◌, inl, inr, ◌≢◌}
use mathlib.Core.Bool.{Bool, true, false, cond}
use Prim.Native.Nat.{ℕ, zero, suc, ◌+◌, ◌*◌, ◌-◌, ◌≤◌, ◌<◌}
use native.Mathlib.Nat.{le_refl, mul-le-mul, mul-le-mul_left, mul-le-mul_right}
use native.Mathlib.Omega.{arith}
use lib.Dec.{eqb, leb}
use borrow.Author.Tests.{eqb-true, eqb-false, leb-true, leb-false}
use Rattle.cache.proofs.Sums.{sum_le}
use Rattle.response.specs.Response.{ceil, g, cost, right_side, Answer, within, late, first_from, answer, Fits, NotBelow}
use Rattle.response.proofs.ResponseLaws.{ceil_mono}

-- ---- the search is right: R is the least number that meets the equation, or there is none up to d and it is 0

module _ (f : ℕ → ℕ) where
  -- what the search over k numbers from r on finds
  abbrev Found : ℕ → ℕ → ℕ → Type 0
  Found k r x = ((x ≡ 0) × ((s : ℕ) → r ≤ s → s < r + k → s ≡ f s → ⊥)) ⊎ ((r ≤ x) × (x < r + k) × (x ≡ f x) × ((s : ℕ) → r ≤ s → s < x → s ≡ f s → ⊥))

  found : (k r : ℕ) → Found k r (first_from f k r)
  unfolding first_from
  found zero r = inl (refl, λ s a b e. omega arith)
  found (suc k) r = go (eqb r (f r)) refl (found k (suc r))
    where
      go : (t : Bool) → eqb r (f r) ≡ t → Found k (suc r) (first_from f k (suc r)) → Found (suc k) r (cond t r (first_from f k (suc r)))
      go true q ih = inr (le_refl r, omega arith, eqb-true r (f r) q, λ s a b e. omega arith)
      go false q (inl (z, h)) = inl (z, λ s a b e. here s a b e (eqb s r) refl)
        where
          here : (s : ℕ) → r ≤ s → s < r + suc k → s ≡ f s → (t : Bool) → eqb s r ≡ t → ⊥
          here s a b e true p = eqb-false r (f r) q (subst (λ (x : ℕ). x ≡ f x) (eqb-true s r p) e)
          here s a b e false p = h s (omega (arith, eqb-false s r p)) (omega arith) e
      go false q (inr (a, b, e, h)) = inr (omega arith, omega arith, e, λ s p l m. here s p l m (eqb s r) refl)
        where
          here : (s : ℕ) → r ≤ s → s < first_from f k (suc r) → s ≡ f s → (t : Bool) → eqb s r ≡ t → ⊥
          here s p l m true w = eqb-false r (f r) q (subst (λ (x : ℕ). x ≡ f x) (eqb-true s r w) m)
          here s p l m false w = h s (omega (arith, eqb-false s r w)) l m

  pub answer-is : (d : ℕ) → Answer f d (answer f d)
  answer-is d = go (answer f d) (found d 1)
    where
      go : (x : ℕ) → Found d 1 x → Answer f d x
      go x (inl (z, h)) = subst (λ (y : ℕ). Answer f d y) (sym z) (late (λ s a b e. h s a (omega arith) e))
      go x (inr (a, b, e, h)) = within (record { positive = a; meets = e; least = λ s p q. least s p q (leb x s) refl }) (omega arith)
        where
          least : (s : ℕ) → 0 < s → s ≡ f s → (t : Bool) → leb x s ≡ t → x ≤ s
          least s p q true w = leb-true x s w
          least s p q false w = absurd (h s p (leb-false x s w) q)

-- ---- in time

module _ (f : ℕ → ℕ) (grows : (r s : ℕ) → r ≤ s → f r ≤ f s) (some : (r : ℕ) → 0 < f r) where
  -- where f x is at most x, some number up to x meets the equation
  met_below : (n x : ℕ) → x ≤ n → f x ≤ x → (s : ℕ) × (0 < s) × (s ≤ x) × (s ≡ f s)
  met_below zero x l h = absurd (omega (arith, some x))
  met_below (suc n) x l h = go (eqb x (f x)) refl (λ k. met_below n (f x) k (grows (f x) x h))
    where
      go : (t : Bool) → eqb x (f x) ≡ t → (f x ≤ n → (s : ℕ) × (0 < s) × (s ≤ f x) × (s ≡ f s)) → (s : ℕ) × (0 < s) × (s ≤ x) × (s ≡ f s)
      go true q ih = (x, omega (arith, some x, eqb-true x (f x) q), le_refl x, eqb-true x (f x) q)
      go false q ih = let (s, a, b, e) = ih (omega (arith, eqb-false x (f x) q)) in (s, a, omega arith, e)

  fits-least : (d x r : ℕ) → Answer f d r → x ≤ d → f x ≤ x → (r ≢ 0) × (r ≤ x)
  fits-least d x r a l h = go r a (met_below x x (le_refl x) h)
    where
      go : (r : ℕ) → Answer f d r → (s : ℕ) × (0 < s) × (s ≤ x) × (s ≡ f s) → (r ≢ 0) × (r ≤ x)
      go r (within p k) (s, a, b, e) = (λ z. omega (arith, p.positive), omega (arith, p.least s a e))
      go r (late n) (s, a, b, e) = absurd (n s a (omega arith) e)

  any_in_time : (d r : ℕ) → Answer f d r → (r ≢ 0) ↔ Fits f d
  any_in_time d r a = (λ h. go r a h, λ (x, l, h). (fits-least d x r a l h).0)
    where
      go : (r : ℕ) → Answer f d r → r ≢ 0 → Fits f d
      go r (within p k) h = (r, k, omega (arith, p.meets))
      go r (late n) h = absurd (h refl)

  any-never_falls : (f' : ℕ → ℕ) → ((r : ℕ) → f r ≤ f' r) → (d r r' : ℕ) → Answer f d r → Answer f' d r' → NotBelow r r'
  any-never_falls f' less d r r' a b = go r' b
    where
      go : (r' : ℕ) → Answer f' d r' → NotBelow r r'
      go r' (within p k) = inr (fits-least d r' r a k (omega (arith, less r', p.meets)))
      go r' (late n) = inl refl

-- ---- over the right side of the document

module _ (c t : ℕ → ℕ) (pair : ℕ → ℕ → ℕ) (penalty i : ℕ) (some : 0 < c i) (periods : (j : ℕ) → j < i → 0 < t j) where
  right_grows : (r s : ℕ) → r ≤ s → right_side c t pair penalty i r ≤ right_side c t pair penalty i s
  unfolding right_side
  right_grows r s l =
      omega (
        arith,
        sum_le i (λ j. ceil r (t j) * cost c pair penalty i j) (λ j. ceil s (t j) * cost c pair penalty i j)
            (λ j k. mul-le-mul_right (cost c pair penalty i j) (ceil_mono r s (t j) (periods j k) l)),
      )

  right-some : (r : ℕ) → 0 < right_side c t pair penalty i r
  unfolding right_side
  right-some r = omega (arith, some)

  -- a task is in time exactly when at some time up to its deadline all that is asked for until then fits
  pub in_time : (d r : ℕ) → Answer (right_side c t pair penalty i) d r → (r ≢ 0) ↔ Fits (right_side c t pair penalty i) d
  in_time = any_in_time (right_side c t pair penalty i) right_grows right-some

  module _ (c' : ℕ → ℕ) (pair' : ℕ → ℕ → ℕ) (penalty' : ℕ) (times : (j : ℕ) → j ≤ i → c j ≤ c' j) (pairs : (h j : ℕ) → j < h → h ≤ i → pair h j ≤ pair' h j)
      (costs : penalty ≤ penalty') where
    g_le : (j : ℕ) → j < i → g pair i j ≤ g pair' i j
    unfolding g
    g_le j l = sum_le (i - j) (λ k. pair (j + 1 + k) j) (λ k. pair' (j + 1 + k) j) (λ k m. pairs (j + 1 + k) j (omega arith) (omega arith))

    right_less : (r : ℕ) → right_side c t pair penalty i r ≤ right_side c' t pair' penalty' i r
    unfolding right_side
    right_less r =
        omega (
          arith,
          times i (le_refl i),
          sum_le i (λ j. ceil r (t j) * cost c pair penalty i j) (λ j. ceil r (t j) * cost c' pair' penalty' i j)
              (λ j l. mul-le-mul_left (ceil r (t j)) (omega (arith, times j (omega arith), mul-le-mul costs (g_le j l)))),
        )

    -- R never falls where pair numbers, the penalty or execution times rise, and no task that was late is then in time
    pub never_falls : (d r r' : ℕ) → Answer (right_side c t pair penalty i) d r → Answer (right_side c' t pair' penalty' i) d r' → NotBelow r r'
    never_falls = any-never_falls (right_side c t pair penalty i) right_grows right-some (right_side c' t pair' penalty' i) right_less
