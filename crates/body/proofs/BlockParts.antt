-- A block's numbers: two bytes make a number and back, and the tests of `decode` are the bounds of `Layout`.
-- Each is an induction on the list.
use mathlib.Core.Path.{◌≡◌, refl, ap, ◌∙◌}
use mathlib.Core.Bool.{true}
use mathlib.Core.List.{List, [], ◌∷◌}
use Prim.Native.Nat.{ℕ, zero, suc, ◌+◌, ◌*◌, ◌/◌, ◌%◌, ◌<◌}
use native.Mathlib.Nat.{mod-add-div, add-mul-mod_self_left, add-mul-div_left, mod-eq_of_lt, div-eq_of_lt}
use native.Mathlib.Omega.{arith}
use lib.Dec.{ltb}
use lib.ListN.{length, take, drop}
use borrow.Author.Tests.{ltb-true, lt-ltb}
use Rattle.cache.specs.References.{nothing, All, numbers}
use Rattle.model.proofs.Membership.{both_left, both_right}
use Rattle.body.specs.Layout.{two_bytes, StrictlyRising}
use Rattle.body.specs.Decode.{rises_below, all_real}

-- ---- numbers of two bytes

pub length-two_bytes : (ms : List ℕ) → length (two_bytes ms) ≡ 2 * length ms
length-two_bytes [] = refl
length-two_bytes (m ∷ ms) = omega (arith, length-two_bytes ms)

pub numbers-two_bytes : (ms : List ℕ) → numbers (two_bytes ms) ≡ ms
unfolding numbers
numbers-two_bytes [] = refl
numbers-two_bytes (m ∷ ms) = rw (mod-add-div m 256, numbers-two_bytes ms)

pub length-numbers : (s : List ℕ) (n : ℕ) → length s ≡ 2 * n → length (numbers s) ≡ n
unfolding numbers
length-numbers [] n e = omega arith
length-numbers (x ∷ []) n e = absurd (omega arith)
length-numbers (x ∷ y ∷ s) zero e = absurd (omega arith)
length-numbers (x ∷ y ∷ s) (suc n) e = ap suc (length-numbers s n (omega arith))

pub two_bytes-numbers : (s : List ℕ) (n : ℕ) → length s ≡ 2 * n → All (λ (x : ℕ). x < 256) s → two_bytes (numbers s) ≡ s
unfolding numbers
two_bytes-numbers [] n e a = refl
two_bytes-numbers (x ∷ []) n e a = absurd (omega arith)
two_bytes-numbers (x ∷ y ∷ s) zero e a = absurd (omega arith)
two_bytes-numbers (x ∷ y ∷ s) (suc n) e a =
    let low : (x + 256 * y) % 256 ≡ x = add-mul-mod_self_left x 256 y ∙ mod-eq_of_lt a.0 in
    let high : (x + 256 * y) / 256 ≡ y = add-mul-div_left x y (omega arith) ∙ ap (λ (q : ℕ). q + y) (div-eq_of_lt a.0) ∙ omega arith in
    rw (low, high, two_bytes-numbers s n (omega arith) a.1.1)

-- ---- a property of each number

pub all_take : (P : ℕ → Type 0) (n : ℕ) (s : List ℕ) → All P s → All P (take n s)
all_take P zero s a = tt
all_take P (suc n) [] a = tt
all_take P (suc n) (x ∷ s) a = (a.0, all_take P n s a.1)

pub all_drop : (P : ℕ → Type 0) (n : ℕ) (s : List ℕ) → All P s → All P (drop n s)
all_drop P zero s a = a
all_drop P (suc n) [] a = tt
all_drop P (suc n) (x ∷ s) a = all_drop P n s a.1

-- ---- the tests of Decode are the bounds of Layout

pub rises-below : (B : ℕ) (l : List ℕ) → rises_below B l ≡ true → All (λ (s : ℕ). s < B) l × StrictlyRising l
rises-below B [] e = (tt, tt)
rises-below B (x ∷ []) e = ((ltb-true x B e, tt), tt)
rises-below B (x ∷ y ∷ l) e =
    let ih = rises-below B (y ∷ l) (both_right (ltb x y) (rises_below B (y ∷ l)) e) in
    let less : x < y = ltb-true x y (both_left (ltb x y) (rises_below B (y ∷ l)) e) in
    let low : y < B = ih.0.0 in
    ((omega arith, ih.0), (less, ih.1))

pub below-rises : (B : ℕ) (l : List ℕ) → All (λ (s : ℕ). s < B) l → StrictlyRising l → rises_below B l ≡ true
below-rises B [] a h = refl
below-rises B (x ∷ []) a h = lt-ltb x B a.0
below-rises B (x ∷ y ∷ l) a h = rw (lt-ltb x y h.0, below-rises B (y ∷ l) a.1 h.1)

pub all-real : (ms : List ℕ) → all_real ms ≡ true → All (λ (m : ℕ). m < nothing) ms
all-real [] e = tt
all-real (m ∷ ms) e = (ltb-true m nothing (both_left (ltb m nothing) (all_real ms) e), all-real ms (both_right (ltb m nothing) (all_real ms) e))

pub real-all : (ms : List ℕ) → All (λ (m : ℕ). m < nothing) ms → all_real ms ≡ true
real-all [] a = refl
real-all (m ∷ ms) a = rw (lt-ltb m nothing a.0, real-all ms a.1)
