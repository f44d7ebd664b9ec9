-- Sets as bits of a number, of every number: what AND, OR and XOR of two sets have, the set of one member, and the lowest member.
-- A number is its lowest digit and its half, so each law is an induction on the member that is asked for.
use mathlib.Core.Path.{◌≡◌, refl, sym, ap, ap₂, ◌∙◌}
use mathlib.Core.Bool.{Bool, true, false, not, ◌&&◌, ◌||◌, cond, false≢true}
use Prim.Native.Nat.{ℕ, zero, suc, ◌+◌, ◌*◌, ◌/◌, ◌%◌, ◌^◌, ◌≤◌, ◌<◌, min}
use native.Mathlib.Nat.{div-add-mod', mod-lt, pow-suc, one-mul, min-zero}
use native.Mathlib.Omega.{arith}
use lib.Dec.{eqb, ltb}
use lib.Pow.{pow_mono}
use lib.Bits.{bit_and, bit_or, bit_xor, and_step, and_mask, and_comm, and_shifted, and_shr, and_mod, or_shr, or_mod, xor_shr, xor_mod, and_zero_l, shifted_half, shifted_even}
use lib.Count.{count_trailing_zeros}
use borrow.Author.Tests.{eq-eqb, ne_eqb, eqb-true, eqb-false, ltb-true, ltb-false}
use Rattle.cache.specs.Sets.{in_set}
use Rattle.cache.proofs.Masks.{one_at}

-- ---- the lowest digit, and the half

pub in_zero : (n : ℕ) → in_set n 0 ≡ not (eqb (n % 2) 0)
in_zero n = ap (λ (x : ℕ). not (eqb x 0)) (and_mask n 1)

twice : (x y : ℕ) → y ≡ 0 → eqb (x * 2 + y) 0 ≡ eqb x 0
twice zero y e = rw e
twice (suc x) y e = ne_eqb (suc x * 2 + y) 0 (λ z. absurd (omega arith)) ∙ sym (ne_eqb (suc x) 0 (λ z. absurd (omega arith)))

pub in_suc : (n c : ℕ) → in_set n (suc c) ≡ in_set (n / 2) c
in_suc n c =
    let half : 2 ^ suc c / 2 ≡ 2 ^ c = rw (one-mul (2 ^ suc c), one-mul (2 ^ c)) at (shifted_half 1 c) in
    let even : 2 ^ suc c % 2 ≡ 0 = rw (one-mul (2 ^ suc c)) at (shifted_even 1 c) in
    ap (λ (x : ℕ). not (eqb x 0)) (and_step n (2 ^ suc c))
    ∙ ap not (twice (bit_and (n / 2) (2 ^ suc c / 2)) (min (n % 2) (2 ^ suc c % 2)) (rw even (min-zero (n % 2))))
    ∙ rw half

digit : (P : ℕ → Type 0) → P 0 → P 1 → (x : ℕ) → x < 2 → P x
digit P a b zero h = a
digit P a b (suc zero) h = b
digit P a b (suc (suc x)) h = absurd (omega arith)

odd : (n : ℕ) → n % 2 < 2
odd n = mod-lt n (omega arith)

-- ---- AND, OR and XOR

and-digits : (x y : ℕ) → x < 2 → y < 2 → not (eqb (bit_and x y) 0) ≡ (not (eqb x 0) && not (eqb y 0))
and-digits x y h l =
    digit (λ (x : ℕ). not (eqb (bit_and x y) 0) ≡ (not (eqb x 0) && not (eqb y 0)))
    (digit (λ (y : ℕ). not (eqb (bit_and 0 y) 0) ≡ (not (eqb 0 0) && not (eqb y 0))) refl refl y l)
    (digit (λ (y : ℕ). not (eqb (bit_and 1 y) 0) ≡ (not (eqb 1 0) && not (eqb y 0))) refl refl y l) x h

pub in_and : (a b c : ℕ) → in_set (bit_and a b) c ≡ (in_set a c && in_set b c)
in_and a b zero =
    in_zero (bit_and a b) ∙ ap (λ (x : ℕ). not (eqb x 0)) (and_mod a b 1) ∙ and-digits (a % 2) (b % 2) (odd a) (odd b)
    ∙ sym (ap₂ (λ (x y : Bool). x && y) (in_zero a) (in_zero b))
in_and a b (suc c) =
    in_suc (bit_and a b) c ∙ ap (λ (x : ℕ). in_set x c) (and_shr a b 1) ∙ in_and (a / 2) (b / 2) c
    ∙ sym (ap₂ (λ (x y : Bool). x && y) (in_suc a c) (in_suc b c))

or_digits : (x y : ℕ) → x < 2 → y < 2 → not (eqb (bit_or x y) 0) ≡ (not (eqb x 0) || not (eqb y 0))
or_digits x y h l =
    digit (λ (x : ℕ). not (eqb (bit_or x y) 0) ≡ (not (eqb x 0) || not (eqb y 0)))
    (digit (λ (y : ℕ). not (eqb (bit_or 0 y) 0) ≡ (not (eqb 0 0) || not (eqb y 0))) refl refl y l)
    (digit (λ (y : ℕ). not (eqb (bit_or 1 y) 0) ≡ (not (eqb 1 0) || not (eqb y 0))) refl refl y l) x h

pub in_or : (a b c : ℕ) → in_set (bit_or a b) c ≡ (in_set a c || in_set b c)
in_or a b zero =
    in_zero (bit_or a b) ∙ ap (λ (x : ℕ). not (eqb x 0)) (or_mod a b 1) ∙ or_digits (a % 2) (b % 2) (odd a) (odd b)
    ∙ sym (ap₂ (λ (x y : Bool). x || y) (in_zero a) (in_zero b))
in_or a b (suc c) =
    in_suc (bit_or a b) c ∙ ap (λ (x : ℕ). in_set x c) (or_shr a b 1) ∙ in_or (a / 2) (b / 2) c
    ∙ sym (ap₂ (λ (x y : Bool). x || y) (in_suc a c) (in_suc b c))

-- XOR has what just one of two sets has
abbrev one_of : Bool → Bool → Bool
one_of p q = cond q (not p) p

xor-digits : (x y : ℕ) → x < 2 → y < 2 → not (eqb (bit_xor x y) 0) ≡ one_of (not (eqb x 0)) (not (eqb y 0))
xor-digits x y h l =
    digit (λ (x : ℕ). not (eqb (bit_xor x y) 0) ≡ one_of (not (eqb x 0)) (not (eqb y 0)))
    (digit (λ (y : ℕ). not (eqb (bit_xor 0 y) 0) ≡ one_of (not (eqb 0 0)) (not (eqb y 0))) refl refl y l)
    (digit (λ (y : ℕ). not (eqb (bit_xor 1 y) 0) ≡ one_of (not (eqb 1 0)) (not (eqb y 0))) refl refl y l) x h

pub in_xor : (a b c : ℕ) → in_set (bit_xor a b) c ≡ cond (in_set b c) (not (in_set a c)) (in_set a c)
in_xor a b zero =
    in_zero (bit_xor a b) ∙ ap (λ (x : ℕ). not (eqb x 0)) (xor_mod a b 1) ∙ xor-digits (a % 2) (b % 2) (odd a) (odd b)
    ∙ sym (ap₂ one_of (in_zero a) (in_zero b))
in_xor a b (suc c) =
    in_suc (bit_xor a b) c ∙ ap (λ (x : ℕ). in_set x c) (xor_shr a b 1) ∙ in_xor (a / 2) (b / 2) c
    ∙ sym (ap₂ one_of (in_suc a c) (in_suc b c))

pub in_empty : (c : ℕ) → in_set 0 c ≡ false
in_empty c = ap not (eq-eqb (bit_and 0 (2 ^ c)) 0 (and_zero_l (2 ^ c)))

-- the set of one member
pub in_power : (k c : ℕ) → in_set (2 ^ k) c ≡ eqb c k
in_power zero zero = refl
in_power zero (suc c) = in_suc 1 c ∙ in_empty c ∙ sym (ne_eqb (suc c) 0 (λ z. absurd (omega arith)))
in_power (suc k) zero =
    in_zero (2 ^ suc k) ∙ ap (λ (x : ℕ). not (eqb x 0)) (rw (one-mul (2 ^ suc k)) at (shifted_even 1 k)) ∙ sym (ne_eqb 0 (suc k) (λ z. absurd (omega arith)))
in_power (suc k) (suc c) =
    in_suc (2 ^ suc k) c ∙ ap (λ (x : ℕ). in_set x c) (rw (one-mul (2 ^ suc k), one-mul (2 ^ k)) at (shifted_half 1 k)) ∙ in_power k c ∙ same (eqb c k) refl
  where
    same : (b : Bool) → eqb c k ≡ b → b ≡ eqb (suc c) (suc k)
    same true e = sym (eq-eqb (suc c) (suc k) (ap suc (eqb-true c k e)))
    same false e = sym (ne_eqb (suc c) (suc k) (λ z. eqb-false c k e (omega arith)))

-- the members of a set below 2 ^ w are below w
pub in_below : (w n c : ℕ) → n < 2 ^ w → in_set n c ≡ true → c < w
in_below w n c h e = go (ltb c w) refl
  where
    go : (b : Bool) → ltb c w ≡ b → c < w
    go true q = ltb-true c w q
    go false q =
        let l : w ≤ c = ltb-false c w q in
        let none : bit_and n (2 ^ c) ≡ 0 = and_comm n (2 ^ c) ∙ rw (one-mul (2 ^ c)) at (and_shifted 1 c n (omega (arith, pow_mono {i = w} {j = c} l))) in
        absurd (false≢true (sym (ap not (eq-eqb (bit_and n (2 ^ c)) 0 none)) ∙ e))

-- ---- in the code's words, in a word of v bits: a member is tested for, and the lowest member

pub in_word : (v set s : ℕ) → s < v → (bit_and set (1 * 2 ^ s % 2 ^ v) ≡ 0 → ⊥) → in_set set s ≡ true
in_word v set s l h = ap not (ne_eqb (bit_and set (2 ^ s)) 0 (λ e. h (ap (bit_and set) (one_at v s l) ∙ e)))

pub out_word : (v set s : ℕ) → s < v → bit_and set (1 * 2 ^ s % 2 ^ v) ≡ 0 → in_set set s ≡ false
out_word v set s l h = ap not (eq-eqb (bit_and set (2 ^ s)) 0 (ap (bit_and set) (sym (one_at v s l)) ∙ h))

-- the member b of the set n, and none below it
pub record Lowest (n w b : ℕ) : Type 0 where
  pub below : b < w
  pub member : in_set n b ≡ true
  pub least : (c : ℕ) → c < b → in_set n c ≡ false

pub lowest : (v w n : ℕ) → w ≤ v → n < 2 ^ w → (n ≡ 0 → ⊥) → Lowest n w (count_trailing_zeros v n)
unfolding count_trailing_zeros
lowest v zero n l h some = absurd (some (omega arith))
lowest zero (suc w) n l h some = absurd (omega arith)
lowest (suc v) (suc w) n l h some = go (n % 2) refl (lowest v w (n / 2) (omega arith))
  where
    whole : n / 2 * 2 + n % 2 ≡ n
    whole = div-add-mod' n 2

    even : n % 2 ≡ 0 → Lowest (n / 2) w (count_trailing_zeros v (n / 2)) → Lowest n (suc w) (suc (count_trailing_zeros v (n / 2)))
    even e rest = record {
      below = omega (arith, rest.below);
      member = in_suc n (count_trailing_zeros v (n / 2)) ∙ rest.member;
      least = λ c k. lower c k;
    }
      where
        lower : (c : ℕ) → c < suc (count_trailing_zeros v (n / 2)) → in_set n c ≡ false
        lower zero k = in_zero n ∙ ap not (eq-eqb (n % 2) 0 e)
        lower (suc c) k = in_suc n c ∙ rest.least c (omega arith)

    go : (d : ℕ) → n % 2 ≡ d → (n / 2 < 2 ^ w → (n / 2 ≡ 0 → ⊥) → Lowest (n / 2) w (count_trailing_zeros v (n / 2))) → Lowest n (suc w) (count_trailing_zeros (suc v) n)
    go zero e ih = rw e (even e (ih (omega (arith, pow-suc 2 w, whole)) (λ z. some (omega (arith, whole)))))
    go (suc d) e ih =
        rw e
        (record {
          below = omega arith;
          member = in_zero n ∙ ap not (ne_eqb (n % 2) 0 (λ z. absurd (omega arith)));
          least = λ c k. absurd (omega arith);
        })
