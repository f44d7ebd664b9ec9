-- For every number and penalty, and every clock above 0, there is one exact time, `exact_time`, and no other, `exact_time_only`.
-- The idea: q and r are quotient and remainder, and a remainder is below its divisor.
use mathlib.Core.Path.{◌≡◌, sym, ap, ◌∙◌}
use Prim.Native.Nat.{ℕ, ◌*◌, ◌/◌, ◌<◌}
use native.Mathlib.Nat.{mod-lt, div-add-mod', mul-add-div_right, div-eq_of_lt}
use native.Mathlib.Omega.{arith}
use Rattle.microseconds.specs.Microseconds.{ExactTime, whole, remainder}

pub exact_time : (number penalty clock : ℕ) → 0 < clock → ExactTime number penalty clock (whole number penalty clock) (remainder number penalty clock)
exact_time number penalty clock h = record {
  product = sym (div-add-mod' (number * penalty * 1000) clock);
  below = mod-lt (number * penalty * 1000) h;
}

pub exact_time_only :
    (number penalty clock : ℕ) {q r : ℕ} → ExactTime number penalty clock q r →
    (q ≡ whole number penalty clock) × (r ≡ remainder number penalty clock)
exact_time_only number penalty clock {q} {r} t = (sym same_whole, same_remainder)
  where
    same_whole : whole number penalty clock ≡ q
    same_whole =
        ap (λ (x : ℕ). x / clock) t.product
        ∙ mul-add-div_right (omega (arith, t.below)) q r
        ∙ (let e = div-eq_of_lt t.below in omega arith)

    same_remainder : r ≡ remainder number penalty clock
    same_remainder =
        let sum = div-add-mod' (number * penalty * 1000) clock in
        let same = ap (λ (x : ℕ). x * clock) same_whole in
        let e = t.product in
        omega arith
