-- The first block of a set from a place on is the lowest bit that is left once the bits below the place are shifted out.
use mathlib.Core.Path.{◌≡◌, refl, sym, ap, ap₂, ◌∙◌}
use mathlib.Core.Bool.{Bool, true, false}
use Prim.Native.Nat.{ℕ, zero, suc, ◌+◌, ◌-◌, ◌/◌, ◌^◌, ◌≤◌, ◌<◌}
use native.Mathlib.Nat.{zero-add, suc-add, le_refl, div-one, div-le_self}
use native.Mathlib.Omega.{arith}
use lib.Dec.{eqb}
use lib.Pow.{shr-shr}
use lib.Count.{count_trailing_zeros, trailing_of_zero}
use borrow.Author.Tests.{eqb-true, eqb-false}
use Rattle.cache.specs.Sets.{in_set}
use Rattle.cache.proofs.Members.{in_suc, in_empty, Lowest, lowest}
use Rattle.gather.specs.Memory.{NextIn}

-- the bits from a place on
shifted : (f n c : ℕ) → in_set (n / 2 ^ f) c ≡ in_set n (f + c)
shifted zero n c = ap₂ in_set (div-one n) (sym (zero-add c))
shifted (suc f) n c =
    let e : 1 + f ≡ suc f = omega arith in
    ap (λ x. in_set x c) (sym (shr-shr n 1 f ∙ ap (λ i. n / 2 ^ i) e)) ∙ shifted f (n / 2) c ∙ sym (ap (in_set n) (suc-add f c) ∙ in_suc n (f + c))

pub next_in : (set from : ℕ) {x : ℕ} → set < 2 ^ 32 → x ≡ count_trailing_zeros 32 (set / 2 ^ from) → NextIn set from (from + x)
next_in set from {x} h e = go (eqb n 0) refl
  where
    n : ℕ
    n = set / 2 ^ from

    from_on : (Q : (b : ℕ) → b < x → in_set n b ≡ false) → (b : ℕ) → from ≤ b → b < from + x → in_set set b ≡ false
    from_on Q b l k =
        let c : from + (b - from) ≡ b = omega arith in
        ap (in_set set) (sym c) ∙ sym (shifted from set (b - from)) ∙ Q (b - from) (omega arith)

    go : (b : Bool) → eqb n 0 ≡ b → NextIn set from (from + x)
    go true q =
        let none : n ≡ 0 = eqb-true n 0 q in
        let end : x ≡ 32 = e ∙ ap (count_trailing_zeros 32) none ∙ trailing_of_zero 32 in
        record {
          after = omega arith;
          between = from_on (λ b l. ap (λ m. in_set m b) none ∙ in_empty b);
          member = λ l. absurd (omega arith);
        }
    go false q =
        let low : Lowest n 32 (count_trailing_zeros 32 n) = lowest 32 32 n (le_refl 32) (omega (arith, div-le_self set (2 ^ from))) (eqb-false n 0 q) in
        record {
          after = omega arith;
          between = from_on (λ b l. low.least b (omega arith));
          member = λ l. ap (λ i. in_set set (from + i)) e ∙ sym (shifted from set (count_trailing_zeros 32 n)) ∙ low.member;
        }
