-- The cache blocks that can be useful at a point: the one set without the other.
use mathlib.Core.Path.{◌≡◌, refl, ap, ap₂, ◌∙◌}
use mathlib.Core.Bool.{Bool, true, false, not, cond, ◌&&◌}
use mathlib.Core.List.{List}
use Prim.Native.Nat.{ℕ, zero, suc, ◌+◌, ◌*◌, ◌^◌}
use lib.ListN.{length}
use lib.Bits.{bit_and, bit_xor, xor_block}
use Rattle.cache.specs.Sum.{bit}
use Rattle.cache.specs.Sets.{used, replaces, bits}
use Rattle.cache.proofs.Bits.{bits_lt, bits-and}
use Rattle.cache.proofs.Masks.{bits_cong}
use Rattle.row_sets.specs.Sets.{kept_set}

xor-bit : (a b : Bool) → bit_xor (bit a) (bit b) ≡ bit (cond a (not b) b)
xor-bit true true = refl
xor-bit true false = refl
xor-bit false true = refl
xor-bit false false = refl

bits-xor : (w : ℕ) (P Q : ℕ → Bool) → bit_xor (bits w P) (bits w Q) ≡ bits w (λ c. cond (P c) (not (Q c)) (Q c))
unfolding bits
bits-xor zero P Q = refl
bits-xor (suc w) P Q =
    xor_block w (bit (P w)) (bit (Q w)) (bits w P) (bits w Q) (bits_lt w P) (bits_lt w Q)
    ∙ ap₂ (λ (x y : ℕ). x * 2 ^ w + y) (xor-bit (P w) (Q w)) (bits-xor w P Q)

-- the one set without the other
bits_without : (w : ℕ) (P Q : ℕ → Bool) → bit_and (bits w P) (bit_xor (bits w P) (bits w Q)) ≡ bits w (λ c. P c && not (Q c))
bits_without w P Q =
    ap (bit_and (bits w P)) (bits-xor w P Q)
    ∙ bits-and w P (λ c. cond (P c) (not (Q c)) (Q c))
    ∙ bits_cong w _ _ (λ c l. same (P c) (Q c))
  where
    same : (a b : Bool) → a && cond a (not b) b ≡ a && not b
    same true b = refl
    same false b = refl

pub kept_made : (r rest : List ℕ) {used-by replaced-by : ℕ} → length rest ≡ length r → used-by ≡ bits (length r) (used r)
    → replaced-by ≡ bits (length rest) (replaces rest r) → bit_and used-by (bit_xor used-by replaced-by) ≡ kept_set r rest
kept_made r rest e u v =
    ap₂ (λ (x y : ℕ). bit_and x (bit_xor x y)) u (v ∙ ap (λ (n : ℕ). bits n (replaces rest r)) e)
    ∙ bits_without (length r) (used r) (replaces rest r)
