-- Sets of blocks in the code's words: the set of a list, and whether a set has each block.
use mathlib.Core.Path.{◌≡◌, refl, sym, ap, ◌∙◌}
use mathlib.Core.Bool.{Bool, true, false, ◌&&◌, ◌||◌}
use mathlib.Core.List.{List, [], ◌∷◌, ◌++◌}
use Prim.Native.Nat.{ℕ, zero, suc, ◌+◌, ◌*◌, ◌%◌, ◌^◌, ◌<◌}
use native.Mathlib.Numerals.{add-one}
use native.Mathlib.Omega.{arith}
use lib.Dec.{eqb}
use lib.ListN.{length, get_or, take}
use lib.Seq.{take-suc}
use lib.Bits.{bit_or}
use borrow.Author.Tests.{eqb-true, eqb-false}
use Rattle.cache.specs.References.{All}
use Rattle.cache.specs.Sets.{in_set}
use Rattle.cache.proofs.Masks.{bits_with, bits_cong, bits_none}
use Rattle.model.specs.Lists.{mem}
use Rattle.body.specs.Jumps.{set_of, has_below}

-- ---- the set of a list

mem_snoc : (l : List ℕ) (c x : ℕ) → mem eqb c (l ++ (x ∷ [])) ≡ (mem eqb c l || eqb c x)
mem_snoc [] c x = go (eqb c x)
  where
    go : (b : Bool) → (b || false) ≡ b
    go true = refl
    go false = refl
mem_snoc (y ∷ l) c x = go (eqb c y) (mem_snoc l c x)
  where
    go : (b : Bool) → mem eqb c (l ++ (x ∷ [])) ≡ (mem eqb c l || eqb c x) → (b || mem eqb c (l ++ (x ∷ []))) ≡ ((b || mem eqb c l) || eqb c x)
    go true e = refl
    go false e = e

pub set-none : set_of [] ≡ 0
set-none = bits_none 24 (λ c. mem eqb c []) (λ c h. refl)

pub below_at : (l : List ℕ) (i n : ℕ) → All (λ (x : ℕ). x < n) l → i < length l → get_or l i 0 < n
below_at [] i n a h = absurd (omega arith)
below_at (x ∷ l) zero n a h = a.0
below_at (x ∷ l) (suc i) n a h = below_at l i n a.1 (omega arith)

pub set_turn : (l : List ℕ) (i : ℕ) {x s t : ℕ} → i < length l → get_or l i 0 ≡ x → x < 24 → s ≡ set_of (take i l) → t ≡ bit_or s (1 * 2 ^ x % 2 ^ 32) → t ≡ set_of (take (i + 1) l)
set_turn l i {x} h ex hx es et =
    bits_with 32 24 x (λ c. mem eqb c (take i l)) hx (omega arith) es et
    ∙ bits_cong 24 _ _ (λ c b. sym (mem_snoc (take i l) c x))
    ∙ ap set_of (sym grown)
  where
    grown : take (i + 1) l ≡ take i l ++ (x ∷ [])
    grown = rw (add-one i, take-suc l i 0 h, ex)

-- ---- each block in the set

pub below_more : (set b : ℕ) → in_set set b ≡ true → has_below set b ≡ true → has_below set (b + 1) ≡ true
below_more set b h e = rw (add-one b, h, e)

pub below-not : (set count b : ℕ) → b < count → in_set set b ≡ false → has_below set count ≡ false
below-not set zero b l h = absurd (omega arith)
below-not set (suc n) b l h = go (eqb b n) refl (below-not set n b)
  where
    and_false' : (x : Bool) → (x && false) ≡ false
    and_false' true = refl
    and_false' false = refl

    go : (s : Bool) → eqb b n ≡ s → (b < n → in_set set b ≡ false → has_below set n ≡ false) → has_below set (suc n) ≡ false
    go true q ih = rw (← (eqb-true b n q), h)
    go false q ih = rw (ih (omega (arith, eqb-false b n q)) h) (and_false' (in_set set n))
