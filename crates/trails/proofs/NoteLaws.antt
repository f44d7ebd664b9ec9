-- Noting the rows that are new, block by block.
-- The idea: the places of two blocks are 32 apart, so that noting the row of one block leaves the trails of all others as they are.
use mathlib.Core.Path.{◌≡◌, refl, ap, ◌∙◌}
use mathlib.Core.Bool.{Bool, true, false}
use mathlib.Core.List.{List}
use Prim.Native.Nat.{ℕ, suc, ◌+◌, ◌*◌, ◌≤◌, ◌<◌}
use native.Mathlib.Omega.{arith}
use lib.Dec.{eqb}
use lib.ListN.{length, get_or, set, length-set}
use lib.Seq.{get_or-set_same, get_or-set_other}
use borrow.Author.Tests.{eqb-true, eqb-false}
use Rattle.trails.specs.Trails.{parent_at, length_at, Places, Noted}

-- what holds when the blocks below `stop` are noted
pub record Noting (from long stop : ℕ) (before counts old new : List ℕ) : Type 0 where
  pub places : Places new
  pub new_parent : (s : ℕ) → s < stop → get_or before s 0 < get_or counts s 0 → parent_at new (32 * s + get_or before s 0) ≡ from
  pub new_length : (s : ℕ) → s < stop → get_or before s 0 < get_or counts s 0 → length_at new (32 * s + get_or before s 0) ≡ long
  pub kept_parent : (s k : ℕ) → s < 24 → k < get_or before s 0 → parent_at new (32 * s + k) ≡ parent_at old (32 * s + k)
  pub kept_length : (s k : ℕ) → s < 24 → k < get_or before s 0 → length_at new (32 * s + k) ≡ length_at old (32 * s + k)

pub begin_noting : (from long : ℕ) (before counts old : List ℕ) → Places old → Noting from long 0 before counts old old
begin_noting from long before counts old p = record {
  places = p;
  new_parent = λ s h. absurd (omega arith);
  new_length = λ s h. absurd (omega arith);
  kept_parent = λ s k h l. refl;
  kept_length = λ s k h l. refl;
}

module _ (from long s : ℕ) (before counts old new : List ℕ) (inside : s < 24) (few : (b : ℕ) → b < 24 → get_or before b 0 ≤ 32) (most : (b : ℕ) → b < 24 → get_or counts b 0 ≤ 32)
    (noting : Noting from long s before counts old new) where
  -- the block s has no new row
  pub noting_skip : get_or counts s 0 ≤ get_or before s 0 → Noting from long (s + 1) before counts old new
  noting_skip none = record {
    places = noting.places;
    new_parent = λ b h l. noting.new_parent b (below b h l) l;
    new_length = λ b h l. noting.new_length b (below b h l) l;
    kept_parent = noting.kept_parent;
    kept_length = noting.kept_length;
  }
    where
      below : (b : ℕ) → b < s + 1 → get_or before b 0 < get_or counts b 0 → b < s
      below b h l = go (eqb b s) refl
        where
          go : (t : Bool) → eqb b s ≡ t → b < s
          go true q = absurd (omega (arith, ap (λ (x : ℕ). get_or before x 0) (eqb-true b s q), ap (λ (x : ℕ). get_or counts x 0) (eqb-true b s q)))
          go false q = omega (arith, eqb-false b s q)

  -- its new row is noted
  module _ (some : get_or before s 0 < get_or counts s 0) (place : from < 768) where
    abbrev at : ℕ
    at = 32 * s + get_or before s 0

    at-inside : at < 768
    at-inside = omega (arith, some, most s inside)

    abbrev next : List ℕ
    next = set (set new at from) (768 + at) long

    long-new : length (set new at from) ≡ 1536
    long-new = length-set new at from ∙ noting.places.long

    parent_here : parent_at next at ≡ from
    parent_here = get_or-set_other (set new at from) (768 + at) at long 0 (λ e. omega arith) ∙ get_or-set_same new at from 0 (omega (arith, noting.places.long, at-inside))

    length_here : length_at next at ≡ long
    length_here = get_or-set_same (set new at from) (768 + at) long 0 (omega (arith, long-new, at-inside))

    parent_other : (p : ℕ) → p < 768 → (p ≡ at → ⊥) → parent_at next p ≡ parent_at new p
    parent_other p h d = get_or-set_other (set new at from) (768 + at) p long 0 (λ e. omega arith) ∙ get_or-set_other new at p from 0 d

    length-other : (p : ℕ) → (p ≡ at → ⊥) → length_at next p ≡ length_at new p
    length-other p d = get_or-set_other (set new at from) (768 + at) (768 + p) long 0 (λ e. d (omega arith)) ∙ get_or-set_other new at (768 + p) from 0 (λ e. omega (arith, at-inside))

    -- a row that was there before has another place
    apart : (b k : ℕ) → b < 24 → k < get_or before b 0 → 32 * b + k ≡ at → ⊥
    apart b k h l e =
        let z : b ≡ s = omega (arith, few b h, some, most s inside) in
        omega (arith, ap (λ (x : ℕ). get_or before x 0) z)

    below_apart : (b : ℕ) → b < s → get_or before b 0 < get_or counts b 0 → 32 * b + get_or before b 0 ≡ at → ⊥
    below_apart b h l e = omega (arith, most b (omega (arith, h, inside)), l)

    pub noting_turn : Noting from long (s + 1) before counts old (set (set new (32 * s + get_or before s 0) from) (768 + (32 * s + get_or before s 0)) long)
    noting_turn = record {
      places = record { long = length-set (set new at from) (768 + at) long ∙ long-new; inside = leads };
      new_parent = λ b h l. new_parent_lem b h l;
      new_length = λ b h l. new-length b h l;
      kept_parent = λ b k h l. parent_other (32 * b + k) (omega (arith, few b h)) (apart b k h l) ∙ noting.kept_parent b k h l;
      kept_length = λ b k h l. length-other (32 * b + k) (apart b k h l) ∙ noting.kept_length b k h l;
    }
      where
        leads : (p : ℕ) → p < 768 → parent_at next p < 768
        leads p h = go (eqb p at) refl
          where
            go : (t : Bool) → eqb p at ≡ t → parent_at next p < 768
            go true q = rw (eqb-true p at q) (rw parent_here place)
            go false q = rw (parent_other p h (eqb-false p at q)) (noting.places.inside p h)

        new_parent_lem : (b : ℕ) → b < s + 1 → get_or before b 0 < get_or counts b 0 → parent_at next (32 * b + get_or before b 0) ≡ from
        new_parent_lem b h l = go (eqb b s) refl
          where
            go : (t : Bool) → eqb b s ≡ t → parent_at next (32 * b + get_or before b 0) ≡ from
            go true q = ap (λ (x : ℕ). parent_at next (32 * x + get_or before x 0)) (eqb-true b s q) ∙ parent_here
            go false q =
                let z : b < s = omega (arith, eqb-false b s q) in
                parent_other (32 * b + get_or before b 0) (omega (arith, most b (omega (arith, z, inside)), l)) (below_apart b z l) ∙ noting.new_parent b z l

        new-length : (b : ℕ) → b < s + 1 → get_or before b 0 < get_or counts b 0 → length_at next (32 * b + get_or before b 0) ≡ long
        new-length b h l = go (eqb b s) refl
          where
            go : (t : Bool) → eqb b s ≡ t → length_at next (32 * b + get_or before b 0) ≡ long
            go true q = ap (λ (x : ℕ). length_at next (32 * x + get_or before x 0)) (eqb-true b s q) ∙ length_here
            go false q =
                let z : b < s = omega (arith, eqb-false b s q) in
                length-other (32 * b + get_or before b 0) (below_apart b z l) ∙ noting.new_length b z l

pub end_noting : (from long stop : ℕ) (before counts old new : List ℕ) → 24 ≤ stop → long ≡ suc (length_at old from) → Noting from long stop before counts old new
    → Noted from before counts old new
end_noting from long stop before counts old new h e noting = record {
  places = noting.places;
  new_parent = λ s l q. noting.new_parent s (omega arith) q;
  new_length = λ s l q. noting.new_length s (omega arith) q ∙ e;
  kept_parent = noting.kept_parent;
  kept_length = noting.kept_length;
}
