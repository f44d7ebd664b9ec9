-- The rows before a block, from the rows of its predecessors, are exactly those that paths come to it with: `before_exact`.
use mathlib.Core.Path.{◌≡◌, refl}
use mathlib.Core.Logic.{◌⊎◌, inl, inr, ◌↔◌}
use mathlib.Core.Bool.{Bool, true, false, cond, false≢true}
use mathlib.Core.List.{List, [], ◌∷◌}
use Prim.Native.Nat.{ℕ, zero, suc, ◌+◌, ◌≤◌, ◌<◌}
use native.Mathlib.Omega.{arith}
use lib.Dec.{eqb}
use lib.ListN.{length}
use borrow.Author.Tests.{eqb-true, eqb-false, eq-eqb}
use Rattle.cache.specs.Cache.{Cache, empty_row}
use Rattle.cache.specs.Sets.{in_set}
use Rattle.model.specs.Lists.{mem}
use Rattle.model.specs.Tasks.{Task}
use Rattle.model.specs.States.{Reaches}
use Rattle.model.specs.Computed.{same_list, sorted, reaching}
use Rattle.model.proofs.Membership.{or_cases, or_left, same_list_self, same_list_true, mem_append_left, mem_append_right, mem-append_cases}
use Rattle.model.proofs.Paths.{path-last}
use Rattle.model.proofs.Sorted.{sorted_has, sorted_only, reaching-rows}
use Rattle.model.proofs.Entering.{Enters, EntersFrom, enters-first, enters_on, enters_cases}
use Rattle.body.specs.Jumps.{jump_sets}
use Rattle.body.proofs.Turning.{turned_has, turned_only}
use Rattle.body.proofs.JumpLaws.{jump_has, jump_only}
use Rattle.points.specs.Points.{rows_in, predecessors_of, rows_before}

-- ---- the rows of the blocks of a set

module _ (set : ℕ) (rs : ℕ → List (List ℕ)) where
  abbrev here : ℕ → List (List ℕ)
  here p = cond (in_set set p) (rs p) []

  pub rows_in_has : (left from p : ℕ) (row : List ℕ) → from ≤ p → p < from + left → in_set set p ≡ true → mem same_list row (rs p) ≡ true
      → mem same_list row (rows_in set rs left from) ≡ true
  rows_in_has zero from p row l h s m = absurd (omega arith)
  rows_in_has (suc left) from p row l h s m = go (eqb from p) refl (λ q. rows_in_has left (suc from) p row q (omega arith) s m)
    where
      first : from ≡ p → mem same_list row (here from) ≡ true
      first e = rw (e, s) m

      go : (b : Bool) → eqb from p ≡ b → (suc from ≤ p → mem same_list row (rows_in set rs left (suc from)) ≡ true) → mem same_list row (rows_in set rs (suc left) from) ≡ true
      go true e ih = mem_append_left same_list same_list_self same_list_true row (here from) (rows_in set rs left (suc from)) (first (eqb-true from p e))
      go false e ih =
          mem_append_right same_list same_list_self same_list_true row (here from) (rows_in set rs left (suc from)) (ih (omega (arith, eqb-false from p e)))

  -- a row of them, and its block
  pub record RowIn (left from : ℕ) (row : List ℕ) : Type 0 where
    pub at : ℕ
    pub after : from ≤ at
    pub below : at < from + left
    pub member : in_set set at ≡ true
    pub row_of : mem same_list row (rs at) ≡ true

  pub rows_in_only : (left from : ℕ) (row : List ℕ) → mem same_list row (rows_in set rs left from) ≡ true → RowIn left from row
  rows_in_only zero from row e = absurd (false≢true e)
  rows_in_only (suc left) from row e =
      go (mem-append_cases same_list same_list_self same_list_true row (here from) (rows_in set rs left (suc from)) e) (λ q. rows_in_only left (suc from) row q)
    where
      first : (s : Bool) → in_set set from ≡ s → mem same_list row (cond s (rs from) []) ≡ true → RowIn (suc left) from row
      first true q m = record { at = from; after = omega arith; below = omega arith; member = q; row_of = m }
      first false q m = absurd (false≢true m)

      go : (mem same_list row (here from) ≡ true) ⊎ (mem same_list row (rows_in set rs left (suc from)) ≡ true)
          → (mem same_list row (rows_in set rs left (suc from)) ≡ true → RowIn left (suc from) row) → RowIn (suc left) from row
      go (inl q) ih = first (in_set set from) refl q
      go (inr q) ih =
          let later = ih q in
          record { at = later.at; after = omega (arith, later.after); below = omega (arith, later.below); member = later.member; row_of = later.row_of }

-- ---- the rows before a block

module _ (k : Cache) (t : Task) (few : length t ≤ 24) (rs : ℕ → List (List ℕ)) (reached : (b : ℕ) → b < length t → sorted (rs b) ≡ reaching k t b) where
  reach_has : (a : ℕ) (row : List ℕ) → Reaches k t a row → mem same_list row (rs a) ≡ true
  reach_has a row h = sorted_only (rs a) row (rw (reached a (path-last t h.1)) ((reaching-rows k t a row).1 h))

  reach_only : (a : ℕ) (row : List ℕ) → a < length t → mem same_list row (rs a) ≡ true → Reaches k t a row
  reach_only a row l m = (reaching-rows k t a row).0 (rw (← reached a l) (sorted_has (rs a) row m))

  module _ (b : ℕ) (inside : b < length t) where
    abbrev first : List (List ℕ)
    first = cond (eqb b 0) (empty_row k ∷ []) []

    abbrev others : List (List ℕ)
    others = rows_in (predecessors_of t b) rs (length t) 0

    has : (row : List ℕ) → EntersFrom k t b row → mem same_list row (rows_before k (length t) (predecessors_of t b) rs b) ≡ true
    has row (inl (z, e)) =
        let m : mem same_list row first ≡ true = rw (eq-eqb b 0 z, e) (or_left (same_list (empty_row k) (empty_row k)) false (same_list_self (empty_row k))) in
        mem_append_left same_list same_list_self same_list_true row first others m
    has row (inr (a, h, m)) =
        let low : a < length t = path-last t h.1 in
        let led = turned_has (jump_sets t) (length t) b a inside low (jump_has t a b (omega arith) m) in
        mem_append_right same_list same_list_self same_list_true row first others
        (rows_in_has (predecessors_of t b) rs (length t) 0 a row (omega arith) (omega arith) led (reach_has a row h))

    from_first : (row : List ℕ) (s : Bool) → eqb b 0 ≡ s → mem same_list row (cond s (empty_row k ∷ []) []) ≡ true → Enters k t b row
    from_first row true q m =
        let e = same_list_true row (empty_row k) (elim (or_cases (same_list row (empty_row k)) false m) [ inl p ↦ p | inr p ↦ absurd (false≢true p) ]) in
        let z = eqb-true b 0 q in
        rw (z, e) (enters-first k t (omega arith))
    from_first row false q m = absurd (false≢true m)

    from-others : (row : List ℕ) → RowIn (predecessors_of t b) rs (length t) 0 row → Enters k t b row
    from-others row x =
        let low : x.at < length t = omega (arith, x.below) in
        let led = turned_only (jump_sets t) (length t) b x.at x.member in
        enters_on k t x.at b row (reach_only x.at row low x.row_of) (jump_only t x.at b led.1) inside

    only : (row : List ℕ) → mem same_list row (rows_before k (length t) (predecessors_of t b) rs b) ≡ true → Enters k t b row
    only row m = elim (mem-append_cases same_list same_list_self same_list_true row first others m) [
      | inl q ↦ from_first row (eqb b 0) refl q
      | inr q ↦ from-others row (rows_in_only (predecessors_of t b) rs (length t) 0 row q)
    ]

    pub before_exact : (row : List ℕ) → (mem same_list row (rows_before k (length t) (predecessors_of t b) rs b) ≡ true) ↔ Enters k t b row
    before_exact row = (only row, λ h. has row (enters_cases k t b row h))
