-- Rows laid side by side: a turn of the passes that lay them, and that all of them are laid in the end.
-- A place is 32 c + l with l below 32 in one way only, so that a store to one row leaves the others.
use mathlib.Core.Path.{◌≡◌, refl, sym, ap, ap₂, ◌∙◌}
use mathlib.Core.Logic.{◌≢◌}
use mathlib.Core.Bool.{Bool, true, false}
use mathlib.Core.List.{List, ◌∷◌}
use Prim.Native.Nat.{ℕ, zero, suc, ◌+◌, ◌-◌, ◌*◌, ◌≤◌, ◌<◌}
use native.Mathlib.Nat.{mul-zero, zero-add}
use native.Mathlib.Numerals.{add-one}
use native.Mathlib.Omega.{arith}
use lib.Dec.{eqb}
use lib.ListN.{length, get_or, set, take, drop, length-drop}
use lib.Seq.{get_or-set_same, get_or-set_other, get_or-take, get_or-drop, drop-drop, length-take-le, ext_get_or}
use borrow.Author.Tests.{eqb-true, eqb-false}
use Rattle.cache.specs.References.{nothing}
use Rattle.cache.specs.Cache.{held}
use Rattle.cache.proofs.Cells.{cell_held}
use Rattle.cache.proofs.Rows.{length-row_from, row_from-at}
use Rattle.rows.specs.Rows.{rows_of}
use Rattle.rows.proofs.Parts.{next_row, row_within}
use Rattle.rows.proofs.Parts.{lent_long}
use Rattle.row_sets.specs.Lanes.{lane_row, lane_rows_from, lane_rows}

-- ---- one row, laid as the one numbered l

abbrev pub LaidRow : ℕ → List ℕ → ℕ → List ℕ → Type 0
LaidRow n row l lanes = (c : ℕ) → c < n → get_or lanes (32 * c + l) 0 ≡ get_or row c 0

abbrev pub OthersKept : ℕ → List ℕ → List ℕ → Type 0
OthersKept l before lanes = (k c : ℕ) → k < 32 → k ≢ l → get_or lanes (32 * c + k) 0 ≡ get_or before (32 * c + k) 0

-- the number n of it is stored
module _ (row : List ℕ) (l n : ℕ) (lanes : List ℕ) where
  abbrev stored : List ℕ
  stored = set lanes (32 * n + l) (get_or row n 0)

  pub laid_one : 32 * n + l < length lanes → LaidRow n row l lanes → LaidRow (n + 1) row l stored
  laid_one inside so_far c h = go (eqb c n) refl
    where
      go : (b : Bool) → eqb c n ≡ b → get_or stored (32 * c + l) 0 ≡ get_or row c 0
      go true q = rw (eqb-true c n q) (get_or-set_same lanes (32 * n + l) (get_or row n 0) 0 inside)
      go false q =
          let other : c ≢ n = eqb-false c n q in
          get_or-set_other lanes (32 * n + l) (32 * c + l) (get_or row n 0) 0 (λ e. other (omega (arith, e))) ∙ so_far c (omega (arith, other))

  pub kept-one : (before : List ℕ) → l < 32 → OthersKept l before lanes → OthersKept l before stored
  kept-one before b so_far k c h other =
      get_or-set_other lanes (32 * n + l) (32 * c + k) (get_or row n 0) 0 (λ e. other (omega (arith, e))) ∙ so_far k c h other

-- ---- the first n rows of w numbers each

abbrev pub Laid : ℕ → ℕ → List ℕ → List ℕ → Type 0
Laid w n rows lanes = (k c : ℕ) → k < n → c < w → get_or lanes (32 * c + k) 0 ≡ get_or rows (w * k + c) 0

-- one more row, lent as a part, is laid
module _ (w l : ℕ) (rows : List ℕ) (few : l < 32) (long : length rows ≡ 32 * w) where
  abbrev row : List ℕ
  row = take (w * l + w - w * l) (drop (w * l) rows)

  pub laid_more : (before lanes : List ℕ) → LaidRow (length row) row l lanes → OthersKept l before lanes → Laid w l rows before → Laid w (l + 1) rows lanes
  laid_more before lanes is others so_far k c h i = go (eqb k l) refl
    where
      go : (b : Bool) → eqb k l ≡ b → get_or lanes (32 * c + k) 0 ≡ get_or rows (w * k + c) 0
      go true q =
          rw (eqb-true k l q)
          (is c (rw (lent_long w l 32 rows few long) i) ∙ get_or-take (w * l + w - w * l) (drop (w * l) rows) c 0 (omega arith) ∙ get_or-drop (w * l) rows c 0)
      go false q =
          let other : k ≢ l = eqb-false k l q in
          others k c (omega arith) other ∙ so_far k c (omega (arith, other)) i

-- they are the rows
module _ (w count : ℕ) (rows lanes : List ℕ) (few : count ≤ 32) (long : length rows ≡ 32 * w) (wide : length lanes ≡ 32 * w) (laid : Laid w count rows lanes) where
  one-row : (k : ℕ) → k < count → lane_row w lanes k ≡ take w (drop (w * k) rows)
  one-row k h =
      ext_get_or nothing (lane_row w lanes k) (take w (drop (w * k) rows))
      (length-row_from w 0 at ∙ sym (length-take-le w (drop (w * k) rows) (simp length-drop (omega (arith, inside)))))
      (λ c i. same c (rw (length-row_from w 0 at) at i))
    where
      at : ℕ → ℕ
      at c = held lanes (32 * c + k)

      inside : w * k + w ≤ length rows
      inside = omega (arith, row_within w k 32 (omega arith))

      same : (c : ℕ) → c < w → get_or (lane_row w lanes k) c nothing ≡ get_or (take w (drop (w * k) rows)) c nothing
      same c i =
          row_from-at w 0 c nothing at i
          ∙ ap at (zero-add c)
          ∙ sym (cell_held lanes (32 * c + k) (omega arith))
          ∙ laid k c h i
          ∙ cell_held rows (w * k + c) (omega (arith, inside))
          ∙ sym (get_or-take w (drop (w * k) rows) c nothing i ∙ get_or-drop (w * k) rows c nothing)

  rows-from : (left k : ℕ) → k + left ≡ count → lane_rows_from w lanes left k ≡ rows_of w left (drop (w * k) rows)
  rows-from zero k e = refl
  rows-from (suc left) k e =
      ap₂ (λ (r : List ℕ) (rs : List (List ℕ)). r ∷ rs) (one-row k (omega arith))
      (rows-from left (suc k) (omega arith) ∙ ap (rows_of w left) (rw (← add-one k, next_row w k) (sym (drop-drop w (w * k) rows))))

  pub rows_laid : lane_rows w count lanes ≡ rows_of w count rows
  rows_laid = rows-from count 0 (zero-add count) ∙ rw (mul-zero w)
