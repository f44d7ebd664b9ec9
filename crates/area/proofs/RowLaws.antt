-- Row in the code's words: what each way out answers is the place of the definitions, it lies in the area, and the part there is the row.
-- The idea: the code's tests are those of `has_row` in order, and a block below 24 with a number below 32 ends before the counts.
use mathlib.Core.Path.{◌≡◌, refl, sym, ap, ◌∙◌}
use mathlib.Core.Bool.{Bool, true, false}
use mathlib.Core.List.{List, []}
use Prim.Native.Nat.{ℕ, ◌+◌, ◌*◌, ◌-◌, ◌≤◌, ◌<◌}
use native.Mathlib.Omega.{arith}
use lib.Dec.{eqb, ltb, leb}
use lib.ListN.{length, get_or, take, drop}
use lib.Seq.{drop-drop}
use borrow.Author.Tests.{eqb-true, eq-eqb, ne_eqb, leb-true, le-leb, lt-leb, ltb-true, lt-ltb, le-ltb}
use Rattle.model.proofs.Membership.{both_left, both_right}
use Rattle.rows.specs.Rows.{part_of, kind_length, count_start, area_length}
use Rattle.rows.proofs.Parts.{rows_at, row_within, part_of_part}
use Rattle.gather.proofs.Handing.{within-memory}
use Rattle.area.specs.RowPart.{kind_start, count_in, has_row, row_start, row_length, row_part, rows_in}

-- ---- the counts of a block

module _ (w : ℕ) (area : List ℕ) {live : Bool} (b : ℕ) {x : ℕ} where
  pub live-count : live ≡ true → x ≡ get_or area (count_start w + 24 + b) 0 → x ≡ count_in w area live b
  live-count e p = rw e p

  pub reaching-count : live ≡ false → x ≡ get_or area (count_start w + b) 0 → x ≡ count_in w area live b
  reaching-count e p = rw e p

pub kind_low : (w : ℕ) (live : Bool) → kind_start w live ≤ kind_length w
kind_low w true = omega arith
kind_low w false = omega arith

-- ---- a row of a block below 24 with a number below 32

-- its place in the words of the definitions and in those of the rows
pub place_is : (w b k : ℕ) → (32 * b + k) * w ≡ 32 * w * b + w * k
place_is w b k = omega arith

pub place-ends : (w b k : ℕ) → b < 24 → k < 32 → (32 * b + k) * w + w ≤ kind_length w
place-ends w b k h l = rw (place_is w b k) (within-memory w b k h l)

-- ---- the ways out

module _ (w : ℕ) (area : List ℕ) (live : Bool) (b k : ℕ) where
  -- the empty part at 0 is the answer
  abbrev pub Nowhere : Type 0
  Nowhere = (0 ≡ row_start w area live b k) × (0 ≡ row_length w area live b k)

  no_row : has_row w area live b k ≡ false → Nowhere
  no_row e = (rw e, rw e)

  pub wrong-length : (length area ≡ area_length w → ⊥) → Nowhere
  wrong-length h = no_row (rw (ne_eqb (length area) (area_length w) h))

  module _ (long : length area ≡ area_length w) where
    pub block_high : 24 ≤ b → Nowhere
    block_high h = no_row (rw (eq-eqb (length area) (area_length w) long, le-ltb b 24 h))

    module _ (low : b < 24) {count : ℕ} (counted : count ≡ count_in w area live b) where
      pub count_high : 32 < count → Nowhere
      count_high h = no_row (rw (eq-eqb (length area) (area_length w) long, lt-ltb b 24 low, sym counted, lt-leb count 32 h))

      module _ (few : count ≤ 32) where
        pub number_high : count ≤ k → Nowhere
        number_high h = no_row (rw (eq-eqb (length area) (area_length w) long, lt-ltb b 24 low, sym counted, le-leb count 32 few, le-ltb k count h))

        there : k < count → has_row w area live b k ≡ true
        there h = rw (eq-eqb (length area) (area_length w) long, lt-ltb b 24 low, sym counted, le-leb count 32 few, lt-ltb k count h)

        pub row-there : k < count → {start : ℕ} → start ≡ kind_start w live → (start + (32 * b + k) * w ≡ row_start w area live b k) × (w ≡ row_length w area live b k)
        row-there h e = (rw (there h, e), rw (there h))

-- ---- the part of the area

pub record InArea (w : ℕ) (area : List ℕ) (start long : ℕ) : Type 0 where
  pub low : start + long ≤ count_start w
  pub inside : start + long ≤ length area

module _ (w : ℕ) (area : List ℕ) (live : Bool) (b k : ℕ) where
  -- what it means that the area has the row
  pub record RowThere : Type 0 where
    pub long : length area ≡ area_length w
    pub low : b < 24
    pub few : count_in w area live b ≤ 32
    pub below : k < count_in w area live b

  has_row_lem : has_row w area live b k ≡ true → RowThere
  has_row_lem h =
      let h1 = both_right (eqb (length area) (area_length w)) _ h in
      let h2 = both_right (ltb b 24) _ h1 in
      let count = count_in w area live b in
      record {
        long = eqb-true (length area) (area_length w) (both_left (eqb (length area) (area_length w)) _ h);
        low = ltb-true b 24 (both_left (ltb b 24) _ h1);
        few = leb-true count 32 (both_left (leb count 32) _ h2);
        below = ltb-true k count (both_right (leb count 32) _ h2);
      }

  row_ends : RowThere → kind_start w live + (32 * b + k) * w + w ≤ count_start w
  row_ends h = omega (arith, kind_low w live, place-ends w b k h.low (omega (arith, h.few, h.below)))

  pub row_inside : {start long : ℕ} → start ≡ row_start w area live b k → long ≡ row_length w area live b k → InArea w area start long
  row_inside {start} {long} p q = go (has_row w area live b k) refl
    where
      go : (x : Bool) → has_row w area live b k ≡ x → InArea w area start long
      go true e =
          let h = row_ends (has_row_lem e) in
          let s = rw e at p in
          let z = rw e at q in
          record { low = omega (arith, h, s, z); inside = omega (arith, h, (has_row_lem e).long, s, z) }
      go false e =
          let s = rw e at p in
          let z = rw e at q in
          record { low = omega (arith, s, z); inside = omega (arith, s, z) }

  pub place-row : {from long : ℕ} → from ≡ row_start w area live b k → long ≡ row_length w area live b k → take (from + long - from) (drop from area) ≡ row_part w area live b k
  place-row {from} {long} e f =
      let n : from + long - from ≡ row_length w area live b k = omega arith in
      rw (n, e) (go (has_row w area live b k) refl)
    where
      go : (x : Bool) → has_row w area live b k ≡ x → take (row_length w area live b k) (drop (row_start w area live b k) area) ≡ row_part w area live b k
      go true q = rw q
      go false q = rw q

  -- the row that is handed back is the one numbered k of the block's rows
  pub row_numbered : has_row w area live b k ≡ true → row_part w area live b k ≡ get_or (rows_in w area live b) k []
  row_numbered h =
      let is = has_row_lem h in
      let from = drop (kind_start w live) area in
      let at : kind_start w live + (32 * b + k) * w ≡ kind_start w live + 32 * w * b + w * k = omega (arith, place_is w b k) in
      let steps : drop (kind_start w live + 32 * w * b + w * k) area ≡ drop (w * k) (drop (32 * w * b) from) =
      sym (ap (drop (w * k)) (drop-drop (32 * w * b) (kind_start w live) area) ∙ drop-drop (w * k) (kind_start w live + 32 * w * b) area) in
      let inner = part_of_part w (w * k) (32 * w) (drop (32 * w * b) from) (omega (arith, row_within w k 32 (omega (arith, is.few, is.below)))) in
      rw (h, at, steps) (sym inner ∙ sym (rows_at w (count_in w area live b) k (part_of w from b) is.below))
