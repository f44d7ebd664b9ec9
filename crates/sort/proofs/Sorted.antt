-- The rows of a part sorted in their place, from the last row to the first, and the rest filled with nothings.
-- The rows from place k on are sorted; the row before them and they are lent, and come back as one sorted row more.
use mathlib.Core.Path.{◌≡◌, refl, sym, ap, ap₂, ◌∙◌}
use mathlib.Core.Bool.{Bool, true, false, cond}
use mathlib.Core.List.{List, [], ◌∷◌, ◌++◌, append-nil, append_assoc}
use Prim.Native.Nat.{ℕ, zero, suc, ◌+◌, ◌-◌, ◌*◌, ◌≤◌, ◌<◌}
use native.Mathlib.Nat.{sub-zero, mul-zero, mul-sub}
use native.Mathlib.Numerals.{add-one}
use native.Mathlib.Omega.{arith}
use lib.ListN.{length, take, drop, replicate, length-append, length-drop, take-append-drop}
use lib.Seq.{take-add, take_at, drop_at, length-take-le}
use borrow.Rule.Slice.PartMut.{put_mid}
use Rattle.cache.specs.References.{nothing}
use Rattle.model.specs.Lists.{Each}
use Rattle.model.specs.Order.{before}
use Rattle.model.specs.Computed.{insert_row, sorted}
use Rattle.rows.specs.Rows.{rows_of, flat}
use Rattle.rows.proofs.Parts.{rows-length, rows_next, next_row, after_first, row_within}
use Rattle.sort.specs.Sorting.{inserted_first, block_part}

-- ---- a list in three parts, the middle one of which is lent and comes back as `new`

module _ (front mid rest : List ℕ) (at size : ℕ) (a : length front ≡ at) (m : length mid ≡ size) {l : List ℕ} (is : l ≡ front ++ (mid ++ rest)) where
  pub mid_lent : take size (drop at l) ≡ mid
  mid_lent = rw (is, drop_at front (mid ++ rest) at a) (take_at mid rest size m)

  pub mid_back : (new : List ℕ) → put_mid at size l new ≡ front ++ (new ++ rest)
  mid_back new = rw (is, take_at front (mid ++ rest) at a, drop_at front (mid ++ rest) at a, drop_at mid rest size m)

-- ---- rows of w numbers

abbrev pub Wide : ℕ → List (List ℕ) → Type 0
Wide w rows = Each (λ (r : List ℕ). length r ≡ w) rows

pub rows-wide : (w n : ℕ) (l : List ℕ) → w * n ≤ length l → Wide w (rows_of w n l)
rows-wide w zero l h = tt
rows-wide w (suc n) l h =
    let e = after_first w n in
    (length-take-le w l (omega arith), rows-wide w n (drop w l) (simp length-drop (omega arith)))

insert_wide : (w : ℕ) (r : List ℕ) (xs : List (List ℕ)) → length r ≡ w → Wide w xs → Wide w (insert_row r xs)
insert_wide w r [] e h = (e, tt)
insert_wide w r (x ∷ xs) e h = go (before r x) (before x r) (insert_wide w r xs e h.1)
  where
    go : (a b : Bool) → Wide w (insert_row r xs) → Wide w (cond a (r ∷ x ∷ xs) (cond b (x ∷ insert_row r xs) (x ∷ xs)))
    go true b ih = (e, h)
    go false true ih = (h.0, ih)
    go false false ih = h

pub sorted-wide : (w : ℕ) (xs : List (List ℕ)) → Wide w xs → Wide w (sorted xs)
sorted-wide w [] h = tt
sorted-wide w (x ∷ xs) h = insert_wide w x (sorted xs) h.0 (sorted-wide w xs h.1)

pub flat-length : (w : ℕ) (xs : List (List ℕ)) → Wide w xs → length (flat xs) ≡ w * length xs
flat-length w [] h = sym (mul-zero w)
flat-length w (x ∷ xs) h = length-append x (flat xs) ∙ omega (arith, h.0, flat-length w xs h.1, after_first w (length xs))

-- rows are read from where they stand
pub rows-flat : (w : ℕ) (xs : List (List ℕ)) (rest : List ℕ) → Wide w xs → rows_of w (length xs) (flat xs ++ rest) ≡ xs
rows-flat w [] rest h = refl
rows-flat w (x ∷ xs) rest h =
    rw append_assoc
    (ap₂ (λ (r : List ℕ) (rs : List (List ℕ)). r ∷ rs) (take_at x (flat xs ++ rest) w h.0) (ap (rows_of w (length xs)) (drop_at x (flat xs ++ rest) w h.0) ∙ rows-flat w xs rest h.1))

-- ---- rows none of which is there twice

insert_length : (r : List ℕ) (xs : List (List ℕ)) → length (insert_row r xs) ≤ suc (length xs)
insert_length r [] = omega arith
insert_length r (x ∷ xs) = go (before r x) (before x r) (insert_length r xs)
  where
    go : (a b : Bool) → length (insert_row r xs) ≤ suc (length xs) → length (cond a (r ∷ x ∷ xs) (cond b (x ∷ insert_row r xs) (x ∷ xs))) ≤ suc (suc (length xs))
    go true b ih = omega arith
    go false true ih = omega arith
    go false false ih = omega arith

sorted-length : (xs : List (List ℕ)) → length (sorted xs) ≤ length xs
sorted-length [] = omega arith
sorted-length (x ∷ xs) = omega (arith, insert_length x (sorted xs), sorted-length xs)

-- so it is with the rows from k on
module _ (w count : ℕ) (l : List ℕ) (once : length (sorted (rows_of w count l)) ≡ count) where
  once-from : (k : ℕ) → k ≤ count → length (sorted (rows_of w (count - k) (drop (w * k) l))) ≡ count - k
  once-from zero h = rw (sub-zero count, mul-zero w) once
  once-from (suc k) h =
      let e = ap length (ap sorted (rows_next w count k l (omega arith))) in
      let ih = once-from k (omega arith) in
      let rest = rows_of w (count - (k + 1)) (drop (w * (k + 1)) l) in
      let some = insert_length (take w (drop (w * k) l)) (sorted rest) in
      let few = sorted-length rest in
      rw (← add-one k) (omega (arith, rows-length w (count - (k + 1)) (drop (w * (k + 1)) l)))

-- ---- the loop, once the rows from k on are sorted

abbrev pub sorted_from : ℕ → ℕ → ℕ → List ℕ → List (List ℕ)
sorted_from w count k l = sorted (rows_of w (count - k) (drop (w * k) l))

abbrev pub sorted_part : ℕ → ℕ → ℕ → List ℕ → List ℕ
sorted_part w count k l = take (w * k) l ++ (flat (sorted_from w count k l) ++ drop (w * count) l)

module _ (w count : ℕ) (l : List ℕ) (long : w * count ≤ length l) (once : length (sorted (rows_of w count l)) ≡ count) where
  from-wide : (k : ℕ) → k ≤ count → Wide w (sorted_from w count k l)
  from-wide k h = sorted-wide w (rows_of w (count - k) (drop (w * k) l)) (rows-wide w (count - k) (drop (w * k) l) (simp length-drop (omega (arith, mul-sub w count k))))

  from-length : (k : ℕ) → k ≤ count → length (flat (sorted_from w count k l)) ≡ w * count - w * k
  from-length k h = flat-length w (sorted_from w count k l) (from-wide k h) ∙ rw (once-from w count l once k h) (mul-sub w count k)

  pub sort_start : (k : ℕ) → k ≡ count → l ≡ sorted_part w count k l
  sort_start k e =
      let none : count - count ≡ 0 = omega arith in
      sym (rw (e, none) (take-append-drop (w * count) l))

  module _ (from k : ℕ) (next : from ≡ k + 1) (more : k < count) {part : List ℕ} (was : part ≡ sorted_part w count from l) where
    abbrev row : List ℕ
    row = take w (drop (w * k) l)

    abbrev rows : List (List ℕ)
    rows = sorted_from w count (k + 1) l

    inside : w * k + w ≤ w * count
    inside = row_within w k count more

    -- the part: what stands before row k, row k with the sorted rows, and what stands after them
    split : part ≡ take (w * k) l ++ ((row ++ flat rows) ++ drop (w * count) l)
    split =
        was ∙ ap (λ (n : ℕ). sorted_part w count n l) next ∙ rw (append_assoc row (flat rows) (drop (w * count) l), ← append_assoc (take (w * k) l) row (flat rows ++ drop (w * count) l), ← take-add (w * k) w l) (ap (λ (n : ℕ). take n l ++ (flat rows ++ drop (w * count) l)) (next_row w k))

    front_long : length (take (w * k) l) ≡ w * k
    front_long = length-take-le (w * k) l (omega (arith, inside))

    row-long : length row ≡ w
    row-long = length-take-le w (drop (w * k) l) (simp length-drop (omega (arith, inside)))

    lent_long : length (row ++ flat rows) ≡ w * count - w * k
    lent_long = length-append row (flat rows) ∙ omega (arith, row-long, from-length (k + 1) (omega arith), inside, next_row w k)

    lent : take (w * count - w * k) (drop (w * k) part) ≡ row ++ flat rows
    lent = mid_lent (take (w * k) l) (row ++ flat rows) (drop (w * count) l) (w * k) (w * count - w * k) front_long lent_long split

    module _ (others : ℕ) (left : others ≡ count - (k + 1)) where
      inserted : inserted_first w others (take (w * count - w * k) (drop (w * k) part)) ≡ sorted_from w count k l
      inserted =
          let n : others ≡ length rows = left ∙ sym (once-from w count l once (k + 1) (omega arith)) in
          let read : rows_of w others (flat rows) ≡ rows = rw n (ap (rows_of w (length rows)) (sym (append-nil (flat rows))) ∙ rows-flat w rows [] (from-wide (k + 1) (omega arith))) in
          ap (inserted_first w others) lent
          ∙ (rw (take_at row (flat rows) w row-long, drop_at row (flat rows) w row-long, read))
          ∙ sym (ap sorted (rows_next w count k l more))

      pub lent_fits : length (take (w * count - w * k) (drop (w * k) part)) ≡ w * (others + 1)
      lent_fits =
          let rest : others + 1 ≡ count - k = omega arith in
          ap length lent ∙ lent_long ∙ sym (rw rest (mul-sub w count k))

      pub lent_once : length (inserted_first w others (take (w * count - w * k) (drop (w * k) part))) ≡ others + 1
      lent_once = ap length inserted ∙ once-from w count l once k (omega arith) ∙ omega arith

      pub sort_turn : (to : ℕ) → to ≡ k → {new : List ℕ} → new ≡ flat (inserted_first w others (take (w * count - w * k) (drop (w * k) part)))
          → put_mid (w * k) (w * count - w * k) part new ≡ sorted_part w count to l
      sort_turn to q {new} e =
          rw q
          (mid_back (take (w * k) l) (row ++ flat rows) (drop (w * count) l) (w * k) (w * count - w * k) front_long lent_long split new
          ∙ ap (λ (x : List ℕ). take (w * k) l ++ (x ++ drop (w * count) l)) (e ∙ ap flat inserted))

-- ---- the end: all rows are sorted, and the numbers after them become nothings

module _ (w count : ℕ) (l : List ℕ) (long : length l ≡ 32 * w) (few : w * count ≤ 32 * w) (once : length (sorted (rows_of w count l)) ≡ count)
    (from : ℕ) (none : from ≡ 0) {part : List ℕ} (was : part ≡ sorted_part w count from l) where
  all-rows : sorted_from w count 0 l ≡ sorted (rows_of w count l)
  all-rows = rw (sub-zero count, mul-zero w)

  flat-long : length (flat (sorted (rows_of w count l))) ≡ w * count
  flat-long = ap (λ (x : List (List ℕ)). length (flat x)) (sym all-rows) ∙ from-length w count l (omega arith) once 0 (omega arith) ∙ omega arith

  rest-long : length (drop (w * count) l) ≡ 32 * w - w * count
  rest-long = length-drop (w * count) l ∙ omega arith

  three : part ≡ flat (sorted (rows_of w count l)) ++ (drop (w * count) l ++ [])
  three = was ∙ ap (λ (n : ℕ). sorted_part w count n l) none ∙ (rw (all-rows, mul-zero w, append-nil (drop (w * count) l)))

  pub sort_end : {new : List ℕ} → new ≡ replicate (length (take (32 * w - w * count) (drop (w * count) part))) 65535
      → put_mid (w * count) (32 * w - w * count) part new ≡ block_part w (sorted (rows_of w count l))
  unfolding nothing
  sort_end {new} e =
      let size = ap length (mid_lent (flat (sorted (rows_of w count l))) (drop (w * count) l) [] (w * count) (32 * w - w * count) flat-long rest-long three) ∙ rest-long in
      mid_back (flat (sorted (rows_of w count l))) (drop (w * count) l) [] (w * count) (32 * w - w * count) flat-long rest-long three new
      ∙ rw (append-nil new, flat-long) (ap (λ (x : List ℕ). flat (sorted (rows_of w count l)) ++ x) (e ∙ ap (λ (n : ℕ). replicate n 65535) size))
