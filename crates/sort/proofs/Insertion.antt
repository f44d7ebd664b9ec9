-- One row put in its place among rows that follow it in memory: each turn of the loop is a step of insertion.
-- The rows before place k are done, `row` is in hand, and what insertion makes of the rows after k goes on from there.
use mathlib.Core.Path.{◌≡◌, refl, sym, ap, ◌∙◌}
use mathlib.Core.Bool.{Bool, true, false, cond}
use mathlib.Core.List.{List, [], ◌∷◌, ◌++◌, append-nil, append_assoc}
use Prim.Native.Nat.{ℕ, zero, suc, ◌+◌, ◌-◌, ◌*◌, ◌%◌, ◌≤◌, ◌<◌}
use native.Mathlib.Nat.{sub-zero, mul-zero, mul-sub}
use native.Mathlib.Omega.{arith}
use lib.ListN.{length, take, drop, length-append, length-drop, drop_of_length-le, take-append-drop}
use Rattle.std.specs.List.{copy_within}
use lib.Seq.{take_at, drop_at, drop-drop, length-take-le}
use borrow.Rule.Slice.PartMut.{put_mid}
use Rattle.model.specs.Order.{before}
use Rattle.model.specs.Computed.{insert_row}
use Rattle.rows.specs.Rows.{rows_of, flat}
use Rattle.rows.specs.Append.{put}
use Rattle.sort.specs.Sorting.{inserted_first}
use Rattle.rows.proofs.Parts.{rows-length, rows_next, next_row, after_first, row_within}

-- ---- insertion of a row that is not there

pub insert_here : (r x : List ℕ) (xs : List (List ℕ)) → before r x ≡ true → insert_row r (x ∷ xs) ≡ r ∷ x ∷ xs
insert_here r x xs e = rw e

-- a row that belongs after the first is inserted among the others
pub insert_later : (r x : List ℕ) (xs : List (List ℕ)) → before r x ≡ false → length (insert_row r (x ∷ xs)) ≡ suc (length (x ∷ xs)) → insert_row r (x ∷ xs) ≡ x ∷ insert_row r xs
insert_later r x xs e l = rw e (go (before x r) (rw e at l))
  where
    go : (t : Bool) → length (cond t (x ∷ insert_row r xs) (x ∷ xs)) ≡ suc (length (x ∷ xs)) → cond t (x ∷ insert_row r xs) (x ∷ xs) ≡ x ∷ insert_row r xs
    go true h = refl
    go false h = absurd (omega arith)

-- ---- rows in memory

-- rows one after the other are what they were read from
pub flat_rows : (w n : ℕ) (l : List ℕ) → length l ≡ w * n → flat (rows_of w n l) ≡ l
flat_rows w zero [] e = refl
flat_rows w zero (x ∷ l) e = absurd (omega arith)
flat_rows w (suc n) l e =
    ap (λ (x : List ℕ). take w l ++ x) (flat_rows w n (drop w l) (simp length-drop (omega (arith, after_first w n)))) ∙ take-append-drop w l

-- a part that is lent from `at` to `at + n`
pub lent_part : (at n : ℕ) (l : List ℕ) → take (at + n - at) (drop at l) ≡ take n (drop at l)
lent_part at n l = let e : at + n - at ≡ n = omega arith in rw e

-- what was put, with all before it, and what stands after it
module _ (l : List ℕ) (at : ℕ) (row : List ℕ) (stop : ℕ) (e : stop ≡ at + length row) (fits : stop ≤ length l) where
  front : length (take at l ++ row) ≡ stop
  front = length-append (take at l) row ∙ rw (length-take-le at l (omega arith)) (sym e)

  pub put-take : take stop (put l at row) ≡ take at l ++ row
  put-take = rw (← append_assoc (take at l) row (drop (at + length row) l)) (take_at (take at l ++ row) (drop (at + length row) l) stop front)

  pub put-drop : drop stop (put l at row) ≡ drop stop l
  put-drop = rw (← append_assoc (take at l) row (drop (at + length row) l), e) (drop_at (take at l ++ row) (drop (at + length row) l) (at + length row) (front ∙ e))

  -- what is put right after it is put with it
  pub put_more : (more : List ℕ) → put (put l at row) stop more ≡ put l at (row ++ more)
  put_more more =
      let far : stop + length more ≡ at + length (row ++ more) = rw (length-append row more) (omega arith) in
      let after : drop (stop + length more) (put l at row) ≡ drop (at + length (row ++ more)) l = sym (drop-drop (length more) stop (put l at row)) ∙ ap (drop (length more)) put-drop ∙ drop-drop (length more) stop l ∙ ap (λ (n : ℕ). drop n l) far in
      rw (put-take, after, append_assoc (take at l) row (more ++ drop (at + length (row ++ more)) l), append_assoc row more (drop (at + length (row ++ more)) l))

  -- and a part that begins at its end or later is as it was
  pub put-later : (n a : ℕ) → stop ≤ a → take n (drop a (put l at row)) ≡ take n (drop a l)
  put-later n a h =
      let s : a ≡ stop + (a - stop) = omega arith in
      rw (s, ← drop-drop (a - stop) stop (put l at row), ← drop-drop (a - stop) stop l, put-drop)

-- ---- a row that moves to the place before it

pub moved_row : (w at : ℕ) (l : List ℕ) {now : List ℕ} → at + w + w ≤ length l → now ≡ copy_within l (at + w) (at + w + w) at
    → now ≡ put l at (take w (drop (at + w) l))
moved_row w at l h e =
    let n : at + w + w - (at + w) ≡ w = omega arith in
    let long : length (take w (drop (at + w) l)) ≡ w = length-take-le w (drop (at + w) l) (simp length-drop (omega arith)) in
    e ∙ rw (n, long) (append_assoc (take at l) (take w (drop (at + w) l)) (drop (at + w) l))

-- ---- the loop, over `count` rows with the place k free

-- the rows after row k
abbrev pub after : ℕ → ℕ → ℕ → List ℕ → List (List ℕ)
after w count k l = rows_of w (count - (k + 1)) (drop (w * (k + 1)) l)

-- what the part is to be once `row` has its place at k or after it
abbrev pub placed : ℕ → ℕ → List ℕ → List ℕ → List ℕ
placed count k row l = take (length row * k) l ++ flat (insert_row row (after (length row) count k l))

module _ (count k : ℕ) (row l : List ℕ) (long : length l ≡ length row * count) where
  abbrev w : ℕ
  w = length row

  after-length : length (after w count k l) ≡ count - (k + 1)
  after-length = rows-length w (count - (k + 1)) (drop (w * (k + 1)) l)

  -- at the last place the row stands
  pub place-last : k + 1 ≡ count → put l (w * k) row ≡ placed count k row l
  place-last e =
      let none : count - (k + 1) ≡ 0 = omega arith in
      let whole : length l ≡ w * k + w = long ∙ ap (λ (n : ℕ). w * n) (sym e) ∙ next_row w k in
      rw (none, append-nil row, drop_of_length-le l {i = w * k + w} (omega arith), append-nil row)

  module _ (more : k + 1 < count) where
    abbrev next : List ℕ
    next = take w (drop (w * k + w) l)

    pub inside : w * k + w + w ≤ length l
    inside = omega (arith, row_within w (k + 1) count more, next_row w k)

    after_next : after w count k l ≡ next ∷ after w count (k + 1) l
    after_next = rows_next w count (k + 1) l more ∙ ap (λ (n : ℕ). take w (drop n l) ∷ after w count (k + 1) l) (next_row w k)

    next-long : length next ≡ w
    next-long = length-take-le w (drop (w * k + w) l) (simp length-drop (omega (arith, inside)))

    -- a row that stands before the next one has its place
    pub place_here : before row next ≡ true → put l (w * k) row ≡ placed count k row l
    place_here e =
        let left : length (drop (w * (k + 1)) l) ≡ w * (count - (k + 1)) = length-drop (w * (k + 1)) l ∙ ap (λ (n : ℕ). n - w * (k + 1)) long ∙ sym (mul-sub w count (k + 1)) in
        let rest : flat (after w count k l) ≡ drop (w * (k + 1)) l = flat_rows w (count - (k + 1)) (drop (w * (k + 1)) l) left in
        let made : insert_row row (after w count k l) ≡ row ∷ after w count k l = rw after_next (insert_here row next (after w count (k + 1) l) e) in
        sym (rw (made, rest, next_row w k))

    -- else the next one moves to the place k, and k + 1 is free
    module _ (once : length (insert_row row (after w count k l)) ≡ count - k) (e : before row next ≡ false) where
      moved : insert_row row (after w count k l) ≡ next ∷ insert_row row (after w count (k + 1) l)
      moved =
          ap (insert_row row) after_next
          ∙ insert_later row next (after w count (k + 1) l) e (sym (ap (λ (x : List (List ℕ)). length (insert_row row x)) after_next) ∙ once ∙ sym (ap (λ (x : List (List ℕ)). suc (length x)) (sym after_next) ∙ rw after-length (omega arith)))

      ends : w * (k + 1) ≡ w * k + length next
      ends = next_row w k ∙ rw next-long

      fits : w * (k + 1) ≤ length l
      fits = omega (arith, inside, next_row w k)

      same_after : after w count (k + 1) (put l (w * k) next) ≡ after w count (k + 1) l
      same_after =
          ap (rows_of w (count - (k + 1 + 1)))
          (rw (next_row w (k + 1), ← drop-drop w (w * (k + 1)) (put l (w * k) next), ← drop-drop w (w * (k + 1)) l) (ap (drop w) (put-drop l (w * k) next (w * (k + 1)) ends fits)))

      pub place_turn : placed count (k + 1) row (put l (w * k) next) ≡ placed count k row l
      place_turn =
          rw (put-take l (w * k) next (w * (k + 1)) ends fits, same_after, moved)
          (append_assoc (take (w * k) l) next (flat (insert_row row (after w count (k + 1) l))))

      pub once_turn : length (insert_row row (after w count (k + 1) (put l (w * k) next))) ≡ count - (k + 1)
      once_turn = ap (λ (x : List (List ℕ)). length (insert_row row x)) same_after ∙ omega (arith, once, ap length moved)

-- at first the row is in hand
module _ (others : ℕ) (row l : List ℕ) where
  start : insert_row row (after (length row) (others + 1) 0 l) ≡ insert_row row (rows_of (length row) others (drop (length row) l))
  start =
      let n : others + 1 - (0 + 1) ≡ others = omega arith in
      let one : length row * (0 + 1) ≡ length row = omega arith in
      rw (n, one)

  pub place_start_lem : placed (others + 1) 0 row l ≡ flat (insert_row row (rows_of (length row) others (drop (length row) l)))
  place_start_lem = rw (mul-zero (length row)) (ap flat start)

  pub once_start : length (insert_row row (rows_of (length row) others (drop (length row) l))) ≡ others + 1 → length (insert_row row (after (length row) (others + 1) 0 l)) ≡ others + 1 - 0
  once_start h = ap length start ∙ omega (arith, h)

-- ---- the first row, copied into a room of its own

module _ (w others : ℕ) (room rows : List ℕ) (long : length rows ≡ w * (others + 1)) {new : List ℕ} (copied : new ≡ take (w - 0) (drop 0 rows)) where
  fits-rows : w ≤ length rows
  fits-rows = omega (arith, next_row w others)

  is-first : new ≡ take w rows
  is-first = copied ∙ rw (sub-zero w)

  new-long : length new ≡ w
  new-long = ap length is-first ∙ length-take-le w rows fits-rows

  pub room_fits : w ≤ length (put_mid 0 (w - 0) room new)
  room_fits = rw (length-append new (drop (w - 0) room)) (omega (arith, new-long))

  abbrev row : List ℕ
  row = take (w - 0) (drop 0 (put_mid 0 (w - 0) room new))

  row_is : row ≡ take w rows
  row_is = rw (sub-zero w) (take_at new (drop w room) w new-long) ∙ is-first

  row-long : length row ≡ w
  row-long = ap length row_is ∙ length-take-le w rows fits-rows

  pub first_inserted : insert_row row (rows_of (length row) others (drop (length row) rows)) ≡ inserted_first w others rows
  first_inserted = rw (row-long, row_is)

  pub first_asks : w % 16 ≡ 0 → length (inserted_first w others rows) ≡ others + 1
      → (length row % 16 ≡ 0) × (length rows ≡ length row * (others + 1)) × (length (insert_row row (rows_of (length row) others (drop (length row) rows))) ≡ others + 1)
  first_asks c once = (rw row-long c, rw row-long long, ap length first_inserted ∙ once)
