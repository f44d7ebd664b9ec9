-- Rows one after the other: the row after the others, the search among them, and a part with one row stored.
-- Each is an induction on the number of rows, or splits a list where a row begins.
use mathlib.Core.Path.{◌≡◌, refl, sym, ap, ap₂, ◌∙◌}
use mathlib.Core.Bool.{Bool, false, ◌||◌}
use mathlib.Core.List.{List, [], ◌∷◌, ◌++◌, append_assoc}
use Prim.Native.Nat.{ℕ, zero, suc, ◌+◌, ◌-◌, ◌*◌, ◌≤◌, ◌<◌}
use native.Mathlib.Nat.{sub-zero, min-le_left, mul-add, mul_comm, mul-one, mul-zero, mul-le-mul_left}
use borrow.Rule.Slice.PartMut.{put_mid, Post-is}
use native.Mathlib.Omega.{arith}
use native.Mathlib.Numerals.{add-one}
use lib.ListN.{length, get_or, take, drop, set, length-append, length-take, length-drop, get_or-append}
use lib.Seq.{paste, take-length, take_all, take-suc, take-suc-set, take-take, take-add, take_at, drop_at, get_or-take, get_or-drop, drop-drop, length-take-le, get_or-append-add, ext_get_or}
use Rattle.model.specs.Lists.{mem}
use Rattle.model.specs.Computed.{same_list}
use Rattle.rows.specs.Rows.{rows_of}
use Rattle.rows.specs.Append.{put}

-- a copy that has come to the end of a row has put it
pub pasted : (l : List ℕ) (at : ℕ) (row : List ℕ) (i : ℕ) {now : List ℕ} → i ≡ length row → now ≡ paste l at row i → now ≡ put l at row
pasted l at row i e q = q ∙ rw (e, take-length row) (append_assoc (take at l) row (drop (at + length row) l))

-- a turn of a copy from base on, and its end
pub copy_turn : (l s : List ℕ) (base i : ℕ) → i < length l → base + i < length s → take i l ≡ take i (drop base s)
    → take (i + 1) (set l i (get_or s (base + i) 0)) ≡ take (i + 1) (drop base s)
copy_turn l s base i h k e =
    let inside : i < length (drop base s) = simp length-drop (omega arith) in
    let last : get_or (drop base s) i 0 ≡ get_or s (base + i) 0 = get_or-drop base s i 0 in
    rw (add-one i, take-suc-set l i (get_or s (base + i) 0) h, take-suc (drop base s) i 0 inside, e, last)

pub copy_end : (n : ℕ) (l s : List ℕ) (i : ℕ) → length l ≡ n → i ≡ n → take i l ≡ take i s → l ≡ take n s
copy_end n l s i h e q = sym (take_all n l (omega arith)) ∙ rw e at q

-- ---- the search, among rows of w numbers

pub next_row : (w k : ℕ) → w * (k + 1) ≡ w * k + w
next_row w k = rw (mul-add w k 1, mul-one w)

pub rows_next : (w n k : ℕ) (l : List ℕ) → k < n → rows_of w (n - k) (drop (w * k) l) ≡ take w (drop (w * k) l) ∷ rows_of w (n - (k + 1)) (drop (w * (k + 1)) l)
rows_next w n k l h =
    let e : n - k ≡ suc (n - (k + 1)) = omega arith in
    rw (e, next_row w k, ← drop-drop w (w * k) l)

pub search_start : (w n : ℕ) (l row : List ℕ) → mem same_list row (rows_of w (n - 0) (drop (w * 0) l)) ≡ mem same_list row (rows_of w n l)
search_start w n l row = rw (sub-zero n, mul-zero w)

-- a turn: b tells whether the row is the one numbered k
pub search_at : (w n k : ℕ) (l row : List ℕ) {b : Bool} → k < n → b ≡ same_list row (take w (drop (w * k) l))
    → mem same_list row (rows_of w (n - k) (drop (w * k) l)) ≡ (b || mem same_list row (rows_of w (n - (k + 1)) (drop (w * (k + 1)) l)))
search_at w n k l row h e =
    ap (mem same_list row) (rows_next w n k l h) ∙ ap (λ (t : Bool). t || mem same_list row (rows_of w (n - (k + 1)) (drop (w * (k + 1)) l))) (sym e)

pub search_end : (w n k : ℕ) (l row : List ℕ) → n ≤ k → mem same_list row (rows_of w (n - k) l) ≡ false
search_end w n k l row h = let e : n - k ≡ 0 = omega arith in rw e

-- ---- rows after rows

-- the row numbered k of at most n ends within n rows
pub row_within : (w k n : ℕ) → k < n → w * k + w ≤ w * n
row_within w k n h = rw (← next_row w k) (mul-le-mul_left w (omega arith))

pub rows-length : (w n : ℕ) (l : List ℕ) → length (rows_of w n l) ≡ n
rows-length w zero l = refl
rows-length w (suc n) l = ap suc (rows-length w n (drop w l))

pub after_first : (w n : ℕ) → w * suc n ≡ w + w * n
after_first w n = rw (← add-one n, next_row w n) (omega arith)

-- the row numbered k
pub rows_at : (w n k : ℕ) (l : List ℕ) → k < n → get_or (rows_of w n l) k [] ≡ take w (drop (w * k) l)
rows_at w zero k l h = absurd (omega arith)
rows_at w (suc n) zero l h = rw (mul-zero w)
rows_at w (suc n) (suc k) l h = rows_at w n k (drop w l) (omega arith) ∙ rw (after_first w k, drop-drop (w * k) w l)

pub rows_snoc : (w n : ℕ) (l : List ℕ) → rows_of w (suc n) l ≡ rows_of w n l ++ (take w (drop (w * n) l) ∷ [])
rows_snoc w zero l = rw (mul-zero w)
rows_snoc w (suc n) l =
    ap (λ (x : List (List ℕ)). take w l ∷ x) (rows_snoc w n (drop w l) ∙ rw (after_first w n, drop-drop (w * n) w l))

-- what stands after the rows does not matter
rows_front : (w n : ℕ) (l x : List ℕ) → w * n ≤ length l → rows_of w n (take (w * n) l ++ x) ≡ rows_of w n l
rows_front w zero l x h = refl
rows_front w (suc n) l x h =
    let e = after_first w n in
    let s : take (w * suc n) l ++ x ≡ take w l ++ (take (w * n) (drop w l) ++ x) = rw (e, take-add w (w * n) l) (append_assoc (take w l) (take (w * n) (drop w l)) x) in
    let f : length (take w l) ≡ w = length-take-le w l (omega (arith, e)) in
    let rest = take (w * n) (drop w l) ++ x in
    ap (rows_of w (suc n)) s
    ∙ ap₂ (λ (r : List ℕ) (rs : List (List ℕ)). r ∷ rs) (take_at (take w l) rest w f)
    (ap (rows_of w n) (drop_at (take w l) rest w f) ∙ rows_front w n (drop w l) x (simp length-drop (omega (arith, e))))

-- a row stored after n rows is the last of n + 1 rows
pub rows-put : (w n : ℕ) (l row : List ℕ) → w * n + w ≤ length l → length row ≡ w → rows_of w (n + 1) (put l (w * n) row) ≡ rows_of w n l ++ (row ∷ [])
rows-put w n l row h s =
    let after = row ++ drop (w * n + length row) l in
    let f : length (take (w * n) l) ≡ w * n = length-take-le (w * n) l (omega arith) in
    let last : take w (drop (w * n) (put l (w * n) row)) ≡ row = ap (take w) (drop_at (take (w * n) l) after (w * n) f) ∙ take_at row (drop (w * n + length row) l) w s in
    rw (add-one n) (rows_snoc w n (put l (w * n) row))
    ∙ ap₂ (λ (rs : List (List ℕ)) (r : List ℕ). rs ++ (r ∷ [])) (rows_front w n l after (omega arith)) last

pub length-put : (l : List ℕ) (at : ℕ) (row : List ℕ) → at + length row ≤ length l → length (put l at row) ≡ length l
length-put l at row h =
    let f : at ≤ length l = omega arith in
    rw (length-append (take at l) (row ++ drop (at + length row) l), length-append row (drop (at + length row) l), length-take-le at l f, length-drop (at + length row) l) (omega arith)

-- ---- a list whose part from base on was replaced

-- lists that agree from a on have the same n numbers there
window : (n a : ℕ) (l m : List ℕ) → length l ≡ length m → ((i : ℕ) → a ≤ i → i < a + n → get_or l i 0 ≡ get_or m i 0) → take n (drop a l) ≡ take n (drop a m)
window n a l m e h =
    ext_get_or 0 (take n (drop a l)) (take n (drop a m)) (simp (length-take, length-drop) (rw e))
    (λ i b. let c : i < n = omega (arith, length-take n (drop a l), min-le_left n (length (drop a l))) in
    get_or-take n (drop a l) i 0 c ∙ get_or-drop a l i 0 ∙ h (a + i) (omega arith) (omega arith) ∙ sym (get_or-take n (drop a m) i 0 c ∙ get_or-drop a m i 0))

module _ (l new : List ℕ) (base size : ℕ) (fits : base + size ≤ length l) (same : length new ≡ size) where
  front : length (take base l) ≡ base
  front = length-take-le base l (omega arith)

  both : length (take base l ++ new) ≡ base + size
  both = length-append (take base l) new ∙ rw (front, same)

  pub replaced_length : length (take base l ++ (new ++ drop (base + size) l)) ≡ length l
  replaced_length =
      rw (length-append (take base l) (new ++ drop (base + size) l), length-append new (drop (base + size) l), front, same, length-drop (base + size) l) (omega arith)

  pub replaced_here : take size (drop base (take base l ++ (new ++ drop (base + size) l))) ≡ new
  replaced_here = ap (take size) (drop_at (take base l) (new ++ drop (base + size) l) base front) ∙ take_at new (drop (base + size) l) size same

  -- a number before it, one in it, and one after it
  pub before_it : (i : ℕ) → i < base → get_or (take base l ++ (new ++ drop (base + size) l)) i 0 ≡ get_or l i 0
  before_it i h = get_or-append (take base l) (new ++ drop (base + size) l) 0 i (rw front h) ∙ get_or-take base l i 0 h

  pub inside_it : (i : ℕ) → i < size → get_or (take base l ++ (new ++ drop (base + size) l)) (base + i) 0 ≡ get_or new i 0
  inside_it i h =
      sym (get_or-drop base (take base l ++ (new ++ drop (base + size) l)) i 0)
      ∙ sym (get_or-take size (drop base (take base l ++ (new ++ drop (base + size) l))) i 0 h)
      ∙ ap (λ (x : List ℕ). get_or x i 0) replaced_here

  pub after_it : (i : ℕ) → base + size ≤ i → get_or (take base l ++ (new ++ drop (base + size) l)) i 0 ≡ get_or l i 0
  after_it i h =
      let e : i ≡ base + size + (i - (base + size)) = omega arith in
      let f : i ≡ length (take base l ++ new) + (i - (base + size)) = rw both e in
      ap (λ (x : List ℕ). get_or x i 0) (sym (append_assoc (take base l) new (drop (base + size) l)))
      ∙ ap (λ (k : ℕ). get_or (take base l ++ new ++ drop (base + size) l) k 0) f
      ∙ get_or-append-add (take base l ++ new) (drop (base + size) l) (i - (base + size)) 0
      ∙ get_or-drop (base + size) l (i - (base + size)) 0
      ∙ ap (λ (k : ℕ). get_or l k 0) (sym e)

  -- a part that ends before it, and one that begins after it
  pub replaced_before : (n a : ℕ) → a + n ≤ base → take n (drop a (take base l ++ (new ++ drop (base + size) l))) ≡ take n (drop a l)
  replaced_before n a h = window n a _ l replaced_length (λ i lo hi. before_it i (omega arith))

  pub replaced_after : (n a : ℕ) → base + size ≤ a → take n (drop a (take base l ++ (new ++ drop (base + size) l))) ≡ take n (drop a l)
  replaced_after n a h = window n a _ l replaced_length (λ i lo hi. after_it i (omega arith))

-- what a slice holds once its part of size numbers from base on, which a callee left as new, has come back
pub lent_back : (base size : ℕ) (l new : List ℕ) → put_mid base (base + size - base) l new ≡ take base l ++ (new ++ drop (base + size) l)
lent_back base size l new = ap (λ (z : List ℕ). take base l ++ (new ++ z)) (Post-is base (base + size) l (omega arith))

-- a row that was copied into the part that it was lent
pub lent_row : (base : ℕ) (l row : List ℕ) {new : List ℕ} → new ≡ row → put_mid base (base + length row - base) l new ≡ put l base row
lent_row base l row {new} e = lent_back base (length row) l new ∙ ap (λ (x : List ℕ). take base l ++ (x ++ drop (base + length row) l)) e

-- a part of w numbers that was lent
pub part_wide : (a w : ℕ) (l : List ℕ) → a + w ≤ length l → length (take (a + w - a) (drop a l)) ≡ w
part_wide a w l h =
    let e : a + w - a ≡ w = omega arith in
    rw e (length-take-le w (drop a l) (simp length-drop (omega arith)))

-- the row numbered k of at most m rows, lent as a part: it has its width, and comes after the first k rows
pub lent_long : (w k m : ℕ) (l : List ℕ) → k < m → length l ≡ m * w → length (take (w * k + w - w * k) (drop (w * k) l)) ≡ w
lent_long w k m l h e = part_wide (w * k) w l (omega (arith, row_within w k m h, mul_comm w m))

pub rows_more : (w k : ℕ) (l : List ℕ) → rows_of w (k + 1) l ≡ rows_of w k l ++ (take (w * k + w - w * k) (drop (w * k) l) ∷ [])
rows_more w k l =
    let s : w ≡ w * k + w - w * k = omega arith in
    ap (λ (n : ℕ). rows_of w n l) (add-one k) ∙ rows_snoc w k l ∙ ap (λ (n : ℕ). rows_of w k l ++ (take n (drop (w * k) l) ∷ [])) s

-- a room whose first n numbers were lent, and came back as rows
module _ (n : ℕ) (l rows : List ℕ) {new : List ℕ} (same : new ≡ rows) (long : length rows ≡ n) where
  pub lent_front : take (n - 0) (drop 0 (put_mid 0 (n - 0) l new)) ≡ rows
  lent_front = take_at new (drop (n - 0) l) (n - 0) (ap length same ∙ long ∙ sym (sub-zero n)) ∙ same

  pub front_long : length (take (n - 0) (drop 0 (put_mid 0 (n - 0) l new))) ≡ n
  front_long = ap length lent_front ∙ long

  pub front_room : n ≤ length (put_mid 0 (n - 0) l new)
  front_room = rw (length-append new (drop (n - 0) l)) (omega (arith, ap length same))

-- the parts of an area that were lent, as the code cuts them
pub lent_first : (n : ℕ) (l : List ℕ) → take (n - 0) (drop 0 l) ≡ take n l
lent_first n l = rw (sub-zero n)

pub lent_second : (n : ℕ) (l : List ℕ) → take (n + n - n) (drop n l) ≡ take n (drop n l)
lent_second n l = let e : n + n - n ≡ n = omega arith in rw e

-- a part of a part
pub part_of_part : (n a m : ℕ) (l : List ℕ) → a + n ≤ m → take n (drop a (take m l)) ≡ take n (drop a l)
part_of_part n zero m l h = take-take n m l (omega arith)
part_of_part n (suc a) zero l h = absurd (omega arith)
part_of_part n (suc a) (suc m) [] h = refl
part_of_part n (suc a) (suc m) (x ∷ l) h = part_of_part n a m l (omega arith)

-- a row of n numbers, looked for as these numbers
pub whole_row : (n count : ℕ) (part row : List ℕ) {chunk : List ℕ} {found : Bool} → length row ≡ n → chunk ≡ take n (drop 0 row)
    → found ≡ mem same_list chunk (rows_of n count part) → found ≡ mem same_list row (rows_of (length row) count part)
whole_row n count part row e q r = r ∙ ap₂ (λ (x : List ℕ) (w : ℕ). mem same_list x (rows_of w count part)) (q ∙ take_all n row (omega arith)) (sym e)
