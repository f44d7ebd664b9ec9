-- Numerals and lines: how long they are, and the numeral of a number of two digits or more.
-- The idea: a numeral of few digits is the same with room for one digit more.
use mathlib.Core.Path.{◌≡◌, refl, sym, ap, ap₂, ◌∙◌}
use mathlib.Core.Bool.{Bool, true, false, cond}
use mathlib.Core.List.{List, [], ◌∷◌, ◌++◌}
use Prim.Native.Nat.{ℕ, zero, suc, ◌+◌, ◌-◌, ◌*◌, ◌/◌, ◌%◌, ◌^◌, ◌≤◌, ◌<◌}
use native.Mathlib.Nat.{pow-suc}
use native.Mathlib.Omega.{arith}
use borrow.Author.Tests.{lt-ltb, le-ltb, ltb-false, eq-eqb, ne_eqb}
use lib.Dec.{eqb, ltb}
use native.Mathlib.Numerals.{add-one}
use lib.ListN.{length, get_or, set, length-append}
use Rattle.rows.specs.Append.{put}
use Rattle.rows.proofs.Parts.{length-put}
use Rattle.text.proofs.PutLaws.{put-put, put_one}
use Rattle.text.specs.Text.{digits, decimal, labelled, two_labelled, pair_line, pair_text, row_text, rows_text, head_line, pair_lines, table_text, cache_word, tasks_word, by_word, colon, line_end}

-- ---- numerals

pub decimal_digit : (x : ℕ) → x < 10 → decimal x ≡ (48 + x % 10) ∷ []
unfolding decimal
decimal_digit x h = let e : x ≡ x % 10 = omega arith in rw (lt-ltb x 10 h) (ap (λ (d : ℕ). (48 + d) ∷ []) e)

choose : (b : Bool) (x : List ℕ) {y z : List ℕ} → (b ≡ false → y ≡ z) → cond b x y ≡ cond b x z
choose true x f = refl
choose false x f = f refl

div_less : (k x : ℕ) → x < 10 ^ suc k → x / 10 < 10 ^ k
div_less k x h = omega (arith, pow-suc 10 k)

digits_more : (k x : ℕ) → x < 10 ^ suc k → digits (suc (suc k)) x ≡ digits (suc k) x
digits_more zero x h = choose (ltb x 10) ((48 + x) ∷ []) (λ e. absurd (omega (arith, ltb-false x 10 e)))
digits_more (suc k) x h =
    choose (ltb x 10) ((48 + x) ∷ [])
    (λ e. ap (λ (l : List ℕ). l ++ ((48 + x % 10) ∷ [])) (digits_more k (x / 10) (div_less (suc k) x h)))

pub decimal_more : (x : ℕ) → 10 ≤ x → x < 65536 → decimal x ≡ decimal (x / 10) ++ ((48 + x % 10) ∷ [])
unfolding decimal
decimal_more x h l =
    ap (λ (b : Bool). cond b ((48 + x) ∷ []) (digits 4 (x / 10) ++ ((48 + x % 10) ∷ []))) (le-ltb x 10 h)
    ∙ ap (λ (d : List ℕ). d ++ ((48 + x % 10) ∷ [])) (sym (digits_more 3 (x / 10) (omega arith)))

digits-short : (k x : ℕ) → length (digits k x) ≤ k
digits-short zero x = omega arith
digits-short (suc k) x = go (ltb x 10) (digits-short k (x / 10))
  where
    go : (b : Bool) → length (digits k (x / 10)) ≤ k → length (cond b ((48 + x) ∷ []) (digits k (x / 10) ++ ((48 + x % 10) ∷ []))) ≤ suc k
    go true h = omega arith
    go false h = omega (arith, length-append (digits k (x / 10)) ((48 + x % 10) ∷ []))

decimal-short : (x : ℕ) → length (decimal x) ≤ 5
unfolding decimal
decimal-short x = digits-short 5 x

-- there is room for the digits before the last
pub front_room : (x at room : ℕ) → 10 ≤ x → x < 65536 → at + length (decimal x) ≤ room → at + length (decimal (x / 10)) < room
front_room x at room h fits r =
    omega (arith, ap length (decimal_more x h fits), length-append (decimal (x / 10)) ((48 + x % 10) ∷ []))

-- what storing the last digit leaves, where it is the only one and where others stand before it
pub number-one : (l : List ℕ) (at x : ℕ) {d : ℕ} → x < 10 → at + length (decimal x) ≤ length l → d ≡ 48 + x % 10
    → (at + 1 ≡ at + length (decimal x)) × (set l at d ≡ put l at (decimal x))
number-one l at x h room e =
    let one : length (decimal x) ≡ 1 = ap length (decimal_digit x h) in
    (omega arith, ap (set l at) e ∙ put_one l at (48 + x % 10) (omega arith) ∙ ap (put l at) (sym (decimal_digit x h)))

pub number_more : (l : List ℕ) (at x : ℕ) {d last : ℕ} {l1 : List ℕ} → 10 ≤ x → x < 65536 → at + length (decimal x) ≤ length l → d ≡ 48 + x % 10
    → last ≡ at + length (decimal (x / 10)) → l1 ≡ put l at (decimal (x / 10))
    → (last + 1 ≡ at + length (decimal x)) × (set l1 last d ≡ put l at (decimal x))
number_more l at x {d} {last} {l1} h fits room e el e1 =
    let front = decimal (x / 10) in
    let more = decimal_more x h fits in
    let long : length (decimal x) ≡ length front + 1 = ap length more ∙ length-append front ((48 + x % 10) ∷ []) in
    let room1 : at + length front ≤ length l = omega arith in
    let kept : length (put l at front) ≡ length l = length-put l at front room1 in (
      omega arith,
      ap₂ (λ (p : List ℕ) (k : ℕ). set p k d) e1 el
          ∙ ap (set (put l at front) (at + length front)) e
          ∙ put_one (put l at front) (at + length front) (48 + x % 10) (omega arith)
          ∙ put-put l front at room1 ((48 + x % 10) ∷ [])
          ∙ ap (put l at) (sym more),
    )

-- ---- lines

pub labelled-long : (word : List ℕ) (x : ℕ) → length (labelled word x) ≡ length word + length (decimal x)
unfolding labelled
labelled-long word x = length-append word (decimal x)

pub two_long : (first second : List ℕ) (x y : ℕ) → length (two_labelled first x second y) ≡ length (labelled first x) + length (labelled second y) + 1
unfolding two_labelled
two_long first second x y =
    omega (arith, length-append (labelled first x ++ labelled second y) line_end, length-append (labelled first x) (labelled second y))

pub pair-long : (i j x : ℕ) → length (pair_line i j x) ≡ length (decimal i) + length (labelled by_word j) + length (labelled colon x) + 1
unfolding pair_line
pair-long i j x =
    omega (
      arith,
      length-append (decimal i ++ labelled by_word j ++ labelled colon x) line_end,
      length-append (decimal i ++ labelled by_word j) (labelled colon x),
      length-append (decimal i) (labelled by_word j),
    )

labelled-short : (word : List ℕ) (x : ℕ) → length (labelled word x) ≤ length word + 5
labelled-short word x = omega (arith, labelled-long word x, decimal-short x)

pub two_short : (first second : List ℕ) (x y : ℕ) → length (two_labelled first x second y) ≤ length first + length second + 11
two_short first second x y = omega (arith, two_long first second x y, labelled-short first x, labelled-short second y)

pair-short : (i j x : ℕ) → length (pair_line i j x) ≤ 22
pair-short i j x = omega (arith, pair-long i j x, decimal-short i, labelled-short by_word j, labelled-short colon x)

entry-short : (numbers : List ℕ) (i j : ℕ) → length (pair_text numbers i j) ≤ 22
unfolding pair_text
entry-short numbers i j = go (eqb i j)
  where
    go : (b : Bool) → length (cond b [] (pair_line i j (get_or numbers (8 * i + j) 0))) ≤ 22
    go true = omega arith
    go false = pair-short i j (get_or numbers (8 * i + j) 0)

row-short : (numbers : List ℕ) (i left j : ℕ) → length (row_text numbers i left j) ≤ 22 * left
unfolding row_text
row-short numbers i zero j = omega arith
row-short numbers i (suc left) j =
    omega
    (arith, length-append (pair_text numbers i j) (row_text numbers i left (suc j)), entry-short numbers i j, row-short numbers i left (suc j))

rows_short : (numbers : List ℕ) (t left i : ℕ) → t ≤ 8 → length (rows_text numbers t left i) ≤ 176 * left
unfolding rows_text
rows_short numbers t zero i h = omega arith
rows_short numbers t (suc left) i h =
    omega
    (arith, length-append (row_text numbers i t 0) (rows_text numbers t left (suc i)), row-short numbers i t 0, rows_short numbers t left (suc i) h)

-- 2,048 bytes are room for every table
pub table_short : (n t : ℕ) (numbers : List ℕ) → t ≤ 8 → length (table_text n t numbers) ≤ 2048
table_short n t numbers h =
    omega
    (arith, length-append (head_line n t) (pair_lines t numbers), two_short cache_word tasks_word n t, rows_short numbers t t 0 h)

-- ---- a turn of the loop over tasks: what is left is the first of it, and the rest

pub row_next : (numbers : List ℕ) (i t j : ℕ) → j < t → row_text numbers i (t - j) j ≡ pair_text numbers i j ++ row_text numbers i (t - (j + 1)) (j + 1)
unfolding row_text
row_next numbers i t j h = let e : t - j ≡ suc (t - (j + 1)) = omega arith in rw (e, add-one j)

pub row-none : (numbers : List ℕ) (i t j : ℕ) → t ≤ j → row_text numbers i (t - j) j ≡ []
unfolding row_text
row-none numbers i t j h = let e : t - j ≡ 0 = omega arith in rw e

pub rows_next : (numbers : List ℕ) (t i : ℕ) → i < t → rows_text numbers t (t - i) i ≡ row_text numbers i t 0 ++ rows_text numbers t (t - (i + 1)) (i + 1)
unfolding rows_text
rows_next numbers t i h = let e : t - i ≡ suc (t - (i + 1)) = omega arith in rw (e, add-one i)

pub rows_none : (numbers : List ℕ) (t i : ℕ) → t ≤ i → rows_text numbers t (t - i) i ≡ []
unfolding rows_text
rows_none numbers t i h = let e : t - i ≡ 0 = omega arith in rw e

-- the line of two tasks, and that of the diagonal
pub entry_other : (numbers : List ℕ) (i j : ℕ) → (i ≡ j → ⊥) → pair_text numbers i j ≡ pair_line i j (get_or numbers (8 * i + j) 0)
unfolding pair_text
entry_other numbers i j h = rw (ne_eqb i j h)

pub entry_same : (numbers : List ℕ) (i j : ℕ) → i ≡ j → pair_text numbers i j ≡ []
unfolding pair_text
entry_same numbers i j e = rw (eq-eqb i j e)
