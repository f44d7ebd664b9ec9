-- Check 12 in the code's words: a turn of the loop over the preemptions, and the answers of each function.
-- The idea: what is left of the numbers keeps the rules just where the whole does.
use mathlib.Core.Path.{◌≡◌, refl, sym, ap, ◌∙◌}
use mathlib.Core.Bool.{Bool, true, false, not, ◌&&◌, cond}
use mathlib.Core.List.{List, [], ◌∷◌}
use Prim.Native.Nat.{ℕ, zero, suc, ◌+◌, ◌-◌, ◌≤◌, ◌<◌}
use native.Mathlib.Numerals.{add-one}
use native.Mathlib.Omega.{arith}
use lib.Dec.{eqb, ltb, leb}
use lib.ListN.{length, get_or, take, drop, length-drop, length-take, drop_of_length-le}
use lib.Seq.{drop-cons, drop-drop, take_all}
use borrow.Author.Tests.{eqb-true, eqb-false, eq-eqb, ne_eqb, lt-ltb, le-ltb, le-leb, lt-leb}
use Rattle.model.specs.Runs.{Preemption}
use Rattle.model.proofs.Membership.{both_right}
use Rattle.sheet.specs.Parsed.{ParsedList, broken_list, parsed_list, with_preemption, path_test, not_before, preemption_test, preemptions_from, broken, with_path, after_path, parse, kept_list, kept_sheet, list_test}
use Rattle.sheet.proofs.Parsing.{path-there}

-- ---- two points

pub point_before : (i d j e : ℕ) → i < j → true ≡ not_before i d j e
point_before i d j e h = rw (lt-ltb i j h)

pub point_beside : (i d j e : ℕ) → j ≤ i → i ≡ j → leb d e ≡ not_before i d j e
point_beside i d j e h q = rw (le-ltb i j h, eq-eqb i j q)

pub point_behind : (i d j e : ℕ) → j ≤ i → (i ≡ j → ⊥) → false ≡ not_before i d j e
point_behind i d j e h q = rw (le-ltb i j h, ne_eqb i j q)

-- ---- one preemption, where x, d and y are the numbers of its position, its references done and its task

module _ (t p long low low_done position done by k : ℕ) (rest : List ℕ) {x d y : ℕ} (ex : x ≡ position) (ed : d ≡ done) (ey : y ≡ by) {b : Bool} (eb : b ≡ not_before low low_done x d) where
  rises : not_before low low_done position done ≡ b
  rises = sym (eb ∙ rw (ex, ed))

  pub test_low : b ≡ false → false ≡ preemption_test t p long low low_done position done by k rest
  test_low a = rw (rises ∙ a)

  pub test_outside : b ≡ true → long ≤ x → false ≡ preemption_test t p long low low_done position done by k rest
  test_outside a o =
      let o' : long ≤ position = omega arith in
      rw (rises ∙ a, le-ltb position long o')

  pub test_absent : b ≡ true → x < long → t ≤ y → false ≡ preemption_test t p long low low_done position done by k rest
  test_absent a o c =
      let o' : position < long = omega arith in
      let c' : t ≤ by = omega arith in
      rw (rises ∙ a, lt-ltb position long o', le-ltb by t c')

  pub test_own : b ≡ true → x < long → y < t → y ≡ p → false ≡ preemption_test t p long low low_done position done by k rest
  test_own a o c q =
      let o' : position < long = omega arith in
      let c' : by < t = omega arith in
      let q' : by ≡ p = omega arith in
      rw (rises ∙ a, lt-ltb position long o', lt-ltb by t c', eq-eqb by p q')

  pub test_path : {r : Bool} → b ≡ true → x < long → y < t → (y ≡ p → ⊥) → r ≡ path_test k rest → r ≡ preemption_test t p long low low_done position done by k rest
  test_path a o c q e =
      let o' : position < long = omega arith in
      let c' : by < t = omega arith in
      rw (rises ∙ a, lt-ltb position long o', lt-ltb by t c', ne_eqb by p (λ g. q (ey ∙ g))) e

-- the path of k blocks, in the part of the numbers from `from` on
pub path_in_part : (s : List ℕ) (from k : ℕ) {x : ℕ} {r : Bool} → x ≡ k → r ≡ path_test x (take (length s - from) (drop from s)) → r ≡ path_test k (drop from s)
path_in_part s from k e q = q ∙ rw (e, take_all (length s - from) (drop from s) (omega (arith, length-drop from s)))

-- ---- numbers at the beginning of what is left

pub heads : (s : List ℕ) (at : ℕ) → at + 4 ≤ length s
    → drop at s ≡ get_or s at 0 ∷ get_or s (at + 1) 0 ∷ get_or s (at + 2) 0 ∷ get_or s (at + 3) 0 ∷ drop (at + 4) s
heads s at h =
    let a : at + 1 ≡ suc at = omega arith in
    let b : at + 2 ≡ suc (suc at) = omega arith in
    let c : at + 3 ≡ suc (suc (suc at)) = omega arith in
    let d : at + 4 ≡ suc (suc (suc (suc at))) = omega arith in
    rw (
      a,
      b,
      c,
      d,
      drop-cons s at 0 (omega arith),
      drop-cons s (suc at) 0 (omega arith),
      drop-cons s (suc (suc at)) 0 (omega arith),
      drop-cons s (suc (suc (suc at))) 0 (omega arith),
    )

pub head : (s : List ℕ) (at : ℕ) → at < length s → drop at s ≡ get_or s at 0 ∷ drop (at + 1) s
head s at h = drop-cons s at 0 h ∙ ap (λ i. get_or s at 0 ∷ drop i s) (sym (add-one at))

kept_more : (x : Preemption) (d : ParsedList) → kept_list (with_preemption x d) ≡ kept_list d
kept_more x broken_list = refl
kept_more x (parsed_list xs) = refl

kept_run : (p : ℕ) (path : List ℕ) (d : ParsedList) → kept_sheet (with_path p path d) ≡ kept_list d
kept_run p path broken_list = refl
kept_run p path (parsed_list xs) = refl

module _ (t p long : ℕ) where
  -- ---- preemptions

  few : (left low low_done : ℕ) (s : List ℕ) → length s < 4 → kept_list (preemptions_from t p long (suc left) low low_done s) ≡ false
  unfolding preemptions_from
  few left low low_done [] h = refl
  few left low low_done (a ∷ []) h = refl
  few left low low_done (a ∷ b ∷ []) h = refl
  few left low low_done (a ∷ b ∷ c ∷ []) h = refl
  few left low low_done (a ∷ b ∷ c ∷ d ∷ s) h = absurd (omega arith)

  more : (left low low_done position done by k : ℕ) (rest : List ℕ) (b : Bool) → preemption_test t p long low low_done position done by k rest ≡ b
      → kept_list (preemptions_from t p long (suc left) low low_done (position ∷ done ∷ by ∷ k ∷ rest)) ≡ b && kept_list (preemptions_from t p long left position done (drop k rest))
  unfolding preemptions_from
  more left low low_done position done by k rest true e =
      rw e (kept_more (record { position = position; done = done; by = by; path = take k rest }) (preemptions_from t p long left position done (drop k rest)))
  more left low low_done position done by k rest false e = rw e

  module _ (all i low low_done : ℕ) (inside : i < all) (s : List ℕ) (at : ℕ) where
    left_is : all - i ≡ suc (all - (i + 1))
    left_is = omega arith

    pub list-short : at ≤ length s → length s < at + 4 → false ≡ kept_list (preemptions_from t p long (all - i) low low_done (drop at s))
    list-short h g = sym (rw left_is (few (all - (i + 1)) low low_done (drop at s) (simp length-drop (omega arith))))

    -- the test of the preemption that begins at `at`
    abbrev test_at : Bool
    test_at = preemption_test t p long low low_done (get_or s at 0) (get_or s (at + 1) 0) (get_or s (at + 2) 0) (get_or s (at + 3) 0) (drop (at + 4) s)

    turn : at + 4 ≤ length s → (b : Bool) → test_at ≡ b
        → kept_list (preemptions_from t p long (all - i) low low_done (drop at s))
        ≡ b && kept_list (preemptions_from t p long (all - (i + 1)) (get_or s at 0) (get_or s (at + 1) 0) (drop (at + 4 + get_or s (at + 3) 0) s))
    turn h b e =
        rw (left_is, heads s at h, ← (drop-drop (get_or s (at + 3) 0) (at + 4) s))
        (more (all - (i + 1)) low low_done (get_or s at 0) (get_or s (at + 1) 0) (get_or s (at + 2) 0) (get_or s (at + 3) 0) (drop (at + 4) s) b e)

    pub list-broken : at + 4 ≤ length s → {r : Bool} → r ≡ test_at → r ≡ false → false ≡ kept_list (preemptions_from t p long (all - i) low low_done (drop at s))
    list-broken h e q = sym (turn h false (sym e ∙ q))

    module _ (h : at + 4 ≤ length s) {r : Bool} (e : r ≡ test_at) (q : r ≡ true) where
      -- where x, d and y are the numbers of its position, its references done and its path's length
      pub list_turn : {x d y : ℕ} → x ≡ get_or s at 0 → d ≡ get_or s (at + 1) 0 → y ≡ get_or s (at + 3) 0
          → kept_list (preemptions_from t p long (all - (i + 1)) x d (drop (at + 4 + y) s)) ≡ kept_list (preemptions_from t p long (all - i) low low_done (drop at s))
      list_turn ex ed ey = rw (ex, ed, ey) (sym (turn h true (sym e ∙ q)))

      -- the next preemption begins within the numbers
      pub list-within : at + 4 + get_or s (at + 3) 0 ≤ length s
      list-within =
          let k = get_or s (at + 3) 0 in
          let e1 = both_right (not_before low low_done (get_or s at 0) (get_or s (at + 1) 0)) _ (sym e ∙ q) in
          let e2 = both_right (ltb (get_or s at 0) long) _ e1 in
          let e3 = both_right (ltb (get_or s (at + 2) 0) t) _ e2 in
          let e4 = both_right (not (eqb (get_or s (at + 2) 0) p)) _ e3 in
          let there = path-there k (drop (at + 4) s) e4 in
          omega (arith, length-drop (at + 4) s)

  none_left : (low low_done : ℕ) (s : List ℕ) → kept_list (preemptions_from t p long zero low low_done s) ≡ eqb (length s) 0
  unfolding preemptions_from
  none_left low low_done [] = refl
  none_left low low_done (x ∷ s) = sym (ne_eqb (length (x ∷ s)) 0 (λ e. omega arith))

  pub list-end : (all i low low_done : ℕ) (s : List ℕ) (at : ℕ) → all ≤ i → at ≤ length s
      → eqb at (length s) ≡ kept_list (preemptions_from t p long (all - i) low low_done (drop at s))
  list-end all i low low_done s at h l =
      let z : all - i ≡ 0 = omega arith in
      sym (rw z (none_left low low_done (drop at s) ∙ same (eqb at (length s)) refl))
    where
      same : (b : Bool) → eqb at (length s) ≡ b → eqb (length (drop at s)) 0 ≡ b
      same true q = eq-eqb (length (drop at s)) 0 (omega (arith, length-drop at s, eqb-true at (length s) q))
      same false q = ne_eqb (length (drop at s)) 0 (λ e. omega (arith, length-drop at s, eqb-false at (length s) q))

-- ---- the count and the preemptions

after_list : (t p : ℕ) (path s : List ℕ) → kept_sheet (after_path t p path s) ≡ list_test t p (length path) s
unfolding after_path
after_list t p path [] = refl
after_list t p path (count ∷ rest) = go (leb count 16)
  where
    go : (b : Bool)
        → kept_sheet (cond b (with_path p path (preemptions_from t p (length path) count 0 0 rest)) broken) ≡ b && kept_list (preemptions_from t p (length path) count 0 0 rest)
    go true = kept_run p path (preemptions_from t p (length path) count 0 0 rest)
    go false = refl

module _ (t p long : ℕ) (s : List ℕ) (at : ℕ) where
  pub count_none : length s ≤ at → false ≡ list_test t p long (drop at s)
  count_none h = rw (drop_of_length-le s {i = at} h)

  -- where m is the count
  pub count-many : {m : ℕ} → at < length s → m ≡ get_or s at 0 → 16 < m → false ≡ list_test t p long (drop at s)
  count-many h e g = rw (head s at h, ← e, lt-leb _ 16 g)

  pub count-list : {m : ℕ} {r : Bool} → at < length s → m ≡ get_or s at 0 → m ≤ 16 → r ≡ kept_list (preemptions_from t p long m 0 0 (drop (at + 1) s)) → r ≡ list_test t p long (drop at s)
  count-list {m} h e g q = q ∙ sym (rw (head s at h, ← e, le-leb m 16 g))

-- ---- the whole sheet

pub sheet-short : (t : ℕ) (s : List ℕ) → length s < 2 → false ≡ kept_sheet (parse t s)
unfolding parse
sheet-short t [] h = refl
sheet-short t (p ∷ []) h = refl
sheet-short t (p ∷ l ∷ rest) h = absurd (omega arith)

-- where p and l are its first two numbers
module _ (t : ℕ) (s : List ℕ) {p : ℕ} (long : 2 ≤ length s) (ep : p ≡ get_or s 0 0) where
  two_heads : s ≡ p ∷ get_or s 1 0 ∷ drop 2 s
  two_heads = rw ep (go s long)
    where
      go : (s : List ℕ) → 2 ≤ length s → s ≡ get_or s 0 0 ∷ get_or s 1 0 ∷ drop 2 s
      go [] h = absurd (omega arith)
      go (a ∷ []) h = absurd (omega arith)
      go (a ∷ b ∷ rest) h = refl

  pub sheet-task : t ≤ p → false ≡ kept_sheet (parse t s)
  unfolding parse
  sheet-task h = sym (ap (λ l. kept_sheet (parse t l)) two_heads ∙ rw (le-ltb p t h))

  module _ {l : ℕ} {b : Bool} (h : p < t) (el : l ≡ get_or s 1 0) (eb : b ≡ path_test l (take (length s - 2) (drop 2 s))) where
    whole : (b : Bool) → path_test (get_or s 1 0) (drop 2 s) ≡ b
        → kept_sheet (parse t s) ≡ kept_sheet (cond b (after_path t p (take (get_or s 1 0) (drop 2 s)) (drop (get_or s 1 0) (drop 2 s))) broken)
    unfolding parse
    whole b e = ap (λ l. kept_sheet (parse t l)) two_heads ∙ rw (lt-ltb p t h, e)

    test : path_test (get_or s 1 0) (drop 2 s) ≡ b
    test = sym (path_in_part s 2 (get_or s 1 0) el eb)

    pub sheet-path : b ≡ false → false ≡ kept_sheet (parse t s)
    sheet-path q = sym (whole false (test ∙ q))

    pub path-within : b ≡ true → 2 + l ≤ length s
    path-within q = omega (arith, path-there (get_or s 1 0) (drop 2 s) (test ∙ q), length-drop 2 s)

    pub sheet-list : {r : Bool} → b ≡ true → r ≡ list_test t p l (drop (2 + l) s) → r ≡ kept_sheet (parse t s)
    sheet-list q e =
        let there = path-there (get_or s 1 0) (drop 2 s) (test ∙ q) in
        let k : length (take (get_or s 1 0) (drop 2 s)) ≡ l = simp length-take (omega arith) in
        e ∙ sym (whole true (test ∙ q) ∙ after_list t p (take (get_or s 1 0) (drop 2 s)) _ ∙ rw (k, ← el, drop-drop l 2 s))
