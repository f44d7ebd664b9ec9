-- Checks 12 and 20 of a nested sheet, number by number: the test tells the first number at fault, `exact_12`, `exact_20`, and the numbers before it, read alone,
-- pass or are only too short, `before_fault`.
-- The idea: both sides go over the numbers from the front with the same expectation.
use mathlib.Core.Path.{◌≡◌, refl, sym, ap, ◌∙◌}
use mathlib.Core.Logic.{◌⊎◌, inl, inr, ◌↔◌}
use mathlib.Core.Bool.{Bool, true, false, ◌&&◌, cond, true≢false}
use mathlib.Core.List.{List, [], ◌∷◌, ◌++◌, append-nil}
use Prim.Native.Nat.{ℕ, ◌≤◌, ◌<◌}
use native.Mathlib.Omega.{arith}
use lib.Dec.{eqb, ltb, leb}
use lib.ListN.{length}
use borrow.Author.Tests.{eqb-true, eqb-false, eq-eqb, ltb-true, ltb-false, leb-true, leb-false}
use Rattle.model.specs.Lists.{mem}
use Rattle.sheet.specs.Sheet.{Sheet, longest_path}
use Rattle.nested_sheet.specs.NestedSheet.{deepest}
use Rattle.nested_sheet.specs.FrontToBack.{Next, a_task, a_length, a_block, a_count, a_position, a_done, no_number, tasks_of, at_front, after, after_all, Against12, Against20, NoFault, FirstAgainst, TooShort, Nested12, Nested20}
use Rattle.nested_sheet.specs.Reading.{check_of, first_of, missing, first_fault, sheet_fault}

-- ---- one number

-- the check of a number, in the document's words: 12 where it is against 12, else 20 where it is against 20, else none
data Judged (t : ℕ) (e : Next) (x : ℕ) : ℕ → Type 0 where
  is12 : Against12 t e x → Judged t e x 12
  is20 : Against20 e x → (Against12 t e x → ⊥) → Judged t e x 20
  is_right : (Against12 t e x → ⊥) → (Against20 e x → ⊥) → Judged t e x 0

judged : (t : ℕ) (e : Next) (x : ℕ) → Judged t e x (check_of t e x)
judged t (a_task around) x = go (ltb x t) refl (mem eqb x (tasks_of around)) refl
  where
    go : (b : Bool) → ltb x t ≡ b → (c : Bool) → mem eqb x (tasks_of around) ≡ c → Judged t (a_task around) x (cond b (cond c 20 0) 12)
    go false e c f = is12 (ltb-false x t e)
    go true e true f = is20 f (λ l. omega (arith, l, ltb-true x t e))
    go true e false f = is_right (λ l. omega (arith, l, ltb-true x t e)) (λ m. true≢false (sym m ∙ f))
judged t (a_length j around) x = go (leb 1 x) refl (leb x longest_path) refl
  where
    go : (b : Bool) → leb 1 x ≡ b → (c : Bool) → leb x longest_path ≡ c → Judged t (a_length j around) x (cond (b && c) 0 12)
    go false e c f = is12 (inl (omega (arith, leb-false 1 x e)))
    go true e false f = is12 (inr (omega (arith, leb-false x longest_path f)))
    go true e true f = is_right neither (λ m. m)
      where
        neither : (x ≡ 0) ⊎ (longest_path < x) → ⊥
        neither (inl z) = omega (arith, z, leb-true 1 x e)
        neither (inr z) = omega (arith, z, leb-true x longest_path f)
judged t (a_block j long left around) x = is_right (λ m. m) (λ m. m)
judged t (a_count j long around) x = go (leb x 16) refl (leb 1 x) refl (eqb (length around) deepest) refl
  where
    go : (b : Bool) → leb x 16 ≡ b → (c : Bool) → leb 1 x ≡ c → (d : Bool) → eqb (length around) deepest ≡ d → Judged t (a_count j long around) x (cond b (cond (c && d) 20 0) 12)
    go false e c f d g = is12 (omega (arith, leb-false x 16 e))
    go true e false f d g = is_right (λ m. omega (arith, m, leb-true x 16 e)) (λ m. omega (arith, m.0, leb-false 1 x f))
    go true e true f false g = is_right (λ m. omega (arith, m, leb-true x 16 e)) (λ m. eqb-false (length around) deepest g m.1)
    go true e true f true g = is20 (omega (arith, leb-true 1 x f), eqb-true (length around) deepest g) (λ m. omega (arith, m, leb-true x 16 e))
judged t (a_position a around) x = go (ltb x a.long) refl (leb a.position x) refl
  where
    go : (b : Bool) → ltb x a.long ≡ b → (c : Bool) → leb a.position x ≡ c → Judged t (a_position a around) x (cond (b && c) 0 12)
    go false e c f = is12 (inl (ltb-false x a.long e))
    go true e false f = is12 (inr (omega (arith, leb-false a.position x f)))
    go true e true f = is_right neither (λ m. m)
      where
        neither : (a.long ≤ x) ⊎ (x < a.position) → ⊥
        neither (inl z) = omega (arith, z, ltb-true x a.long e)
        neither (inr z) = omega (arith, z, leb-true a.position x f)
judged t (a_done i a around) x = go (eqb i a.position) refl (ltb x a.done) refl
  where
    go : (b : Bool) → eqb i a.position ≡ b → (c : Bool) → ltb x a.done ≡ c → Judged t (a_done i a around) x (cond (b && c) 12 0)
    go false e c f = is_right (λ m. eqb-false i a.position e m.0) (λ m. m)
    go true e false f = is_right (λ m. omega (arith, m.1, ltb-false x a.done f)) (λ m. m)
    go true e true f = is12 (eqb-true i a.position e, ltb-true x a.done f)
judged t no_number x = is12 tt

-- ---- all numbers, from any expectation on

abbrev Only20 : ℕ → Next → ℕ → Type 0
Only20 t e x = Against20 e x × (Against12 t e x → ⊥)

-- what the test says of the list
data Outcome (t : ℕ) (e : Next) (xs : List ℕ) : ℕ → Type 0 where
  first12 : FirstAgainst t (Against12 t) e xs → Outcome t e xs 12
  first20 : FirstAgainst t (Only20 t) e xs → Outcome t e xs 20
  short : NoFault t e xs → (after_all e xs ≡ no_number → ⊥) → Outcome t e xs 12
  passes : NoFault t e xs → after_all e xs ≡ no_number → Outcome t e xs 0

at_once : {t : ℕ} {Against : Next → ℕ → Type 0} {e : Next} (x : ℕ) (xs : List ℕ) → Against e x → FirstAgainst t Against e (x ∷ xs)
at_once x xs h = record { before = []; number = x; behind = xs; stands = refl; none_before = tt; against = h }

later : {t : ℕ} {Against : Next → ℕ → Type 0} {e : Next} (x : ℕ) (xs : List ℕ) → (Against12 t e x → ⊥) → (Against20 e x → ⊥) → FirstAgainst t Against (after e x) xs → FirstAgainst t Against e (x ∷ xs)
later x xs a b f = record {
  before = x ∷ f.before;
  number = f.number;
  behind = f.behind;
  stands = ap (λ (l : List ℕ). x ∷ l) f.stands;
  none_before = (a, b, f.none_before);
  against = f.against;
}

missed : (t : ℕ) (e : Next) → Outcome t e [] (missing e)
missed t (a_task around) = short tt (λ q. omega (arith, ap missing q))
missed t (a_length j around) = short tt (λ q. omega (arith, ap missing q))
missed t (a_block j long left around) = short tt (λ q. omega (arith, ap missing q))
missed t (a_count j long around) = short tt (λ q. omega (arith, ap missing q))
missed t (a_position a around) = short tt (λ q. omega (arith, ap missing q))
missed t (a_done i a around) = short tt (λ q. omega (arith, ap missing q))
missed t no_number = passes tt refl

told : (t : ℕ) (xs : List ℕ) (e : Next) → Outcome t e xs (first_fault t e xs)
told t [] e = missed t e
told t (x ∷ xs) e = go (check_of t e x) (judged t e x) (first_fault t (after e x) xs) (told t xs (after e x))
  where
    go : (c : ℕ) → Judged t e x c → (d : ℕ) → Outcome t (after e x) xs d → Outcome t e (x ∷ xs) (first_of c d)
    go _ (is12 h) d o = first12 (at_once x xs h)
    go _ (is20 h n) d o = first20 (at_once x xs (h, n))
    go _ (is_right a b) _ (first12 f) = first12 (later x xs a b f)
    go _ (is_right a b) _ (first20 f) = first20 (later x xs a b f)
    go _ (is_right a b) _ (short n m) = short (a, b, n) m
    go _ (is_right a b) _ (passes n m) = passes (a, b, n) m

-- ---- the test is what the definitions say

-- numbers without a fault lead on to what comes after them
pub skip : (t : ℕ) (e : Next) (before rest : List ℕ) → NoFault t e before → first_fault t e (before ++ rest) ≡ first_fault t (after_all e before) rest
skip t e [] rest n = refl
skip t e (x ∷ before) rest (a, b, n) = go (check_of t e x) (judged t e x) ∙ skip t (after e x) before rest n
  where
    go : (c : ℕ) → Judged t e x c → first_of c (first_fault t (after e x) (before ++ rest)) ≡ first_fault t (after e x) (before ++ rest)
    go _ (is12 h) = absurd (a h)
    go _ (is20 h m) = absurd (b h)
    go _ (is_right c d) = refl

check_12 : (t : ℕ) (e : Next) (x : ℕ) → Against12 t e x → check_of t e x ≡ 12
check_12 t e x h = go (check_of t e x) (judged t e x)
  where
    go : (c : ℕ) → Judged t e x c → c ≡ 12
    go _ (is12 q) = refl
    go _ (is20 q n) = absurd (n h)
    go _ (is_right a b) = absurd (a h)

check_20 : (t : ℕ) (e : Next) (x : ℕ) → Only20 t e x → check_of t e x ≡ 20
check_20 t e x h = go (check_of t e x) (judged t e x)
  where
    go : (c : ℕ) → Judged t e x c → c ≡ 20
    go _ (is12 q) = absurd (h.1 q)
    go _ (is20 q n) = refl
    go _ (is_right a b) = absurd (b h.0)

-- where numbers without a fault end
end_12 : (e : Next) → (e ≡ no_number → ⊥) → missing e ≡ 12
end_12 (a_task around) h = refl
end_12 (a_length j around) h = refl
end_12 (a_block j long left around) h = refl
end_12 (a_count j long around) h = refl
end_12 (a_position a around) h = refl
end_12 (a_done i a around) h = refl
end_12 no_number h = absurd (h refl)

pub no_fault_end : (t : ℕ) (e : Next) (xs : List ℕ) → NoFault t e xs → first_fault t e xs ≡ missing (after_all e xs)
no_fault_end t e xs n = ap (first_fault t e) (sym (append-nil xs)) ∙ skip t e xs [] n

module _ (t : ℕ) (sheet : Sheet) where
  first_12 : FirstAgainst t (Against12 t) at_front sheet → sheet_fault t sheet ≡ 12
  first_12 f =
      ap (sheet_fault t) f.stands ∙ skip t at_front f.before (f.number ∷ f.behind) f.none_before
      ∙ ap (λ (c : ℕ). first_of c (first_fault t (after (after_all at_front f.before) f.number) f.behind)) (check_12 t (after_all at_front f.before) f.number f.against)

  first_20 : Nested20 t sheet → sheet_fault t sheet ≡ 20
  first_20 f =
      ap (sheet_fault t) f.stands ∙ skip t at_front f.before (f.number ∷ f.behind) f.none_before
      ∙ ap (λ (c : ℕ). first_of c (first_fault t (after (after_all at_front f.before) f.number) f.behind)) (check_20 t (after_all at_front f.before) f.number f.against)

  fault_12 : Nested12 t sheet → sheet_fault t sheet ≡ 12
  fault_12 (inl f) = first_12 f
  fault_12 (inr s) = no_fault_end t at_front sheet s.none ∙ end_12 (after_all at_front sheet) s.missing

  -- what the test says of the sheet
  pub data SheetOutcome : ℕ → Type 0 where
    broken12 : Nested12 t sheet → SheetOutcome 12
    broken20 : Nested20 t sheet → SheetOutcome 20
    kept : NoFault t at_front sheet → after_all at_front sheet ≡ no_number → SheetOutcome 0

  pub sheet-outcome : SheetOutcome (sheet_fault t sheet)
  sheet-outcome = go (sheet_fault t sheet) (told t sheet at_front)
    where
      go : (c : ℕ) → Outcome t at_front sheet c → SheetOutcome c
      go _ (first12 f) = broken12 (inl f)
      go _ (first20 f) = broken20 f
      go _ (short n m) = broken12 (inr (record { none = n; missing = m }))
      go _ (passes n m) = kept n m

  -- the test of check 12 agrees with its fault
  pub exact_12 : (eqb (sheet_fault t sheet) 12 ≡ true) ↔ Nested12 t sheet
  exact_12 = (λ e. go (sheet_fault t sheet) sheet-outcome (eqb-true (sheet_fault t sheet) 12 e), λ f. eq-eqb (sheet_fault t sheet) 12 (fault_12 f))
    where
      go : (c : ℕ) → SheetOutcome c → c ≡ 12 → Nested12 t sheet
      go _ (broken12 f) e = f
      go _ (broken20 f) e = absurd (omega (arith, e))
      go _ (kept n m) e = absurd (omega (arith, e))

  -- and so does that of check 20
  pub exact_20 : (eqb (sheet_fault t sheet) 20 ≡ true) ↔ Nested20 t sheet
  exact_20 = (λ e. go (sheet_fault t sheet) sheet-outcome (eqb-true (sheet_fault t sheet) 20 e), λ f. eq-eqb (sheet_fault t sheet) 20 (first_20 f))
    where
      go : (c : ℕ) → SheetOutcome c → c ≡ 20 → Nested20 t sheet
      go _ (broken12 f) e = absurd (omega (arith, e))
      go _ (broken20 f) e = f
      go _ (kept n m) e = absurd (omega (arith, e))

  pub fault_is : (sheet_fault t sheet ≡ 0) ⊎ ((sheet_fault t sheet ≡ 12) ⊎ (sheet_fault t sheet ≡ 20))
  fault_is = go (sheet_fault t sheet) sheet-outcome
    where
      go : (c : ℕ) → SheetOutcome c → (c ≡ 0) ⊎ ((c ≡ 12) ⊎ (c ≡ 20))
      go _ (broken12 f) = inr (inl refl)
      go _ (broken20 f) = inr (inr refl)
      go _ (kept n m) = inl refl

  -- ---- the numbers before the first at fault

  -- read alone, they are a sheet that passes, and the number is one too many, or they have no fault but being too short
  pub before_fault : (Against : Next → ℕ → Type 0) (f : FirstAgainst t Against at_front sheet)
      → ((sheet_fault t f.before ≡ 0) × (after_all at_front f.before ≡ no_number)) ⊎ TooShort t f.before
  before_fault Against f = go (after_all at_front f.before) refl
    where
      missed_12 : (e : Next) → after_all at_front f.before ≡ e → missing e ≡ 12 → TooShort t f.before
      missed_12 e q m = record { none = f.none_before; missing = λ z. omega (arith, m, ap missing (sym q ∙ z)) }

      go : (e : Next) → after_all at_front f.before ≡ e → ((sheet_fault t f.before ≡ 0) × (after_all at_front f.before ≡ no_number)) ⊎ TooShort t f.before
      go (a_task around) q = inr (missed_12 _ q refl)
      go (a_length j around) q = inr (missed_12 _ q refl)
      go (a_block j long left around) q = inr (missed_12 _ q refl)
      go (a_count j long around) q = inr (missed_12 _ q refl)
      go (a_position a around) q = inr (missed_12 _ q refl)
      go (a_done i a around) q = inr (missed_12 _ q refl)
      go no_number q = inl (no_fault_end t at_front f.before f.none_before ∙ ap missing q, q)
