-- Lists of rows without repetition: one row more, no longer than a list that has all their rows, as long as when sorted.
-- A row is taken out of the longer list for each row of the shorter; insertion of a row that is not there adds one.
use mathlib.Core.Path.{◌≡◌, refl, sym, ap, ◌∙◌}
use mathlib.Core.Logic.{◌⊎◌, inl, inr}
use mathlib.Core.Bool.{Bool, true, false, ◌||◌, cond, true≢false, false≢true}
use mathlib.Core.List.{List, [], ◌∷◌, ◌++◌}
use Prim.Native.Nat.{ℕ, zero, suc, ◌≤◌, ◌<◌}
use native.Mathlib.Omega.{arith}
use lib.ListN.{length, get_or, length-append, get_or-append}
use Rattle.model.specs.Lists.{mem}
use Rattle.model.specs.Order.{before}
use Rattle.model.specs.Computed.{same_list, insert_row, sorted}
use Rattle.model.proofs.Membership.{or_cases, or_left, or_right, same_list_self, same_list_true, mem_append_left, mem_append_right, mem-append_cases}
use Rattle.model.proofs.Sorted.{before-total, sorted_only}
use Rattle.gather.specs.Memory.{with_row}

-- no row is there twice
abbrev pub Distinct : List (List ℕ) → Type 0
Distinct [] = Unit {0}
Distinct (x ∷ l) = (mem same_list x l ≡ false) × Distinct l

or-none : (a b : Bool) → (a || b) ≡ false → (a ≡ false) × (b ≡ false)
or-none true b e = absurd (true≢false e)
or-none false b e = (refl, e)

pub not_true : (b : Bool) → (b ≡ true → ⊥) → b ≡ false
not_true true h = absurd (h refl)
not_true false h = refl

-- ---- rows and their numbers

pub mem_get_d : (l : List (List ℕ)) (k : ℕ) → k < length l → mem same_list (get_or l k []) l ≡ true
mem_get_d [] k h = absurd (omega arith)
mem_get_d (x ∷ l) zero h = or_left (same_list x x) (mem same_list x l) (same_list_self x)
mem_get_d (x ∷ l) (suc k) h = or_right (same_list (get_or l k []) x) (mem same_list (get_or l k []) l) (mem_get_d l k (omega arith))

pub number_of : (x : List ℕ) (l : List (List ℕ)) → mem same_list x l ≡ true → (k : ℕ) × (k < length l) × (get_or l k [] ≡ x)
number_of x [] e = absurd (false≢true e)
number_of x (y ∷ l) e = go (or_cases (same_list x y) (mem same_list x l) e) (number_of x l)
  where
    go : (same_list x y ≡ true) ⊎ (mem same_list x l ≡ true) → (mem same_list x l ≡ true → (k : ℕ) × (k < length l) × (get_or l k [] ≡ x))
        → (k : ℕ) × (k < suc (length l)) × (get_or (y ∷ l) k [] ≡ x)
    go (inl p) ih = (0, omega arith, sym (same_list_true x y p))
    go (inr p) ih = let (k, h, q) = ih p in (suc k, omega arith, q)

-- ---- a row more

mem-last : (r : List ℕ) → mem same_list r (r ∷ []) ≡ true
mem-last r = or_left (same_list r r) false (same_list_self r)

is_last : (x r : List ℕ) → mem same_list x (r ∷ []) ≡ true → x ≡ r
is_last x r e = elim (or_cases (same_list x r) false e) [ inl p ↦ same_list_true x r p | inr p ↦ absurd (false≢true p) ]

distinct_snoc : (r : List ℕ) (l : List (List ℕ)) → mem same_list r l ≡ false → Distinct l → Distinct (l ++ (r ∷ []))
distinct_snoc r [] e d = (refl, tt)
distinct_snoc r (x ∷ l) e d =
    let n = or-none (same_list r x) (mem same_list r l) e in (
      not_true (mem same_list x (l ++ (r ∷ []))) (λ p. elim (mem-append_cases same_list same_list_self same_list_true x l (r ∷ []) p) [
        | inl q ↦ true≢false (sym q ∙ d.0)
        | inr q ↦ true≢false (sym (rw (is_last x r q) (same_list_self r)) ∙ n.0)
      ]),
      distinct_snoc r l n.1 d.1,
    )

module _ (r : List ℕ) (l : List (List ℕ)) where
  pub with_has : (x : List ℕ) → mem same_list x l ≡ true → mem same_list x (with_row r l) ≡ true
  with_has x e = go (mem same_list r l)
    where
      go : (t : Bool) → mem same_list x (cond t l (l ++ (r ∷ []))) ≡ true
      go true = e
      go false = mem_append_left same_list same_list_self same_list_true x l (r ∷ []) e

  pub with_self : mem same_list r (with_row r l) ≡ true
  with_self = go (mem same_list r l) refl
    where
      go : (t : Bool) → mem same_list r l ≡ t → mem same_list r (cond t l (l ++ (r ∷ []))) ≡ true
      go true e = e
      go false e = mem_append_right same_list same_list_self same_list_true r l (r ∷ []) (mem-last r)

  pub with_only : (x : List ℕ) → mem same_list x (with_row r l) ≡ true → (mem same_list x l ≡ true) ⊎ (x ≡ r)
  with_only x e = go (mem same_list r l) e
    where
      go : (t : Bool) → mem same_list x (cond t l (l ++ (r ∷ []))) ≡ true → (mem same_list x l ≡ true) ⊎ (x ≡ r)
      go true p = inl p
      go false p = elim (mem-append_cases same_list same_list_self same_list_true x l (r ∷ []) p) [ inl q ↦ inl q | inr q ↦ inr (is_last x r q) ]

  pub with_distinct : Distinct l → Distinct (with_row r l)
  with_distinct d = go (mem same_list r l) refl
    where
      go : (t : Bool) → mem same_list r l ≡ t → Distinct (cond t l (l ++ (r ∷ [])))
      go true e = d
      go false e = distinct_snoc r l e d

  pub with_get_d : (k : ℕ) → k < length l → get_or (with_row r l) k [] ≡ get_or l k []
  with_get_d k h = go (mem same_list r l)
    where
      go : (t : Bool) → get_or (cond t l (l ++ (r ∷ []))) k [] ≡ get_or l k []
      go true = refl
      go false = get_or-append l (r ∷ []) [] k h

  pub with_length : length l ≤ length (with_row r l)
  with_length = go (mem same_list r l)
    where
      go : (t : Bool) → length l ≤ length (cond t l (l ++ (r ∷ [])))
      go true = omega arith
      go false = omega (arith, length-append l (r ∷ []))

-- ---- a list without repetition is no longer than one that has all its rows

without : List ℕ → List (List ℕ) → List (List ℕ)
without x [] = []
without x (y ∷ m) = cond (same_list x y) m (y ∷ without x m)

without_length : (x : List ℕ) (m : List (List ℕ)) → mem same_list x m ≡ true → length m ≡ suc (length (without x m))
unfolding without
without_length x [] e = absurd (false≢true e)
without_length x (y ∷ m) e = go (same_list x y) e (without_length x m)
  where
    go : (t : Bool) → (t || mem same_list x m) ≡ true → (mem same_list x m ≡ true → length m ≡ suc (length (without x m)))
        → suc (length m) ≡ suc (length (cond t m (y ∷ without x m)))
    go true p ih = refl
    go false p ih = ap suc (ih p)

without_has : (x z : List ℕ) (m : List (List ℕ)) → same_list z x ≡ false → mem same_list z m ≡ true → mem same_list z (without x m) ≡ true
unfolding without
without_has x z [] d e = absurd (false≢true e)
without_has x z (y ∷ m) d e = go (same_list x y) refl (or_cases (same_list z y) (mem same_list z m) e) (without_has x z m d)
  where
    go : (t : Bool) → same_list x y ≡ t → (same_list z y ≡ true) ⊎ (mem same_list z m ≡ true) → (mem same_list z m ≡ true → mem same_list z (without x m) ≡ true)
        → mem same_list z (cond t m (y ∷ without x m)) ≡ true
    go true q (inl p) ih = absurd (true≢false (sym p ∙ rw (← same_list_true x y q) d))
    go true q (inr p) ih = p
    go false q (inl p) ih = or_left (same_list z y) (mem same_list z (without x m)) p
    go false q (inr p) ih = or_right (same_list z y) (mem same_list z (without x m)) (ih p)

pub no_longer : (l m : List (List ℕ)) → Distinct l → ((y : List ℕ) → mem same_list y l ≡ true → mem same_list y m ≡ true) → length l ≤ length m
no_longer [] m d w = omega arith
no_longer (x ∷ l) m d w =
    let here = w x (or_left (same_list x x) (mem same_list x l) (same_list_self x)) in
    let rest = no_longer l (without x m) d.1 (λ y e. without_has x y m (apart y e) (w y (or_right (same_list y x) (mem same_list y l) e))) in
    omega (arith, without_length x m here)
  where
    apart : (y : List ℕ) → mem same_list y l ≡ true → same_list y x ≡ false
    apart y e = not_true (same_list y x) (λ p. true≢false (sym (rw (← same_list_true y x p) e) ∙ d.0))

-- ---- sorting

insert_length : (r : List ℕ) (xs : List (List ℕ)) → mem same_list r xs ≡ false → length (insert_row r xs) ≡ suc (length xs)
insert_length r [] e = refl
insert_length r (x ∷ xs) e =
    let n = or-none (same_list r x) (mem same_list r xs) e in
    go (before r x) (before x r) refl refl n.0 (insert_length r xs n.1)
  where
    go : (a b : Bool) → before r x ≡ a → before x r ≡ b → same_list r x ≡ false → length (insert_row r xs) ≡ suc (length xs)
        → length (cond a (r ∷ x ∷ xs) (cond b (x ∷ insert_row r xs) (x ∷ xs))) ≡ suc (suc (length xs))
    go true b p q d ih = refl
    go false true p q d ih = ap suc ih
    go false false p q d ih = absurd (true≢false (sym (rw (before-total r x p q) (same_list_self x)) ∙ d))

pub sorted-length : (l : List (List ℕ)) → Distinct l → length (sorted l) ≡ length l
sorted-length [] d = refl
sorted-length (x ∷ l) d =
    insert_length x (sorted l) (not_true (mem same_list x (sorted l)) (λ p. true≢false (sym (sorted_only l x p) ∙ d.0)))
    ∙ ap suc (sorted-length l d.1)
