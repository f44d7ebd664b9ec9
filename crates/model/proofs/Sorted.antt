-- The rows of a block, sorted: they rise, they are exactly the rows of paths, and a rising list is known by its members.
-- The idea: insertion keeps the order and adds one member; two rising lists with the same members have the same first row.
use mathlib.Core.Path.{◌≡◌, refl, sym, ◌∙◌}
use mathlib.Core.Logic.{◌⊎◌, inl, inr, ◌↔◌}
use mathlib.Core.Bool.{Bool, ◌&&◌, true, false, cond, true≢false, false≢true}
use mathlib.Core.List.{List, [], ◌∷◌}
use Prim.Native.Nat.{ℕ, ◌<◌}
use native.Mathlib.Omega.{arith}
use lib.Dec.{eqb, ltb}
use borrow.Author.Tests.{eqb-true, eq-eqb, ltb-true, ltb-false, lt-ltb, le-ltb}
use Rattle.cache.specs.Cache.{Cache, Policy, one_line}
use Rattle.model.specs.Lists.{mem}
use Rattle.model.specs.Tasks.{Task}
use Rattle.model.specs.States.{ReachesOn, LivesOn, Reaches, Lives}
use Rattle.model.specs.Order.{before, BeforeFirst, Rising}
use Rattle.model.specs.Computed.{same_list, rows_at, insert_row, sorted, reaching_states_on, live_states_on, reaching_on, living_on, reaching, living}
use Rattle.model.proofs.Membership.{or_cases, or_left, or_right, both_left, both_right, same_list_self, same_list_true}
use Rattle.model.proofs.Exact.{any-reaching_exact, any-live_exact}
use Rattle.model.proofs.Policies.{Lawful, one_lawful}
use Rattle.model.proofs.Most.{rows_at_has, rows_at_only}

-- ---- dictionary order

pub before_self : (r : List ℕ) → before r r ≡ false
before_self [] = refl
before_self (x ∷ r) = rw (le-ltb x x (omega arith), eq-eqb x x refl) (before_self r)

data Compared (x y : ℕ) (r s : List ℕ) : Type 0 where
  less : x < y → Compared x y r s
  same : x ≡ y → before r s ≡ true → Compared x y r s

compared : (x y : ℕ) (r s : List ℕ) → before (x ∷ r) (y ∷ s) ≡ true → Compared x y r s
compared x y r s e = elim (or_cases (ltb x y) (eqb x y && before r s) e)
    [ inl p ↦ less (ltb-true x y p) | inr p ↦ same (eqb-true x y (both_left (eqb x y) (before r s) p)) (both_right (eqb x y) (before r s) p) ]

before_less : (x y : ℕ) (r s : List ℕ) → x < y → before (x ∷ r) (y ∷ s) ≡ true
before_less x y r s h = or_left (ltb x y) (eqb x y && before r s) (lt-ltb x y h)

before_same : (x y : ℕ) (r s : List ℕ) → x ≡ y → before r s ≡ true → before (x ∷ r) (y ∷ s) ≡ true
before_same x y r s e h = or_right (ltb x y) (eqb x y && before r s) (rw (eq-eqb x y e) h)

before_trans : (r s u : List ℕ) → before r s ≡ true → before s u ≡ true → before r u ≡ true
before_trans [] [] u p q = absurd (false≢true p)
before_trans [] (y ∷ s) [] p q = absurd (false≢true q)
before_trans [] (y ∷ s) (z ∷ u) p q = refl
before_trans (x ∷ r) [] u p q = absurd (false≢true p)
before_trans (x ∷ r) (y ∷ s) [] p q = absurd (false≢true q)
before_trans (x ∷ r) (y ∷ s) (z ∷ u) p q = go (compared x y r s p) (compared y z s u q) (before_trans r s u)
  where
    go : Compared x y r s → Compared y z s u → (before r s ≡ true → before s u ≡ true → before r u ≡ true) → before (x ∷ r) (z ∷ u) ≡ true
    go (less a) (less b) ih = before_less x z r u (omega arith)
    go (less a) (same b f) ih = before_less x z r u (omega arith)
    go (same a e) (less b) ih = before_less x z r u (omega arith)
    go (same a e) (same b f) ih = before_same x z r u (a ∙ b) (ih e f)

-- two rows, neither before the other, are the same
pub before-total : (r s : List ℕ) → before r s ≡ false → before s r ≡ false → r ≡ s
before-total [] [] p q = refl
before-total [] (y ∷ s) p q = absurd (true≢false p)
before-total (x ∷ r) [] p q = absurd (true≢false q)
before-total (x ∷ r) (y ∷ s) p q = go (ltb x y) (ltb y x) refl refl (before-total r s)
  where
    go : (a b : Bool) → ltb x y ≡ a → ltb y x ≡ b → (before r s ≡ false → before s r ≡ false → r ≡ s) → x ∷ r ≡ y ∷ s
    go true b e f ih = absurd (true≢false (sym (or_left (ltb x y) (eqb x y && before r s) e) ∙ p))
    go false true e f ih = absurd (true≢false (sym (or_left (ltb y x) (eqb y x && before s r) f) ∙ q))
    go false false e f ih =
        let z : x ≡ y = omega (arith, ltb-false x y e, ltb-false y x f) in
        rw (z, ih (rw (e, eq-eqb x y z) at p) (rw (f, eq-eqb y x (sym z)) at q))

-- ---- insertion

first_insert : (x r : List ℕ) (xs : List (List ℕ)) → before x r ≡ true → BeforeFirst x xs → BeforeFirst x (insert_row r xs)
first_insert x r [] e h = e
first_insert x r (y ∷ ys) e h = go (before r y) (before y r)
  where
    go : (a b : Bool) → BeforeFirst x (cond a (r ∷ y ∷ ys) (cond b (y ∷ insert_row r ys) (y ∷ ys)))
    go true b = e
    go false true = h
    go false false = h

insert_rising : (r : List ℕ) (xs : List (List ℕ)) → Rising xs → Rising (insert_row r xs)
insert_rising r [] h = (tt, tt)
insert_rising r (x ∷ xs) h = go (before r x) (before x r) refl refl (insert_rising r xs h.1)
  where
    go : (a b : Bool) → before r x ≡ a → before x r ≡ b → Rising (insert_row r xs) → Rising (cond a (r ∷ x ∷ xs) (cond b (x ∷ insert_row r xs) (x ∷ xs)))
    go true b e f ih = (e, h)
    go false true e f ih = (first_insert x r xs f h.0, ih)
    go false false e f ih = h

insert_has : (r : List ℕ) (xs : List (List ℕ)) (y : List ℕ) → (same_list y r ≡ true) ⊎ (mem same_list y xs ≡ true) → mem same_list y (insert_row r xs) ≡ true
insert_has r [] y (inl p) = or_left (same_list y r) false p
insert_has r [] y (inr p) = absurd (false≢true p)
insert_has r (x ∷ xs) y h = go (before r x) (before x r) refl refl h (insert_has r xs y)
  where
    go : (a b : Bool) → before r x ≡ a → before x r ≡ b → (same_list y r ≡ true) ⊎ (mem same_list y (x ∷ xs) ≡ true)
        → ((same_list y r ≡ true) ⊎ (mem same_list y xs ≡ true) → mem same_list y (insert_row r xs) ≡ true)
        → mem same_list y (cond a (r ∷ x ∷ xs) (cond b (x ∷ insert_row r xs) (x ∷ xs))) ≡ true
    go true b e f (inl p) ih = or_left (same_list y r) (mem same_list y (x ∷ xs)) p
    go true b e f (inr p) ih = or_right (same_list y r) (mem same_list y (x ∷ xs)) p
    go false true e f (inl p) ih = or_right (same_list y x) (mem same_list y (insert_row r xs)) (ih (inl p))
    go false true e f (inr p) ih =
        elim (or_cases (same_list y x) (mem same_list y xs) p)
        [ inl q ↦ or_left (same_list y x) (mem same_list y (insert_row r xs)) q | inr q ↦ or_right (same_list y x) (mem same_list y (insert_row r xs)) (ih (inr q)) ]
    go false false e f (inl p) ih = or_left (same_list y x) (mem same_list y xs) (rw (before-total r x e f) at p)
    go false false e f (inr p) ih = p

insert_only : (r : List ℕ) (xs : List (List ℕ)) (y : List ℕ) → mem same_list y (insert_row r xs) ≡ true → (same_list y r ≡ true) ⊎ (mem same_list y xs ≡ true)
insert_only r [] y e = or_cases (same_list y r) false e
insert_only r (x ∷ xs) y e = go (before r x) (before x r) e (insert_only r xs y)
  where
    go : (a b : Bool) → mem same_list y (cond a (r ∷ x ∷ xs) (cond b (x ∷ insert_row r xs) (x ∷ xs))) ≡ true
        → (mem same_list y (insert_row r xs) ≡ true → (same_list y r ≡ true) ⊎ (mem same_list y xs ≡ true)) → (same_list y r ≡ true) ⊎ (mem same_list y (x ∷ xs) ≡ true)
    go true b e ih = or_cases (same_list y r) (mem same_list y (x ∷ xs)) e
    go false true e ih = elim (or_cases (same_list y x) (mem same_list y (insert_row r xs)) e) [
      | inl q ↦ inr (or_left (same_list y x) (mem same_list y xs) q)
      | inr q ↦ elim (ih q) [ inl w ↦ inl w | inr w ↦ inr (or_right (same_list y x) (mem same_list y xs) w) ]
    ]
    go false false e ih = inr e

pub sorted-rising : (xs : List (List ℕ)) → Rising (sorted xs)
sorted-rising [] = tt
sorted-rising (x ∷ xs) = insert_rising x (sorted xs) (sorted-rising xs)

pub sorted_has : (xs : List (List ℕ)) (y : List ℕ) → mem same_list y xs ≡ true → mem same_list y (sorted xs) ≡ true
sorted_has [] y e = e
sorted_has (x ∷ xs) y e =
    insert_has x (sorted xs) y (elim (or_cases (same_list y x) (mem same_list y xs) e) [ inl p ↦ inl p | inr p ↦ inr (sorted_has xs y p) ])

pub sorted_only : (xs : List (List ℕ)) (y : List ℕ) → mem same_list y (sorted xs) ≡ true → mem same_list y xs ≡ true
sorted_only [] y e = e
sorted_only (x ∷ xs) y e =
    elim (insert_only x (sorted xs) y e) [ inl p ↦ or_left (same_list y x) (mem same_list y xs) p | inr p ↦ or_right (same_list y x) (mem same_list y xs) (sorted_only xs y p) ]

-- ---- a rising list is known by its members

pub below_all : (x : List ℕ) (xs : List (List ℕ)) → BeforeFirst x xs → Rising xs → (y : List ℕ) → mem same_list y xs ≡ true → before x y ≡ true
below_all x [] b r y e = absurd (false≢true e)
below_all x (z ∷ xs) b r y e = elim (or_cases (same_list y z) (mem same_list y xs) e)
    [ inl p ↦ rw (same_list_true y z p) b | inr p ↦ before_trans x z y b (below_all z xs r.0 r.1 y p) ]

Within : List (List ℕ) → List (List ℕ) → Type 0
Within l m = (y : List ℕ) → mem same_list y l ≡ true → mem same_list y m ≡ true

first_same : (x y : List ℕ) (xs ys : List (List ℕ)) → Rising (x ∷ xs) → Rising (y ∷ ys) → mem same_list x (y ∷ ys) ≡ true → mem same_list y (x ∷ xs) ≡ true → x ≡ y
first_same x y xs ys h g p q = go (or_cases (same_list x y) (mem same_list x ys) p) (or_cases (same_list y x) (mem same_list y xs) q)
  where
    go : (same_list x y ≡ true) ⊎ (mem same_list x ys ≡ true) → (same_list y x ≡ true) ⊎ (mem same_list y xs ≡ true) → x ≡ y
    go (inl a) b = same_list_true x y a
    go (inr a) (inl b) = sym (same_list_true y x b)
    go (inr a) (inr b) =
        absurd (true≢false (sym (before_trans x y x (below_all x xs h.0 h.1 y b) (below_all y ys g.0 g.1 x a)) ∙ before_self x))

rest-within : (x : List ℕ) (xs ys : List (List ℕ)) → Rising (x ∷ xs) → Within (x ∷ xs) (x ∷ ys) → Within xs ys
unfolding Within
rest-within x xs ys h w y e = elim (or_cases (same_list y x) (mem same_list y ys) (w y (or_right (same_list y x) (mem same_list y xs) e)))
    [ inl p ↦ absurd (true≢false (sym (below_all x xs h.0 h.1 y e) ∙ rw (same_list_true y x p) (before_self x))) | inr p ↦ p ]

pub rising_unique : (l m : List (List ℕ)) → Rising l → Rising m → ((y : List ℕ) → (mem same_list y l ≡ true) ↔ (mem same_list y m ≡ true)) → l ≡ m
unfolding Within
rising_unique [] [] h g w = refl
rising_unique [] (y ∷ ys) h g w = absurd (false≢true ((w y).1 (or_left (same_list y y) (mem same_list y ys) (same_list_self y))))
rising_unique (x ∷ xs) [] h g w = absurd (false≢true ((w x).0 (or_left (same_list x x) (mem same_list x xs) (same_list_self x))))
rising_unique (x ∷ xs) (y ∷ ys) h g w =
    go (first_same x y xs ys h g ((w x).0 (or_left (same_list x x) (mem same_list x xs) (same_list_self x))) ((w y).1 (or_left (same_list y y) (mem same_list y ys) (same_list_self y))))
    (rising_unique xs ys h.1 g.1)
  where
    go : x ≡ y → (((z : List ℕ) → (mem same_list z xs ≡ true) ↔ (mem same_list z ys ≡ true)) → xs ≡ ys) → x ∷ xs ≡ y ∷ ys
    go e ih =
        let tails = ih (λ z. (rest-within x xs ys h (λ y' p. rw (← e) at ((w y').0 p)) z, rest-within x ys xs (rw (← e) at g) (λ y' p. (w y').1 (rw e at p)) z)) in
        rw (e, tails)

-- ---- the reaching and the live states of a block

module _ (k : Policy) (law : Lawful k) (t : Task) (b : ℕ) where
  -- a row is listed exactly when some path makes it
  pub any-reaching-rows : (row : List ℕ) → (mem same_list row (reaching_on k t b) ≡ true) ↔ ReachesOn k t b row
  any-reaching-rows row = (
    λ e. (any-reaching_exact k law t b row).0 (rows_at_only b row (reaching_states_on k t) (sorted_only (rows_at b (reaching_states_on k t)) row e)),
    λ h. sorted_has (rows_at b (reaching_states_on k t)) row (rows_at_has b row (reaching_states_on k t) ((any-reaching_exact k law t b row).1 h)),
  )

  pub any-living-rows : (row : List ℕ) → (mem same_list row (living_on k t b) ≡ true) ↔ LivesOn k t b row
  any-living-rows row = (
    λ e. (any-live_exact k law t b row).0 (rows_at_only b row (live_states_on k t) (sorted_only (rows_at b (live_states_on k t)) row e)),
    λ h. sorted_has (rows_at b (live_states_on k t)) row (rows_at_has b row (live_states_on k t) ((any-live_exact k law t b row).1 h)),
  )

  -- in dictionary order, free of repetition
  pub any-reaching-rising : Rising (reaching_on k t b)
  any-reaching-rising = sorted-rising (rows_at b (reaching_states_on k t))

  pub any-living-rising : Rising (living_on k t b)
  any-living-rising = sorted-rising (rows_at b (live_states_on k t))

-- ---- document 01's cache

module _ (k : Cache) (t : Task) (b : ℕ) where
  pub reaching-rows : (row : List ℕ) → (mem same_list row (reaching k t b) ≡ true) ↔ Reaches k t b row
  reaching-rows = any-reaching-rows (one_line k) (one_lawful k) t b

  pub living-rows : (row : List ℕ) → (mem same_list row (living k t b) ≡ true) ↔ Lives k t b row
  living-rows = any-living-rows (one_line k) (one_lawful k) t b

  pub reaching-rising : Rising (reaching k t b)
  reaching-rising = any-reaching-rising (one_line k) (one_lawful k) t b

  pub living-rising : Rising (living k t b)
  living-rising = any-living-rising (one_line k) (one_lawful k) t b
