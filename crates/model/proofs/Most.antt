-- The computed `most` is the most over the rows that paths make at the points that its list has, for every count and every two tasks, and there is
-- only one.
-- The idea: a largest value bounds each value and is one of them or 0; the lists hold exactly the rows of paths.
use mathlib.Core.Path.{◌≡◌, refl, sym, ◌∙◌}
use mathlib.Core.Logic.{◌⊎◌, inl, inr, ◌↔◌}
use mathlib.Core.Bool.{Bool, true, false, ◌&&◌, cond, false≢true}
use mathlib.Core.List.{List, [], ◌∷◌}
use Prim.Native.Nat.{ℕ, ◌≤◌, max}
use native.Mathlib.Nat.{le_trans}
use native.Mathlib.Omega.{arith}
use lib.Dec.{eqb, ltb}
use lib.ListN.{length}
use borrow.Author.Tests.{eqb-true, eq-eqb, ltb-true, ltb-false}
use Rattle.cache.specs.Cache.{Cache, Policy, one_line}
use Rattle.cache.specs.Sets.{useful, replaces, useful_replaced, useful_used}
use Rattle.cache.proofs.Sums.{count_le}
use Rattle.model.specs.Lists.{mem, best}
use Rattle.model.specs.Tasks.{Task, block, Unmasked, SomeUnmasked, Done, Allows, AllDone, end}
use Rattle.model.specs.States.{ReachesOn, LivesOn, Reaches, Lives}
use Rattle.model.specs.Numbers.{Count, RowsOn, Rows, counted, MostOn, Most, PairNumber, UsedNumber, NumberAtEnds, NumberOverAll}
use Rattle.model.specs.Computed.{State, same_list, same_state, reaching_states_on, live_states_on, rows_at, entering_on, unmasked, dones, allowed, all_done, done_row_on, left_row_on, most_on, done_row, left_row, most, pair_number, used_number}
use Rattle.model.proofs.Membership.{or_cases, or_left, or_right, eqb_self, one-is, one_has, same_list_self, same_list_true, same_state_self, same_state_true}
use Rattle.model.proofs.Exact.{any-reaching_exact, any-live_exact}
use Rattle.model.proofs.Policies.{Lawful, one_lawful}
use Rattle.model.proofs.Entering.{EntersOn, Enters, any-entering_exact, dones_exact, done_all_lem, any-at_point, any-live_point, any_point_before, any_point_after, point_inside}

-- ---- the largest value

module _ {A : Type 0} (eq : A → A → Bool) (eq_self : (x : A) → eq x x ≡ true) (eq-true : (x y : A) → eq x y ≡ true → x ≡ y) (f : A → ℕ) where
  pub best_le : (x : A) (l : List A) → mem eq x l ≡ true → f x ≤ best f l
  best_le x [] e = absurd (false≢true e)
  best_le x (y ∷ l) e = go (or_cases (eq x y) (mem eq x l) e) (λ q. best_le x l q)
    where
      go : (eq x y ≡ true) ⊎ (mem eq x l ≡ true) → (mem eq x l ≡ true → f x ≤ best f l) → f x ≤ max (f y) (best f l)
      go (inl q) ih = rw (eq-true x y q) (omega arith)
      go (inr q) ih = omega (arith, ih q)

  pub best-attained : (l : List A) → (best f l ≡ 0) ⊎ ((x : A) × (mem eq x l ≡ true) × (f x ≡ best f l))
  best-attained [] = inl refl
  best-attained (y ∷ l) = go (ltb (best f l) (f y)) refl (best-attained l)
    where
      go : (b : Bool) → ltb (best f l) (f y) ≡ b → (best f l ≡ 0) ⊎ ((x : A) × (mem eq x l ≡ true) × (f x ≡ best f l))
          → (max (f y) (best f l) ≡ 0) ⊎ ((x : A) × (mem eq x (y ∷ l) ≡ true) × (f x ≡ max (f y) (best f l)))
      go true h ih = inr (y, or_left (eq y y) (mem eq y l) (eq_self y), omega (arith, ltb-true (best f l) (f y) h))
      go false h (inl z) = inl (omega (arith, ltb-false (best f l) (f y) h))
      go false h (inr (x, p, q)) = inr (x, or_right (eq x y) (mem eq x l) p, omega (arith, ltb-false (best f l) (f y) h))

pub rows_at_has : (b : ℕ) (r : List ℕ) (xs : List State) → mem same_state (b, r) xs ≡ true → mem same_list r (rows_at b xs) ≡ true
rows_at_has b r [] e = absurd (false≢true e)
rows_at_has b r (x ∷ xs) e = go (or_cases (same_state (b, r) x) (mem same_state (b, r) xs) e) (λ q. rows_at_has b r xs q)
  where
    kept : (c : Bool) → mem same_list r (rows_at b xs) ≡ true → mem same_list r (cond c (x.1 ∷ rows_at b xs) (rows_at b xs)) ≡ true
    kept true h = or_right (same_list r x.1) (mem same_list r (rows_at b xs)) h
    kept false h = h

    go : (same_state (b, r) x ≡ true) ⊎ (mem same_state (b, r) xs ≡ true) → (mem same_state (b, r) xs ≡ true → mem same_list r (rows_at b xs) ≡ true)
        → mem same_list r (rows_at b (x ∷ xs)) ≡ true
    go (inl q) ih = rw (← (same_state_true (b, r) x q), eqb_self b) (or_left (same_list r r) (mem same_list r (rows_at b xs)) (same_list_self r))
    go (inr q) ih = kept (eqb x.0 b) (ih q)

pub rows_at_only : (b : ℕ) (r : List ℕ) (xs : List State) → mem same_list r (rows_at b xs) ≡ true → mem same_state (b, r) xs ≡ true
rows_at_only b r [] e = absurd (false≢true e)
rows_at_only b r (x ∷ xs) e = or_swap (go (eqb x.0 b) refl e (rows_at_only b r xs))
  where
    or_swap : (same_state (b, r) x ≡ true) ⊎ (mem same_state (b, r) xs ≡ true) → mem same_state (b, r) (x ∷ xs) ≡ true
    or_swap (inl q) = or_left (same_state (b, r) x) (mem same_state (b, r) xs) q
    or_swap (inr q) = or_right (same_state (b, r) x) (mem same_state (b, r) xs) q

    go : (c : Bool) → eqb x.0 b ≡ c → mem same_list r (cond c (x.1 ∷ rows_at b xs) (rows_at b xs)) ≡ true
        → (mem same_list r (rows_at b xs) ≡ true → mem same_state (b, r) xs ≡ true) → (same_state (b, r) x ≡ true) ⊎ (mem same_state (b, r) xs ≡ true)
    go true h e ih = elim (or_cases (same_list r x.1) (mem same_list r (rows_at b xs)) e) [ inl q ↦ inl (rw (eqb-true x.0 b h, eqb_self b) q) | inr q ↦ inr (ih q) ]
    go false h e ih = inr (ih e)

-- ---- the most over the rows of paths, at the points that the list has

module _ (v : Count) (k : Policy) (law : Lawful k) (i j : Task) (At : ℕ → ℕ → Type 0) (points : ℕ → List ℕ) (agree : (b d : ℕ) → (mem eqb d (points b) ≡ true) ↔ At b d) where
  abbrev end_rows : List (List ℕ)
  end_rows = rows_at (end j) (reaching_states_on k j)

  abbrev over_ends : List ℕ → List ℕ → ℕ
  over_ends r l = best (λ (f : List ℕ). v r l f) end_rows

  abbrev over_live : State → ℕ → ℕ
  over_live x d = best (λ (l : List ℕ). over_ends (done_row_on k i x d) (left_row_on k i x.0 d l)) (rows_at x.0 (live_states_on k i))

  abbrev over_points : State → ℕ
  over_points x = best (over_live x) (points x.0)

  abbrev number : ℕ
  number = most_on v k i j points

  -- any row before the block, any live row after it, any number of references done that the list has
  pub any-rows_le : (b d : ℕ) (e l f : List ℕ) → At b d → EntersOn k law i b e → LivesOn k i b l → ReachesOn k j (end j) f
      → v (done_row_on k i (b, e) d) (left_row_on k i b d l) f ≤ number
  any-rows_le b d e l f at he hl hf =
      le_trans (best_le same_list same_list_self same_list_true (λ (f : List ℕ). v (done_row_on k i (b, e) d) (left_row_on k i b d l) f) f end_rows (rows_at_has (end j) f (reaching_states_on k j) ((any-reaching_exact k law j (end j) f).1 hf)))
      (le_trans (best_le same_list same_list_self same_list_true (λ (l : List ℕ). over_ends (done_row_on k i (b, e) d) (left_row_on k i b d l)) l (rows_at b (live_states_on k i)) (rows_at_has b l (live_states_on k i) ((any-live_exact k law i b l).1 hl)))
      (le_trans (best_le eqb eqb_self eqb-true (over_live (b, e)) d (points b) ((agree b d).1 at))
      (best_le same_state same_state_self same_state_true over_points (b, e) (entering_on k i) ((any-entering_exact k law i b e).1 he))))

  most-bound : (x : RowsOn k i j) → At x.at x.done → counted v x ≤ number
  most-bound x at =
      let b = any_point_before k law i x.at x.done x.reaching x.reaches in
      let a = any_point_after k law i x.at x.done x.live x.lives in
      same_rows x.reaching x.live x.ending _ _ b.same a.same (any-rows_le x.at x.done b.before a.after x.ending at b.enters a.lives x.ends)
    where
      same_rows : (r l f r' l' : List ℕ) → r ≡ r' → l ≡ l' → v r' l' f ≤ number → v r l f ≤ number
      same_rows r l f r' l' er el h = rw (er, el) h

  abbrev Attained : Type 0
  Attained = (number ≡ 0) ⊎ ((x : RowsOn k i j) × At x.at x.done × (counted v x ≡ number))

  attained-ends : (x : State) (d : ℕ) (l : List ℕ) → At x.0 d → EntersOn k law i x.0 x.1 → LivesOn k i x.0 l
      → over_ends (done_row_on k i x d) (left_row_on k i x.0 d l) ≡ number
      → (over_ends (done_row_on k i x d) (left_row_on k i x.0 d l) ≡ 0)
      ⊎ ((f : List ℕ) × (mem same_list f end_rows ≡ true) × (v (done_row_on k i x d) (left_row_on k i x.0 d l) f ≡ over_ends (done_row_on k i x d) (left_row_on k i x.0 d l)))
      → Attained
  attained-ends x d l at he hl e (inl z) = inl (sym e ∙ z)
  attained-ends x d l at he hl e (inr (f, p, q)) =
      inr (
        record {
          at = x.0;
          done = d;
          reaching = done_row_on k i x d;
          live = left_row_on k i x.0 d l;
          ending = f;
          reaches = any-at_point k law i x.0 d x.1 he;
          lives = any-live_point k law i x.0 d l hl;
          ends = (any-reaching_exact k law j (end j) f).0 (rows_at_only (end j) f (reaching_states_on k j) p);
        },
        at,
        q ∙ e,
      )

  attained-live : (x : State) (d : ℕ) → At x.0 d → EntersOn k law i x.0 x.1 → over_live x d ≡ number
      → (over_live x d ≡ 0)
      ⊎ ((l : List ℕ) × (mem same_list l (rows_at x.0 (live_states_on k i)) ≡ true) × (over_ends (done_row_on k i x d) (left_row_on k i x.0 d l) ≡ over_live x d)) → Attained
  attained-live x d at he e (inl z) = inl (sym e ∙ z)
  attained-live x d at he e (inr (l, p, q)) =
      attained-ends x d l at he ((any-live_exact k law i x.0 l).0 (rows_at_only x.0 l (live_states_on k i) p)) (q ∙ e)
      (best-attained same_list same_list_self same_list_true (λ (f : List ℕ). v (done_row_on k i x d) (left_row_on k i x.0 d l) f) end_rows)

  attained-points : (x : State) → EntersOn k law i x.0 x.1 → over_points x ≡ number
      → (over_points x ≡ 0) ⊎ ((d : ℕ) × (mem eqb d (points x.0) ≡ true) × (over_live x d ≡ over_points x)) → Attained
  attained-points x he e (inl z) = inl (sym e ∙ z)
  attained-points x he e (inr (d, p, q)) =
      attained-live x d ((agree x.0 d).0 p) he (q ∙ e)
      (best-attained same_list same_list_self same_list_true (λ (l : List ℕ). over_ends (done_row_on k i x d) (left_row_on k i x.0 d l)) (rows_at x.0 (live_states_on k i)))

  attained-entering : (number ≡ 0) ⊎ ((x : State) × (mem same_state x (entering_on k i) ≡ true) × (over_points x ≡ number)) → Attained
  attained-entering (inl z) = inl z
  attained-entering (inr (x, p, q)) =
      attained-points x ((any-entering_exact k law i x.0 x.1).0 p) q (best-attained eqb eqb_self eqb-true (over_live x) (points x.0))

  pub any-most-is : MostOn v k i j At number
  any-most-is = record { bound = most-bound; attained = attained-entering (best-attained same_state same_state_self same_state_true over_points (entering_on k i)) }

module _ (v : Count) (k : Policy) (law : Lawful k) (i j : Task) (At : ℕ → ℕ → Type 0) where
  -- a most over some points bounds one over fewer
  pub any-most_le : (Fewer : ℕ → ℕ → Type 0) → ((b d : ℕ) → Fewer b d → At b d) → (x y : ℕ) → MostOn v k i j Fewer x → MostOn v k i j At y → x ≤ y
  any-most_le Fewer all x y p q = go p.attained
    where
      go : (x ≡ 0) ⊎ ((rows : RowsOn k i j) × Fewer rows.at rows.done × (counted v rows ≡ x)) → x ≤ y
      go (inl z) = omega arith
      go (inr (rows, at, e)) = omega (arith, q.bound rows (all rows.at rows.done at))

  -- there is only one
  pub any-most_unique : (x y : ℕ) → MostOn v k i j At x → MostOn v k i j At y → x ≡ y
  any-most_unique x y p q = omega (arith, any-most_le At (λ b d h. h) x y p q, any-most_le At (λ b d h. h) y x q p)

-- ---- document 01's cache

module _ (v : Count) (k : Cache) (i j : Task) (At : ℕ → ℕ → Type 0) (points : ℕ → List ℕ) (agree : (b d : ℕ) → (mem eqb d (points b) ≡ true) ↔ At b d) where
  pub rows_le : (b d : ℕ) (e l f : List ℕ) → At b d → Enters k i b e → Lives k i b l → Reaches k j (end j) f
      → v (done_row k i (b, e) d) (left_row k i b d l) f ≤ most v k i j points
  rows_le = any-rows_le v (one_line k) (one_lawful k) i j At points agree

  pub most-is : Most v k i j At (most v k i j points)
  most-is = any-most-is v (one_line k) (one_lawful k) i j At points agree

module _ (v : Count) (k : Cache) (i j : Task) (At : ℕ → ℕ → Type 0) where
  pub most_le : (Fewer : ℕ → ℕ → Type 0) → ((b d : ℕ) → Fewer b d → At b d) → (x y : ℕ) → Most v k i j Fewer x → Most v k i j At y → x ≤ y
  most_le = any-most_le v (one_line k) (one_lawful k) i j At

  pub most_unique : (x y : ℕ) → Most v k i j At x → Most v k i j At y → x ≡ y
  most_unique = any-most_unique v (one_line k) (one_lawful k) i j At

-- ---- over the points of unmasked blocks

pub unmasked_exact : (t : Task) (b : ℕ) → (unmasked t b ≡ true) ↔ Unmasked t b
unmasked_exact t b = (eqb-true (block t b).flags 0, eq-eqb (block t b).flags 0)

-- the numbers of a list at unmasked blocks alone
free_exact : (t : Task) (P : ℕ → ℕ → Type 0) (list : ℕ → List ℕ) → ((b d : ℕ) → (mem eqb d (list b) ≡ true) ↔ P b d) → (b d : ℕ)
    → (mem eqb d (cond (unmasked t b) (list b) []) ≡ true) ↔ (Unmasked t b × P b d)
free_exact t P list h b d = (λ e. only (unmasked t b) refl e, λ (u, p). rw ((unmasked_exact t b).1 u) ((h b d).1 p))
  where
    only : (s : Bool) → unmasked t b ≡ s → mem eqb d (cond s (list b) []) ≡ true → Unmasked t b × P b d
    only true q e = ((unmasked_exact t b).0 q, (h b d).0 e)
    only false q e = absurd (false≢true e)

pub allowed_exact : (t : Task) (b d : ℕ) → (mem eqb d (allowed t b) ≡ true) ↔ Allows t b d
allowed_exact t = free_exact t (λ b d. Done (block t b).references d) (λ b. dones (block t b).references) (λ b d. dones_exact (block t b).references d)

all-done_exact : (t : Task) (b d : ℕ) → (mem eqb d (all_done t b) ≡ true) ↔ AllDone t b d
all-done_exact t b d = (one-is d (length (block t b).references), λ e. rw e (one_has (length (block t b).references)))

pub any-allowed-most : (v : Count) (k : Policy) → Lawful k → (i j : Task) → MostOn v k i j (Allows i) (most_on v k i j (allowed i))
any-allowed-most v k law i j = any-most-is v k law i j (Allows i) (allowed i) (allowed_exact i)

pub allowed-most : (v : Count) (k : Cache) (i j : Task) → Most v k i j (Allows i) (most v k i j (allowed i))
allowed-most v k i j = most-is v k i j (Allows i) (allowed i) (allowed_exact i)

pub pair_is : (k : Cache) (i j : Task) → PairNumber k i j (pair_number k i j)
pair_is k i j = allowed-most (useful_replaced k) k i j

pub used-is : (k : Cache) (i j : Task) → UsedNumber k i j (used_number k i j)
used-is k i j = allowed-most (useful_used k) k i j

-- over the ends of the unmasked blocks alone
abbrev pub unmasked_ends : Task → ℕ → List ℕ
unmasked_ends t b = cond (unmasked t b) (all_done t b) []

pub ends-most : (v : Count) (k : Cache) (i j : Task) → Most v k i j (λ b d. Unmasked i b × AllDone i b d) (most v k i j (unmasked_ends i))
ends-most v k i j = most-is v k i j (λ b d. Unmasked i b × AllDone i b d) (unmasked_ends i) (free_exact i (AllDone i) (all_done i) (all-done_exact i))

pub at-ends-is : (k : Cache) (i j : Task) → NumberAtEnds k i j (most (useful_replaced k) k i j (unmasked_ends i))
at-ends-is k i j = ends-most (useful_replaced k) k i j

pub over_all_is : (k : Cache) (i j : Task) → NumberOverAll k i j (most (useful_used k) k i j (all_done i))
over_all_is k i j = most-is (useful_used k) k i j (AllDone i) (all_done i) (all-done_exact i)

-- no pair number is below the one over block ends
pub ends_le : (k : Cache) (i j : Task) (x : ℕ) → NumberAtEnds k i j x → x ≤ pair_number k i j
ends_le k i j x n =
    most_le (useful_replaced k) k i j (Allows i) (λ (b d : ℕ). Unmasked i b × AllDone i b d) (λ b d (u, e). (u, rw e (done_all_lem (block i b).references))) x (pair_number k i j) n
    (pair_is k i j)

-- no pair number is over the number of places of a row
pub pair_le : (k : Cache) (i j : Task) → pair_number k i j ≤ k.width
pair_le k i j = go (pair_is k i j).attained
  where
    go : (pair_number k i j ≡ 0) ⊎ ((rows : Rows k i j) × Allows i rows.at rows.done × (counted (useful_replaced k) rows ≡ pair_number k i j)) → pair_number k i j ≤ k.width
    go (inl z) = omega arith
    go (inr (rows, free, e)) = omega (arith, e, count_le k.width (λ c. useful rows.reaching rows.live c && replaces rows.ending rows.reaching c))

-- a task with no unmasked block has the number 0
pub masked_zero : (k : Cache) (i j : Task) → (SomeUnmasked i → ⊥) → pair_number k i j ≡ 0
masked_zero k i j none = go (pair_is k i j).attained
  where
    go : (pair_number k i j ≡ 0) ⊎ ((rows : Rows k i j) × Allows i rows.at rows.done × (counted (useful_replaced k) rows ≡ pair_number k i j)) → pair_number k i j ≡ 0
    go (inl z) = z
    go (inr (rows, free, e)) = absurd (none (rows.at, point_inside k i rows.at rows.done rows.reaching rows.reaches, free.0))
