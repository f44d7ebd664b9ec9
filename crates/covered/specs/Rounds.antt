-- Uncovered rows by whole rounds, and Table's check 11 of Point 9, as functions that compute. proofs/States shows that after m rounds each block has
-- exactly the uncovered rows of paths of at most m + 1 blocks, and of ways on of at most m blocks, proofs/Check that the test is that of Covered.
use Rattle.std.specs.Prelude.{Bool, true, false, ◌&&◌, ◌||◌, cond, List, [], ◌∷◌, ◌++◌, ℕ, zero, suc, eqb, length}
use Rattle.cache.specs.Cache.{Cache, Row, one_line}
use Rattle.model.specs.Tasks.{Task}
use Rattle.model.specs.Computed.{State, same_state, nexts, sub, reach_next, reach_start, live_next, live_start, rounds, rows_at, sorted}
use Rattle.gather.specs.Graph.{too_many}
use Rattle.covered.specs.Covered.{within}

-- states: of one block, and the row of the one within that of the other
abbrev pub state_within : State → State → Bool
state_within x y = eqb x.0 y.0 && within x.1 y.1

-- ---- elements that no other is above, over any order

module _ {A : Type 0} (leq : A → A → Bool) where
  -- some element of the list is above x, or is x
  abbrev pub below_some : A → List A → Bool
  below_some x [] = false
  below_some x (y ∷ l) = leq x y || below_some x l

  -- the elements that are not below x
  abbrev pub not_below : A → List A → List A
  not_below x [] = []
  not_below x (y ∷ l) = cond (leq y x) (not_below x l) (y ∷ not_below x l)

  -- one more element, among elements none of which is above another
  abbrev pub add_uncovered : A → List A → List A
  add_uncovered x l = cond (below_some x l) l (x ∷ not_below x l)

  abbrev pub uncovered_of : List A → List A
  uncovered_of [] = []
  uncovered_of (x ∷ l) = add_uncovered x (uncovered_of l)

module _ {A : Type 0} (leq : A → A → Bool) (next : A → List A) (first : List A) where
  -- one round: the first elements, and a step from each that is kept
  abbrev pub next_round : List A → List A
  next_round l = uncovered_of leq (first ++ nexts next l)

  -- what is kept after m rounds of steps
  abbrev pub kept_after : ℕ → List A
  kept_after zero = uncovered_of leq first
  kept_after (suc m) = next_round (kept_after m)

  -- rounds until one changes nothing, at most `fuel` of them
  abbrev pub last_round : (A → A → Bool) → ℕ → List A → List A
  last_round eq zero l = l
  last_round eq (suc fuel) l = elim (sub eq (next_round l) l) [ true ↦ l | false ↦ last_round eq fuel (next_round l) ]

  -- whether some round, of at most `fuel` from l on, has a list that passes the test; the rounds end where one changes nothing
  abbrev pub some_round : (A → A → Bool) → (List A → Bool) → ℕ → List A → Bool
  some_round eq test zero l = test l
  some_round eq test (suc fuel) l = elim (test l) [ true ↦ true | false ↦ elim (sub eq (next_round l) l) [ true ↦ false | false ↦ some_round eq test fuel (next_round l) ] ]

-- ---- rows one after the other

-- rows with one more at the end, unless it is within one of them; and with more rows, one after the other
abbrev pub with_uncovered : Row → List Row → List Row
with_uncovered row l = cond (below_some within row l) l (l ++ (row ∷ []))

abbrev pub keep_all : List Row → List Row → List Row
keep_all l [] = l
keep_all l (x ∷ c) = keep_all (with_uncovered x l) c

-- ---- the rounds of a task

-- the list of a round has more than 32 rows at one of B blocks
abbrev pub full_round : ℕ → List State → Bool
full_round B l = too_many (λ b. sorted (rows_at b l)) B

module _ (k : Cache) (t : Task) where
  abbrev pub reaching_round : ℕ → List State
  reaching_round m = kept_after state_within (reach_next (one_line k) t) (reach_start (one_line k) t) m

  abbrev pub live_round : ℕ → List State
  live_round m = kept_after state_within (live_next (one_line k) t) (live_start (one_line k) t) m

  -- the two halves of the test
  abbrev pub reaching_exceeds : Bool
  reaching_exceeds = some_round state_within (reach_next (one_line k) t) (reach_start (one_line k) t) same_state (full_round (length t)) (rounds (one_line k) t) (reaching_round 0)

  abbrev pub live_exceeds : Bool
  live_exceeds = some_round state_within (live_next (one_line k) t) (live_start (one_line k) t) same_state (full_round (length t)) (rounds (one_line k) t) (live_round 0)

  -- Table's check 11 of a task
  abbrev pub uncovered_test11 : Bool
  uncovered_test11 = reaching_exceeds || live_exceeds
