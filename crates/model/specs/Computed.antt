-- The reaching and live states and the pair number as functions that compute.
-- proofs/Exact and Sorted show that the states are those of States, proofs/Most that the number is that of Numbers.
-- A name with `On` is over a cache of any kind, a `Policy`; the same name without it is that at document 01's cache.
use Rattle.std.specs.Prelude.{Bool, true, false, ◌&&◌, cond, List, [], ◌∷◌, ◌++◌, map, ℕ, zero, suc, ◌*◌, ◌^◌, eqb, ltb, length, take, drop}
use Rattle.cache.specs.Cache.{Cache, Row, Policy, one_line, refer_all}
use Rattle.cache.specs.Firsts.{ahead}
use Rattle.cache.specs.Sets.{useful_replaced, useful_used}
use Rattle.model.specs.Lists.{mem, best}
use Rattle.model.specs.Tasks.{Task, block, end, memory_blocks}
use Rattle.model.specs.Numbers.{Count}
use Rattle.model.specs.Order.{before}

-- ---- the closure of a list under a step

module _ {A : Type 0} (eq : A → A → Bool) where
  abbrev pub add_if : Bool → A → List A → List A
  add_if true x l = l
  add_if false x l = x ∷ l

  -- the list with the elements of the first that it lacks
  abbrev pub add_all : List A → List A → List A
  add_all [] l = l
  add_all (x ∷ xs) l = add_all xs (add_if (mem eq x l) x l)

  abbrev pub sub : List A → List A → Bool
  sub [] ys = true
  sub (x ∷ xs) ys = mem eq x ys && sub xs ys

abbrev pub nexts : {A : Type 0} → (A → List A) → List A → List A
nexts next [] = []
nexts next (x ∷ xs) = next x ++ nexts next xs

-- the list with the next elements of its elements added, at most k times over
abbrev pub close : {A : Type 0} → (A → A → Bool) → (A → List A) → ℕ → List A → List A
close eq next zero l = l
close eq next (suc k) l = elim (sub eq (nexts next l) l) [ true ↦ l | false ↦ close eq next k (add_all eq (nexts next l) l) ]

-- ---- states: a block and a row

abbrev pub State : Type 0
State = ℕ × Row

abbrev pub same_list : List ℕ → List ℕ → Bool
same_list [] [] = true
same_list [] (y ∷ ys) = false
same_list (x ∷ xs) [] = false
same_list (x ∷ xs) (y ∷ ys) = eqb x y && same_list xs ys

abbrev pub same_state : State → State → Bool
same_state x y = eqb x.0 y.0 && same_list x.1 y.1

-- the numbers of a list that are blocks of the task
abbrev pub inside : Task → List ℕ → List ℕ
inside t [] = []
inside t (b ∷ bs) = cond (ltb b (length t)) (b ∷ inside t bs) (inside t bs)

-- reaching states, from the entry onwards
abbrev pub reach_next : Policy → Task → State → List State
reach_next q t x = map (λ (s : ℕ). (s, refer_all q x.1 (block t s).references)) (inside t (block t x.0).successors)

abbrev pub reach_start : Policy → Task → List State
reach_start q t = map (λ (s : ℕ). (s, refer_all q q.first (block t s).references)) (inside t (0 ∷ []))

-- live states, from the end backwards
abbrev pub predecessors_from : ℕ → Task → ℕ → List ℕ
predecessors_from i [] b = []
predecessors_from i (x ∷ xs) b = cond (mem eqb b x.successors) (i ∷ predecessors_from (suc i) xs b) (predecessors_from (suc i) xs b)

abbrev pub live_next : Policy → Task → State → List State
live_next q t x = map (λ (p : ℕ). (p, ahead q (block t x.0).references x.1)) (predecessors_from 0 t x.0)

abbrev pub live_start : Policy → Task → List State
live_start q t = map (λ (s : ℕ). (s, q.first)) (inside t (end t ∷ []))

-- as many rounds as there are states: blocks times rows over the task's memory blocks and nothing
abbrev pub rounds : Policy → Task → ℕ
rounds q t = length t * suc (length (memory_blocks t)) ^ q.size

abbrev pub reaching_states_on : Policy → Task → List State
reaching_states_on q t = close same_state (reach_next q t) (rounds q t) (reach_start q t)

abbrev pub live_states_on : Policy → Task → List State
live_states_on q t = close same_state (live_next q t) (rounds q t) (live_start q t)

abbrev pub reaching_states : Cache → Task → List State
reaching_states k = reaching_states_on (one_line k)

abbrev pub live_states : Cache → Task → List State
live_states k = live_states_on (one_line k)

-- ---- the rows of one block, in dictionary order

abbrev pub rows_at : ℕ → List State → List Row
rows_at b [] = []
rows_at b (x ∷ xs) = cond (eqb x.0 b) (x.1 ∷ rows_at b xs) (rows_at b xs)

-- a row put in its place among rising rows, unless it is there already
abbrev pub insert_row : Row → List Row → List Row
insert_row r [] = r ∷ []
insert_row r (x ∷ xs) = cond (before r x) (r ∷ x ∷ xs) (cond (before x r) (x ∷ insert_row r xs) (x ∷ xs))

abbrev pub sorted : List Row → List Row
sorted [] = []
sorted (x ∷ xs) = insert_row x (sorted xs)

-- the reaching states and the live states of the block b
abbrev pub reaching_on : Policy → Task → ℕ → List Row
reaching_on q t b = sorted (rows_at b (reaching_states_on q t))

abbrev pub living_on : Policy → Task → ℕ → List Row
living_on q t b = sorted (rows_at b (live_states_on q t))

abbrev pub reaching : Cache → Task → ℕ → List Row
reaching k = reaching_on (one_line k)

abbrev pub living : Cache → Task → ℕ → List Row
living k = living_on (one_line k)

-- ---- the pair number

-- the blocks with the rows before them, where none of their references is done: the reaching states of the predecessors, and the empty row too
-- for block 0
abbrev pub entering_on : Policy → Task → List State
entering_on q t =
    map (λ (s : ℕ). (s, q.first)) (inside t (0 ∷ []))
    ++ nexts (λ (x : State). map (λ (s : ℕ). (s, x.1)) (inside t (block t x.0).successors)) (reaching_states_on q t)

abbrev pub entering : Cache → Task → List State
entering k = entering_on (one_line k)

-- `left` numbers, from `from` on
abbrev pub up_from : ℕ → ℕ → List ℕ
up_from from zero = []
up_from from (suc left) = from ∷ up_from (suc from) left

-- how many of the references of a block may be done
abbrev pub dones : List ℕ → List ℕ
dones [] = 0 ∷ []
dones (m ∷ ms) = up_from 1 (length (m ∷ ms))

-- whether the block is unmasked
abbrev pub unmasked : Task → ℕ → Bool
unmasked t b = eqb (block t b).flags 0

-- how many references of the block b may be done where a preemption comes, and all of them
abbrev pub allowed : Task → ℕ → List ℕ
allowed t b = cond (unmasked t b) (dones (block t b).references) []

abbrev pub all_done : Task → ℕ → List ℕ
all_done t b = length (block t b).references ∷ []

-- the rows at the point of the block of a state where d references are done: from the row before the block, and from a live row of it
abbrev pub done_row_on : Policy → Task → State → ℕ → Row
done_row_on q t x d = refer_all q x.1 (take d (block t x.0).references)

abbrev pub left_row_on : Policy → Task → ℕ → ℕ → Row → Row
left_row_on q t b d l = ahead q (drop d (block t b).references) l

abbrev pub done_row : Cache → Task → State → ℕ → Row
done_row k = done_row_on (one_line k)

abbrev pub left_row : Cache → Task → ℕ → ℕ → Row → Row
left_row k = left_row_on (one_line k)

-- the most that v counts over a reaching row and a live row of one point of i, and a row that j ends with; `points` tells for each block how many
-- references are done at the points that count
abbrev pub most_on : Count → Policy → Task → Task → (ℕ → List ℕ) → ℕ
most_on v q i j points =
    best (λ (x : State). best (λ (d : ℕ). best (λ (l : Row). best (λ (f : Row). v (done_row_on q i x d) (left_row_on q i x.0 d l) f) (rows_at (end j) (reaching_states_on q j)))
    (rows_at x.0 (live_states_on q i))) (points x.0)) (entering_on q i)

abbrev pub most : Count → Cache → Task → Task → (ℕ → List ℕ) → ℕ
most v k = most_on v (one_line k)

-- the pair number of task i preempted by task j, in a cache
abbrev pub pair_number : Cache → Task → Task → ℕ
pair_number k i j = most (useful_replaced k) k i j (allowed i)

-- by the count before document 02, Point 5
abbrev pub used_number : Cache → Task → Task → ℕ
used_number k i j = most (useful_used k) k i j (allowed i)
