-- Statements next to the main theorems that are false, each with the run or the row that refutes it.
-- The tasks of file E keep the rules, and their runs are computed.
use mathlib.Core.Path.{◌≡◌, refl}
use mathlib.Core.Logic.{inl}
use mathlib.Core.Bool.{◌&&◌, false≢true}
use mathlib.Core.List.{List, [], ◌∷◌}
use Prim.Native.Nat.{ℕ, zero, suc, ◌≤◌, ◌<◌}
use native.Mathlib.Omega.{arith}
use lib.Dec.{eqb}
use lib.ListN.{length, get_or, drop}
use Rattle.cache.specs.Sum.{count}
use Rattle.cache.specs.References.{nothing, Real, All}
use Rattle.cache.specs.Cache.{Cache, direct, held, first_references, one_line}
use Rattle.cache.specs.Sets.{replaces, useful_replaced, useful_used}
use Rattle.model.specs.Lists.{best}
use Rattle.model.specs.Tasks.{Task, SomeUnmasked, end, PathFrom, stay, step, OnCompletePath, references, memory_blocks, task, Rules}
use Rattle.model.specs.States.{Reaches}
use Rattle.model.specs.Numbers.{Count, NumberOverAll}
use Rattle.model.specs.Runs.{Preemption, Preempts, DisturbedRun, OnceBy, own_hits, lost_at_end, U, D, lost_hits}
use Rattle.model.specs.Computed.{State, same_state, close, live_next, rounds, rows_at, reaching_states, entering, allowed, all_done, done_row, left_row, most, pair_number}
use Rattle.model.specs.Demand.{pair_sum}
use Rattle.model.proofs.Sorted.{reaching-rows}
use Rattle.model.proofs.Hits.{none-lost}
use Rattle.model.proofs.Bounds.{once_le}
use Rattle.model.proofs.Most.{over_all_is}
use Rattle.model.proofs.Demand.{none-preempted}
use Rattle.model.specs.Figures.{tasks_e, tasks_masked0, tasks_masked1, figure1}
use Rattle.model.proofs.Examples.{by_task1}

-- ---- the tasks of E keep the rules

-- two tasks that keep them
pub rules_two : (a b : Task) → 0 < length a → 0 < length b → ((x : ℕ) → x < length a → OnCompletePath a x) → ((x : ℕ) → x < length b → OnCompletePath b x)
    → All Real (memory_blocks a) → All Real (memory_blocks b) → Rules (a ∷ b ∷ [])
rules_two a b some_a some_b complete_a complete_b real_a real_b = record { some = some; complete = complete; real = real }
  where
    ts : List Task
    ts = a ∷ b ∷ []

    some : (j : ℕ) → j < 2 → 0 < length (task ts j)
    some zero h = some_a
    some (suc zero) h = some_b
    some (suc (suc j)) h = absurd (omega arith)

    complete : (j x : ℕ) → j < 2 → x < length (task ts j) → OnCompletePath (task ts j) x
    complete zero x h l = complete_a x l
    complete (suc zero) x h l = complete_b x l
    complete (suc (suc j)) x h l = absurd (omega arith)

    real : (j : ℕ) → All Real (memory_blocks (task ts j))
    real zero = real_a
    real (suc zero) = real_b
    real (suc (suc j)) = tt

-- a task of one block is one complete path
pub one-complete : (t : Task) → length t ≡ 1 → (x : ℕ) → x < length t → OnCompletePath t x
one-complete t e zero l = (0 ∷ [], (refl, to_end_lem (stay {b = 0} l)), refl)
  where
    to_end_lem : PathFrom t 0 [] 0 → PathFrom t 0 [] (end t)
    to_end_lem w = rw e w
one-complete t e (suc x) l = absurd (omega arith)

pub rules_e : Rules tasks_e
unfolding nothing
rules_e =
    rules_two (task tasks_e 0) (task tasks_e 1) (omega arith) (omega arith) (one-complete (task tasks_e 0) refl) (one-complete (task tasks_e 1) refl)
    (λ e. omega arith, (λ e. omega arith, tt)) (λ e. omega arith, tt)

-- ---- D <= U

pub loop : (p : List ℕ) → PathFrom (task tasks_e 0) 0 p 0 → PathFrom (task tasks_e 0) 0 (0 ∷ p) 0
loop p w = step refl w

pub stops0 : PathFrom (task tasks_e 0) 0 [] 0
stops0 = stay {b = 0} (omega arith)

-- a preemption by task 1 in the block 0 of a path, where both references are done
pub by1 : (position : ℕ) (path : List ℕ) → position < length path → get_or path position 0 ≡ 0 → Preempts tasks_e 0 path (by_task1 position 2)
by1 position path h z = record {
  in_path = h;
  right = rw z (omega arith, omega arith);
  there = omega arith;
  other = λ e. omega arith;
  unmasked = rw z refl;
  complete = (refl, stay {b = 0} (omega arith));
}

abbrev pub once_e : DisturbedRun tasks_e
once_e = record {
  p = 0;
  path = 0 ∷ 0 ∷ [];
  preemptions = by_task1 0 2 ∷ [];
  there = omega arith;
  complete = (refl, loop [] stops0);
  each = (by1 0 (0 ∷ 0 ∷ []) (omega arith) refl, tt);
  rising = tt;
}

once_counts : (U (direct 2) once_e ≡ 2) × (D (direct 2) once_e ≡ 3) × (lost_hits (direct 2) once_e ≡ 1)
unfolding nothing
once_counts = (refl, refl, refl)

pub not-D-le_U : ((r : DisturbedRun tasks_e) → D (direct 2) r ≤ U (direct 2) r) → ⊥
not-D-le_U h = omega (arith, h once_e, once_counts)

-- ---- the sum with one preemption left out

abbrev pub twice_e : DisturbedRun tasks_e
twice_e = record {
  p = 0;
  path = 0 ∷ 0 ∷ 0 ∷ [];
  preemptions = by_task1 0 2 ∷ by_task1 1 2 ∷ [];
  there = omega arith;
  complete = (refl, loop (0 ∷ []) (loop [] stops0));
  each = (by1 0 (0 ∷ 0 ∷ 0 ∷ []) (omega arith) refl, (by1 1 (0 ∷ 0 ∷ 0 ∷ []) (omega arith) refl, tt));
  rising = (inl (omega arith), tt);
}

twice_counts : (lost_hits (direct 2) twice_e ≡ 2) × (pair_sum (direct 2) tasks_e 0 (drop 1 twice_e.preemptions) ≡ 1)
unfolding nothing
twice_counts = (refl, refl)

pub not-one-left_out : ((r : DisturbedRun tasks_e) → lost_hits (direct 2) r ≤ pair_sum (direct 2) tasks_e r.p (drop 1 r.preemptions)) → ⊥
not-one-left_out h = omega (arith, h twice_e, twice_counts)

-- ---- live rows without the end block's stopping row

-- ways on of at least one block only
abbrev pub LivesFurther : Cache → Task → ℕ → List ℕ → Type 0
LivesFurther k t b row = (c : ℕ) × (p : List ℕ) × PathFrom t b (c ∷ p) (end t) × (row ≡ first_references k (references t (c ∷ p)))

-- then the references to come after a position of a complete path need not be a live state
pub not-live_further : ((t : Task) (b : ℕ) (p : List ℕ) → PathFrom t b p (end t) → LivesFurther (direct 2) t b (first_references (direct 2) (references t p))) → ⊥
not-live_further h = go (h (task tasks_e 1) 0 [] (stay {b = 0} (omega arith)))
  where
    no_step : {c e : ℕ} {p : List ℕ} → PathFrom (task tasks_e 1) 0 (c ∷ p) e → ⊥
    no_step (step m w) = false≢true m

    go : LivesFurther (direct 2) (task tasks_e 1) 0 (first_references (direct 2) []) → ⊥
    go (c, p, w, e) = no_step w

-- the closure without the row of nothings to start from, and its pair number
abbrev pub most_without_stop : Count → Cache → Task → Task → ℕ
most_without_stop v k i j =
    best (λ (x : State). best (λ (d : ℕ). best (λ (l : List ℕ). best (λ (f : List ℕ). v (done_row k i x d) (left_row k i x.0 d l) f) (rows_at (end j) (reaching_states k j)))
    (rows_at x.0 (close same_state (live_next (one_line k) i) (rounds (one_line k) i) []))) (allowed i x.0)) (entering k i)

without_stop : most_without_stop (useful_replaced (direct 2)) (direct 2) (task tasks_e 0) (task tasks_e 1) ≡ 0
unfolding nothing
without_stop = refl

pub not_without_stop : lost_hits (direct 2) once_e ≤ most_without_stop (useful_replaced (direct 2)) (direct 2) (task tasks_e 0) (task tasks_e 1) → ⊥
not_without_stop h = omega (arith, h, once_counts, without_stop)

-- ---- two nothings counted as useful

abbrev pub replaced_or_nothing : Cache → Count
replaced_or_nothing k r l f = count k.width (λ c. eqb (held r c) (held l c) && replaces f r c)

two_nothings : (most (replaced_or_nothing (direct 2)) (direct 2) (task tasks_e 1) (task tasks_e 0) (allowed (task tasks_e 1)) ≡ 1) × (pair_number (direct 2) (task tasks_e 1) (task tasks_e 0) ≡ 0)
unfolding nothing
two_nothings = (refl, refl)

-- then no run of task 1 with exactly one preemption, by task 0, reaches the number
pub not_two_nothings : (r : DisturbedRun tasks_e) → r.p ≡ 1 → OnceBy 0 r.preemptions
    → lost_hits (direct 2) r ≡ most (replaced_or_nothing (direct 2)) (direct 2) (task tasks_e 1) (task tasks_e 0) (allowed (task tasks_e 1)) → ⊥
not_two_nothings r p one e = omega (arith, e, two_nothings, once_le (direct 2) tasks_e rules_e r 1 0 p one)

-- ---- a block started from its own references alone

-- document 002's first iteration makes a row of block 1 of figure 1 that no path makes
pub not-own-references : Reaches (direct 4) figure1 1 (nothing ∷ 1 ∷ 2 ∷ 3 ∷ []) → ⊥
unfolding nothing
not-own-references h = false≢true ((reaching-rows (direct 4) figure1 1 (65535 ∷ 1 ∷ 2 ∷ 3 ∷ [])).1 h)

-- ---- the number over all blocks, masked ones too

over_all : (most (useful_used (direct 2)) (direct 2) (task tasks_masked0 0) (task tasks_masked0 1) (all_done (task tasks_masked0 0)) ≡ 1)
    × (pair_number (direct 2) (task tasks_masked0 0) (task tasks_masked0 1) ≡ 0)
unfolding nothing
over_all = (refl, refl)

pub over_all_1 : NumberOverAll (direct 2) (task tasks_masked0 0) (task tasks_masked0 1) 1
over_all_1 = rw over_all.0 at (over_all_is (direct 2) (task tasks_masked0 0) (task tasks_masked0 1))

pub all-masked : SomeUnmasked (task tasks_masked0 0) → ⊥
all-masked (zero, l, e) = omega (arith, e)
all-masked (suc b, l, e) = omega (arith, l)

-- no run of task 0 loses that hit
pub none_loses_1 : (r : DisturbedRun tasks_masked0) → r.p ≡ 0 → lost_hits (direct 2) r ≡ 1 → ⊥
none_loses_1 r p e = omega (arith, e, none r.preemptions ((none-preempted (direct 2) tasks_masked0 0 all-masked).runs r p))
  where
    none : (xs : List Preemption) → xs ≡ [] → lost_at_end (direct 2) tasks_masked0 (task tasks_masked0 r.p) r.path xs ≡ 0
    none xs n = rw n (none-lost (own_hits (direct 2) tasks_masked0 (task tasks_masked0 r.p) r.path []))

pub not_over_all : ((ts : List Task) (i j x : ℕ) → NumberOverAll (direct 2) (task ts i) (task ts j) x → (r : DisturbedRun ts) × (r.p ≡ i) × (lost_hits (direct 2) r ≡ x)) → ⊥
not_over_all h = let (r, p, e) = h tasks_masked0 0 1 1 over_all_1 in none_loses_1 r p e

-- ---- a masked preempting task costs nothing

pub masked_1 : SomeUnmasked (task tasks_masked1 1) → ⊥
masked_1 (zero, l, e) = omega (arith, e)
masked_1 (suc b, l, e) = omega (arith, l)

number-by-masked : pair_number (direct 2) (task tasks_masked1 0) (task tasks_masked1 1) ≡ 1
unfolding nothing
number-by-masked = refl

pub not-by-masked : ((i j : Task) → (SomeUnmasked j → ⊥) → pair_number (direct 2) i j ≡ 0) → ⊥
not-by-masked h = omega (arith, number-by-masked, h (task tasks_masked1 0) (task tasks_masked1 1) masked_1)
