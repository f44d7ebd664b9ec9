-- Document 02, Point 6: statements next to its claims that are false, each with the run that refutes it: "block ends are enough", and "a point before the
-- first reference counts".
use mathlib.Core.Path.{◌≡◌, refl}
use mathlib.Core.Bool.{cond}
use mathlib.Core.List.{List, [], ◌∷◌}
use Prim.Native.Nat.{ℕ, zero, suc, ◌≤◌, ◌<◌}
use native.Mathlib.Omega.{arith}
use Rattle.cache.specs.References.{nothing}
use Rattle.cache.specs.Cache.{direct}
use Rattle.cache.specs.Sets.{useful_replaced}
use Rattle.model.specs.Tasks.{Task, block, stay, step, OnCompletePath, task, Rules}
use Rattle.model.specs.Numbers.{NumberAtEnds}
use Rattle.model.specs.Runs.{DisturbedRun, OnceBy, U, D, lost_hits}
use Rattle.model.specs.Computed.{unmasked, dones, most, pair_number}
use Rattle.model.specs.Figures.{tasks_twice, tasks_entered}
use Rattle.model.proofs.Bounds.{once_le}
use Rattle.model.proofs.Most.{unmasked_ends, at-ends-is}
use Rattle.model.proofs.Examples.{by_task1}
use Rattle.model.proofs.Neighbours.{rules_two, one-complete}

-- ---- block ends are enough

-- task 0 reads 6, is preempted by task 1, and reads 6 again
abbrev pub between_two : DisturbedRun tasks_twice
between_two = record {
  p = 0;
  path = 0 ∷ [];
  preemptions = by_task1 0 1 ∷ [];
  there = omega arith;
  complete = (refl, stay {b = 0} (omega arith));
  each = (
    record {
      in_path = omega arith;
      right = (omega arith, omega arith);
      there = omega arith;
      other = λ e. omega arith;
      unmasked = refl;
      complete = (refl, stay {b = 0} (omega arith));
    },
    tt,
  );
  rising = tt;
}

pub between_counts : (U (direct 1) between_two ≡ 1) × (D (direct 1) between_two ≡ 2) × (lost_hits (direct 1) between_two ≡ 1)
    × (pair_number (direct 1) (task tasks_twice 0) (task tasks_twice 1) ≡ 1)
    × (most (useful_replaced (direct 1)) (direct 1) (task tasks_twice 0) (task tasks_twice 1) (unmasked_ends (task tasks_twice 0)) ≡ 0)
unfolding nothing
between_counts = (refl, refl, refl, refl, refl)

pub ends_0 : NumberAtEnds (direct 1) (task tasks_twice 0) (task tasks_twice 1) 0
ends_0 = rw between_counts.4 at (at-ends-is (direct 1) (task tasks_twice 0) (task tasks_twice 1))

pub not-ends-enough : ((ts : List Task) (i j x : ℕ) → NumberAtEnds (direct 1) (task ts i) (task ts j) x → (r : DisturbedRun ts) → r.p ≡ i → OnceBy j r.preemptions
    → lost_hits (direct 1) r ≤ x) → ⊥
not-ends-enough h = omega (arith, between_counts.2, h tasks_twice 0 1 0 ends_0 between_two refl (by_task1 0 1, refl, refl))

-- ---- a point before the first reference counts

-- how many references are done, with 0 also in a block that has some
abbrev pub from_zero : Task → ℕ → List ℕ
from_zero t b = cond (unmasked t b) (0 ∷ dones (block t b).references) []

entered_numbers : (most (useful_replaced (direct 1)) (direct 1) (task tasks_entered 0) (task tasks_entered 1) (from_zero (task tasks_entered 0)) ≡ 1)
    × (pair_number (direct 1) (task tasks_entered 0) (task tasks_entered 1) ≡ 0)
unfolding nothing
entered_numbers = (refl, refl)

rules_entered : Rules tasks_entered
unfolding nothing
rules_entered =
    rules_two (task tasks_entered 0) (task tasks_entered 1) (omega arith) (omega arith) complete (one-complete (task tasks_entered 1) refl) (λ e. omega arith, (λ e. omega arith, tt))
    (λ e. omega arith, tt)
  where
    complete : (x : ℕ) → x < 2 → OnCompletePath (task tasks_entered 0) x
    complete zero l = (0 ∷ 1 ∷ [], (refl, step {b = 0} refl (stay {b = 1} (omega arith))), refl)
    complete (suc zero) l = (0 ∷ 1 ∷ [], (refl, step {b = 0} refl (stay {b = 1} (omega arith))), refl)
    complete (suc (suc x)) l = absurd (omega arith)

-- no run of task 0 with exactly one preemption, by task 1, loses the hit that such a point counts
pub not-before-first : (r : DisturbedRun tasks_entered) → r.p ≡ 0 → OnceBy 1 r.preemptions
    → lost_hits (direct 1) r ≡ most (useful_replaced (direct 1)) (direct 1) (task tasks_entered 0) (task tasks_entered 1) (from_zero (task tasks_entered 0)) → ⊥
not-before-first r z one e = omega (arith, e, entered_numbers, once_le (direct 1) tasks_entered rules_entered r 0 1 z one)
