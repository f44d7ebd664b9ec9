-- Document 02, Point 7: a nested run by computation, and statements next to its bound that are false, each with the run that refutes it: "only the run directly
-- around counts", and "each run's misses alone are those from the first contents".
use mathlib.Core.Path.{◌≡◌, refl}
use mathlib.Core.Logic.{inr}
use mathlib.Core.List.{List, [], ◌∷◌}
use Prim.Native.Nat.{ℕ, ◌+◌, ◌≤◌}
use native.Mathlib.Omega.{arith}
use lib.ListN.{length}
use Rattle.cache.specs.References.{nothing}
use Rattle.cache.specs.Cache.{Cache, Row, direct, empty_row, misses}
use Rattle.model.specs.Tasks.{Task, stay, step, references, task}
use Rattle.model.specs.Computed.{pair_number}
use Rattle.model.specs.Nested.{RunList, no_run, a_run, alone, NestedRun, total, nested_bound}
use Rattle.model.specs.Figures.{tasks_three, tasks_around, tasks_filled}

-- ---- task 2 preempts task 1 of E while that preempts task 0

abbrev pub runs_three : RunList
runs_three = a_run 0 2 1 (0 ∷ []) (a_run 0 1 2 (0 ∷ []) no_run no_run) no_run

abbrev pub nested_three : NestedRun tasks_three
nested_three = record {
  p = 0;
  path = 0 ∷ 0 ∷ [];
  runs = runs_three;
  there = omega arith;
  complete = (refl, step {b = 0} refl (stay {b = 0} (omega arith)));
  rising = (inr (refl, omega arith), tt);
  within = (
    record {
      in_path = omega arith;
      right = (omega arith, omega arith);
      there = omega arith;
      other = λ e. omega arith;
      unmasked = refl;
      complete = (refl, stay {b = 0} (omega arith));
    },
    tt,
    (inr (refl, omega arith), tt),
    (
      record {
        in_path = omega arith;
        right = (omega arith, omega arith);
        there = omega arith;
        other = λ e. omega arith;
        unmasked = refl;
        complete = (refl, stay {b = 0} (omega arith));
      },
      (λ e. omega arith, tt),
      tt,
      tt,
      tt,
    ),
    tt,
  );
}

-- 0 and 1, then 2, then 4, and 0 and 1 again: five misses, and the bound is 6
pub three_counts : (total (direct 2) (empty_row (direct 2)) nested_three ≡ 5) × (nested_bound (direct 2) nested_three ≡ 6)
unfolding nothing
three_counts = (refl, refl)

-- ---- only the run directly around counts

-- each run's misses alone, and its pair number against the run of the task p, directly around it, alone
abbrev pub directly_around : Cache → List Task → ℕ → RunList → ℕ
directly_around k ts p no_run = 0
directly_around k ts p (a_run i d by path own rest) =
    alone k ts by path + pair_number k (task ts p) (task ts by) + directly_around k ts by own + directly_around k ts p rest

-- task 1, within task 2, within task 0 after its first reference
abbrev pub nested_around : NestedRun tasks_around
nested_around = record {
  p = 0;
  path = 0 ∷ [];
  runs = a_run 0 1 2 (0 ∷ []) (a_run 0 0 1 (0 ∷ []) no_run no_run) no_run;
  there = omega arith;
  complete = (refl, stay {b = 0} (omega arith));
  rising = (inr (refl, omega arith), tt);
  within = (
    record {
      in_path = omega arith;
      right = (omega arith, omega arith);
      there = omega arith;
      other = λ e. omega arith;
      unmasked = refl;
      complete = (refl, stay {b = 0} (omega arith));
    },
    tt,
    (inr (refl, omega arith), tt),
    (
      record {
        in_path = omega arith;
        right = refl;
        there = omega arith;
        other = λ e. omega arith;
        unmasked = refl;
        complete = (refl, stay {b = 0} (omega arith));
      },
      (λ e. omega arith, tt),
      tt,
      tt,
      tt,
    ),
    tt,
  );
}

pub around_counts : (total (direct 1) (empty_row (direct 1)) nested_around ≡ 3)
    × (alone (direct 1) tasks_around 0 (0 ∷ []) + directly_around (direct 1) tasks_around 0 nested_around.runs ≡ 2)
unfolding nothing
around_counts = (refl, refl)

pub not_directly_around : ((ts : List Task) (r : NestedRun ts) → total (direct 1) (empty_row (direct 1)) r ≤ alone (direct 1) ts r.p r.path + directly_around (direct 1) ts r.p r.runs) → ⊥
not_directly_around h = omega (arith, around_counts.0, around_counts.1, h tasks_around nested_around)

-- ---- each run's misses alone are those from the first contents

abbrev pub alone_from : Cache → List Task → Row → ℕ → List ℕ → ℕ
alone_from k ts row p path = misses k row (references (task ts p) path)

-- task 1 comes after the empty block, which is the first of task 0
abbrev pub nested_filled : NestedRun tasks_filled
nested_filled = record {
  p = 0;
  path = 0 ∷ 1 ∷ [];
  runs = a_run 0 0 1 (0 ∷ []) no_run no_run;
  there = omega arith;
  complete = (refl, step {b = 0} refl (stay {b = 1} (omega arith)));
  rising = (inr (refl, omega arith), tt);
  within = (
    record {
      in_path = omega arith;
      right = refl;
      there = omega arith;
      other = λ e. omega arith;
      unmasked = refl;
      complete = (refl, stay {b = 0} (omega arith));
    },
    tt,
    tt,
    tt,
    tt,
  );
}

-- the cache first contains 4
pub filled_counts : (total (direct 1) (4 ∷ []) nested_filled ≡ 2)
    × (alone_from (direct 1) tasks_filled (4 ∷ []) 0 (0 ∷ 1 ∷ []) + (alone_from (direct 1) tasks_filled (4 ∷ []) 1 (0 ∷ []) + pair_number (direct 1) (task tasks_filled 0) (task tasks_filled 1)) ≡ 1)
unfolding nothing
filled_counts = (refl, refl)

-- for a run with one run within it
pub not-alone-from-first : ((ts : List Task) (r : NestedRun ts) (i d by : ℕ) (path : List ℕ) → r.runs ≡ a_run i d by path no_run no_run → (row : Row) → length row ≡ 1
    → total (direct 1) row r ≤ alone_from (direct 1) ts row r.p r.path + (alone_from (direct 1) ts row by path + pair_number (direct 1) (task ts r.p) (task ts by))) → ⊥
not-alone-from-first h = omega (arith, filled_counts.0, filled_counts.1, h tasks_filled nested_filled 0 0 1 (0 ∷ []) refl (4 ∷ []) refl)
