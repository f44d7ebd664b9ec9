-- Demand 3 over tasks, with document 02, Points 1, 5 and 6 ("bounds and reached runs are meant over these points too"): what a whole disturbed run can
-- cost, and that each pair number is reached. Definitions only.
use Rattle.std.specs.Prelude.{◌≡◌, ◌≢◌, List, [], ◌∷◌, ℕ, ◌+◌, ◌≤◌, ◌<◌, length}
use Rattle.cache.specs.Cache.{Cache}
use Rattle.model.specs.Tasks.{Task, SomeUnmasked, task}
use Rattle.model.specs.Runs.{Preemption, DisturbedRun, OnceBy, U, D, lost_hits}
use Rattle.model.specs.Computed.{pair_number}

-- the sum of the pair numbers of the task p preempted by each of the preemptions
abbrev pub pair_sum : Cache → List Task → ℕ → List Preemption → ℕ
pair_sum k ts p [] = 0
pair_sum k ts p (x ∷ xs) = pair_number k (task ts p) (task ts x.by) + pair_sum k ts p xs

-- Point 5: "That number is what a pair number bounds in sum": the lost hits; "D may fall below U, and still never passes U plus the sum."
pub record Bounded (k : Cache) (ts : List Task) (r : DisturbedRun ts) : Type 0 where
  pub lost : lost_hits k r ≤ pair_sum k ts r.p r.preemptions
  pub upper : D k r ≤ U k r + pair_sum k ts r.p r.preemptions

-- for tasks that share no memory block, document 01's "U <= D", and more: D is U and the lost hits
pub record BoundedApart (k : Cache) (ts : List Task) (r : DisturbedRun ts) : Type 0 where
  pub lower : U k r ≤ D k r
  pub equal : D k r ≡ U k r + lost_hits k r

-- Point 5: "and reaches for one preemption": a run of i with exactly one preemption, by j, whose lost hits are the pair number
pub record Reached (k : Cache) (ts : List Task) (i j : ℕ) : Type 0 where
  pub run : DisturbedRun ts
  pub task_i : run.p ≡ i
  pub once : OnceBy j run.preemptions
  pub equal : lost_hits k run ≡ pair_number k (task ts i) (task ts j)

-- "a task with none unmasked has no run that must reach its 0": its numbers are 0, and no run of it has a preemption
pub record NonePreempted (k : Cache) (ts : List Task) (i : ℕ) : Type 0 where
  pub numbers : (j : Task) → pair_number k (task ts i) j ≡ 0
  pub runs : (r : DisturbedRun ts) → r.p ≡ i → r.preemptions ≡ []

-- demand 3 for the tasks of a file, as one claim
pub record Demand3 (k : Cache) (ts : List Task) : Type 0 where
  pub bounds : (r : DisturbedRun ts) → Bounded k ts r
  pub reached : (i j : ℕ) → i < length ts → j < length ts → j ≢ i → SomeUnmasked (task ts i) → Reached k ts i j
  pub masked : (i : ℕ) → (SomeUnmasked (task ts i) → ⊥) → NonePreempted k ts i
