-- Demand 3 whole, over accepted files: `demand_3_whole`.
-- The idea: an accepted file's tasks keep the rules; a table that is filled is the table of the definitions, and an accepted sheet is that of a disturbed run.
use Rattle.claims.specs.Files.{accepted_as}
use mathlib.Core.Path.{◌≡◌, ap}
use mathlib.Core.Logic.{◌≢◌}
use mathlib.Core.List.{List}
use Prim.Native.Nat.{ℕ, ◌≤◌}
use native.Mathlib.Omega.{arith}
use Rattle.model.specs.Tasks.{task, Apart}
use Rattle.model.specs.Runs.{DisturbedRun}
use Rattle.model.specs.Demand.{BoundedApart}
use Rattle.model.specs.Numbers.{NumberAtEnds, NumberOverAll}
use Rattle.model.proofs.Most.{pair_is, ends_le}
use Rattle.model.proofs.OldNumbers.{over_all_ends}
use Rattle.model.proofs.Bounds.{bounded_apart}
use Rattle.project.specs.Reading.{reading_of}
use Rattle.project.specs.Bodies.{accepted}
use Rattle.project.specs.Tasks.{tasks_of, file_pair, file_cache}
use Rattle.project.proofs.TaskFaults.{Bytes}
use Rattle.project.proofs.Accepted.{accepted-passed}
use Rattle.project.proofs.FileRules.{file-rules, file-demand_3}
use Rattle.reader.proofs.TaskBodies.{tasks_long}
use Rattle.table.proofs.Entries.{table_entries}
use Rattle.replay.proofs.Replays.{replayed, run-replayed, sheet_two_bytes}
use Rattle.claims.proofs.Sheets.{of_the_run}
use Rattle.claims.specs.Demand.{NoMasks, RunsApart, Demand3Whole}

-- demand 3 of every list of bytes that Reader accepts
pub demand_3_whole : (s : List ℕ) → Bytes s → (n t : ℕ) → reading_of s ≡ accepted_as n t → Demand3Whole s
demand_3_whole s h n t e =
    let (q, en, et) = accepted-passed s _ e in
    record {
      runs = file-demand_3 s h _ e;
      numbers = λ i j. pair_is (file_cache s) (task (tasks_of s) i) (task (tasks_of s) j);
      entries = table_entries 16 s;
      answers = of_the_run s h;
      described = replayed s h;
      sheets = λ run f. (run-replayed s (ap accepted e) run f, sheet_two_bytes s (ap accepted e) run f);
    }

-- a file of which no two tasks share a memory block
pub runs_apart : (s : List ℕ) → Bytes s → (n t : ℕ) → reading_of s ≡ accepted_as n t → Apart (tasks_of s) → RunsApart s
runs_apart s h n t e apart = record {
  runs = each;
  answers = λ sheet u d l q.
      let x = replayed s h sheet u d l q in
      let b = each x.run in
      (omega (arith, x.undisturbed, x.disturbed, b.lower), omega (arith, x.undisturbed, x.disturbed, x.lost, b.equal));
  reached = λ i j hi hj ne some.
      let x = (file-demand_3 s h _ e).reached i j (rw (tasks_long s) hi) (rw (tasks_long s) hj) ne some in
      (x.run, x.task_i, x.once, omega (arith, x.equal, (each x.run).equal));
}
  where
    each : (run : DisturbedRun (tasks_of s)) → BoundedApart (file_cache s) (tasks_of s) run
    each run = bounded_apart (file_cache s) (tasks_of s) (file-rules s h _ e) run apart

-- no number of a file is below the one over the ends of blocks alone, as it was before Point 6
pub numbers-at-ends : (s : List ℕ) (i j x : ℕ) → NumberAtEnds (file_cache s) (task (tasks_of s) i) (task (tasks_of s) j) x → x ≤ file_pair s i j
numbers-at-ends s i j x n = ends_le (file_cache s) (task (tasks_of s) i) (task (tasks_of s) j) x n

-- where no two tasks share a memory block and no block is masked, that is the number of document 01 alone
pub numbers_without_masks : (s : List ℕ) → Apart (tasks_of s) → NoMasks s → (i j : ℕ) → i ≢ j → (x : ℕ)
    → NumberOverAll (file_cache s) (task (tasks_of s) i) (task (tasks_of s) j) x → NumberAtEnds (file_cache s) (task (tasks_of s) i) (task (tasks_of s) j) x
numbers_without_masks s apart free i j ne x n = over_all_ends (file_cache s) (task (tasks_of s) i) (task (tasks_of s) j) (apart i j ne) (free i) x n
