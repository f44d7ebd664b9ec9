-- Replay of the sheet that is written answers the pair number: `costliest-replayed`.
-- The idea: the run fits a sheet, so that Replay accepts the run's sheet and answers its U, D and lost hits.
use Rattle.std.specs.Prelude.{Ok, Err}
use Rattle.project.specs.declared.answers.Check.TheVariants.{ListLength}
use Rattle.project.specs.Checklist.{Checked}
use mathlib.Core.Path.{◌≡◌, refl, sym, ap, ◌∙◌}
use mathlib.Core.Bool.{true}
use mathlib.Core.List.{List, ◌++◌}
use Prim.Native.Nat.{ℕ}
use native.Mathlib.Omega.{arith}
use lib.ListN.{length, take, drop}
use lib.Seq.{take_at}
use Rattle.project.specs.Checklist.{no_task}
use Rattle.project.specs.declared.answers.Refusal.{Refusal}
use Rattle.project.specs.Writing.{Writing}
use Rattle.project.specs.File.{task_count}
use Rattle.project.specs.Reading.{file_checks, file_check, reading_of}
use Rattle.project.specs.Bodies.{accepted}
use Rattle.project.specs.Tasks.{tasks_of}
use Rattle.project.proofs.Checklists.{verdict_append}
use Rattle.project.proofs.Accepted.{unless-passed, then_passed}
use Rattle.reader.proofs.TaskBodies.{passing_accepted}
use Rattle.sheet.specs.Sheet.{run_numbers}
use Rattle.replay.proofs.Replays.{run-replayed}
use Rattle.costliest.specs.Costliest.{test1, asked_checks, two_checks, costliest_check, WrittenRun, CostliestAnswer}
use Rattle.claims.specs.Demand.{file_u, file_d, file_lost}
use Rattle.claims.specs.CostliestRuns.{ReplaysNumber}

length_of : Writing → ℕ
length_of (Ok l) = l
length_of (Err r) = 0

-- a run that is written
written_replayed : (s : List ℕ) → accepted (reading_of s) ≡ true → (i j : ℕ) (old : List ℕ) (l : ℕ) (new : List ℕ) → WrittenRun s i j old (Ok l) new → ReplaysNumber s i j l new
unfolding length_of
written_replayed s ok i j old l new x =
    let long : l ≡ length (run_numbers (tasks_of s) x.run) = ap length_of x.answered in
    let cut : take l new ≡ run_numbers (tasks_of s) x.run = ap (take l) x.sheet ∙ take_at (run_numbers (tasks_of s) x.run) (drop (length (run_numbers (tasks_of s) x.run)) old) l (sym long) in
    record {
      u = file_u s x.run;
      d = file_d s x.run;
      lost = file_lost s x.run;
      replayed = rw cut (run-replayed s ok x.run x.costliest.fits);
      costs = x.costliest.costs;
    }

-- where the call answers a length
pub costliest-replayed : (s : List ℕ) (i j : ℕ) (first second old : List ℕ) (l : ℕ) (new : List ℕ)
    → CostliestAnswer (costliest_check 16 s i j first second old) s i j old (Ok l) new → ReplaysNumber s i j l new
costliest-replayed s i j first second old l new h = go (costliest_check 16 s i j first second old) refl h
  where
    checked : costliest_check 16 s i j first second old ≡ Ok tt → file_check s ≡ Ok tt
    checked e =
        let later = (unless-passed ListLength no_task (test1 16 first second) _ e).1 in
        (then_passed (file_check s) _ (sym (verdict_append (file_checks s) (asked_checks (task_count s) i j old ++ two_checks 16 s i j)) ∙ later)).0

    unwritten : {r : Refusal} → ◌≡◌ {A = Writing} (Ok l) (Err r) → ⊥
    unwritten e = let z : ◌≡◌ {A = ℕ} 0 1 = cc in absurd (omega arith)

    go : (r : Checked) → costliest_check 16 s i j first second old ≡ r → CostliestAnswer r s i j old (Ok l) new → ReplaysNumber s i j l new
    go (Ok tt) e x = written_replayed s (passing_accepted s (checked e)) i j old l new x
    go (Err r) e x = absurd (unwritten x.0)
