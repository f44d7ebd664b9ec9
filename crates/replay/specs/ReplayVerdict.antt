-- Document 01, "Numbers of the checks", and document 02, Point 5: the verdict on a file and a run sheet. Definitions only.
use Rattle.std.specs.Prelude.{◌≡◌, ℕ, Result, Ok, Err}
use Rattle.model.specs.Runs.{DisturbedRun, U, D, lost_hits}
use Rattle.project.specs.declared.answers.Refusal.{Refusal}
use Rattle.project.specs.File.{File}
use Rattle.project.specs.Checklist.{number_of, AllPass, FirstFault}
use Rattle.project.specs.Tasks.{tasks_of, file_cache}
use Rattle.sheet.specs.Sheet.{Sheet, sheet_numbers}
use Rattle.replay.specs.Replay.{replay_checks}
use Rattle.replay.specs.declared.Counted.{Counted}

-- the sheet is that of a disturbed run, and its counts are u, d and l: "Where replay accepts a sheet of the run, U and D are its answers.", and
-- "a third number, the hits of the undisturbed run that became misses"
pub record Replayed (s : File) (sheet : Sheet) (u d l : ℕ) : Type 0 where
  pub run : DisturbedRun (tasks_of s)
  pub sheet_of_lem : sheet ≡ sheet_numbers (record { p = run.p; path = run.path; preemptions = run.preemptions })
  pub undisturbed : u ≡ U (file_cache s) run
  pub disturbed : d ≡ D (file_cache s) run
  pub lost : l ≡ lost_hits (file_cache s) run

-- what Replay's answer says of its checks, and of the run where they pass
abbrev pub ReplayVerdict : File → Sheet → Result Counted Refusal → Type 0
ReplayVerdict s sheet (Err r) = FirstFault (replay_checks s sheet) (number_of r.check) r.task
ReplayVerdict s sheet (Ok c) = AllPass (replay_checks s sheet) × Replayed s sheet c.undisturbed c.disturbed c.lost
