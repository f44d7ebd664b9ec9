-- Document 01, "Calls" and "Numbers of the checks", and document 02, Points 1, 5 and 6: Replay. Definitions only.
use Rattle.std.specs.Prelude.{Result, List, [], ◌++◌, ℕ}
use Rattle.model.specs.Tasks.{task}
use Rattle.model.specs.Runs.{count_at_end, lost_at_end}
use Rattle.project.specs.declared.answers.Refusal.{Refusal}
use Rattle.project.specs.File.{File}
use Rattle.project.specs.Checklist.{Entry, Checked, verdict_of, answered}
use Rattle.project.specs.Reading.{file_checks}
use Rattle.project.specs.Tasks.{tasks_of, file_cache}
use Rattle.sheet.specs.Sheet.{SheetRun, Sheet}
use Rattle.sheet_checks.specs.SheetChecks.{run_in, sheet_checks}
use Rattle.replay.specs.declared.Counted.{Counted}

-- "Replay checks 2 to 10, 12, 13.", and then 16; without 10 (Point 5)
abbrev pub replay_checks : File → Sheet → List Entry
replay_checks s sheet = file_checks s ++ sheet_checks s sheet

abbrev pub replay_check : File → Sheet → Checked
replay_check s sheet = verdict_of (replay_checks s sheet)

-- "U and D, the misses of p's own references without and with the preemptions, both from an empty cache"
abbrev pub undisturbed_in : File → SheetRun → ℕ
undisturbed_in s r = count_at_end (file_cache s) (tasks_of s) (task (tasks_of s) r.p) r.path []

abbrev pub disturbed_in : File → SheetRun → ℕ
disturbed_in s r = count_at_end (file_cache s) (tasks_of s) (task (tasks_of s) r.p) r.path r.preemptions

-- Point 5: "Replay adds a third number, the hits of the undisturbed run that became misses."
abbrev pub lost_in : File → SheetRun → ℕ
lost_in s r = lost_at_end (file_cache s) (tasks_of s) (task (tasks_of s) r.p) r.path r.preemptions

-- the three counts of a run
abbrev pub counted : ℕ → ℕ → ℕ → Counted
counted u d l = record { undisturbed = u; disturbed = d; lost = l }

abbrev pub counted_in : File → SheetRun → Counted
counted_in s r = counted (undisturbed_in s r) (disturbed_in s r) (lost_in s r)

-- the counts where the checks pass, else the check that fails first and the task it names
abbrev pub replaying_of : File → Sheet → Result Counted Refusal
replaying_of s sheet = answered (replay_check s sheet) (counted_in s (run_in s sheet))
