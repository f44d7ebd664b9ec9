-- Demand 3 over files and calls, with document 02, Points 1, 5 and 6, as one claim about an accepted file. Definitions only.
use Rattle.std.specs.Prelude.{Ok}
use Rattle.std.specs.Prelude.{◌≡◌, ◌≢◌, ℕ, ◌+◌, ◌≤◌, ◌<◌, length}
use Rattle.cache.specs.References.{All}
use Rattle.model.specs.Tasks.{Unmasked, SomeUnmasked, task}
use Rattle.model.specs.Runs.{DisturbedRun, OnceBy, U, D, lost_hits}
use Rattle.model.specs.Demand.{Demand3, BoundedApart}
use Rattle.project.specs.File.{File, task_count}
use Rattle.project.specs.Tasks.{tasks_of, file_pair, PairNumbers, file_cache}
use Rattle.table.specs.Table.{TableEntries}
use Rattle.sheet.specs.Sheet.{Sheet, Fits, run_numbers}
use Rattle.replay.specs.Replay.{counted, replaying_of}
use Rattle.replay.specs.ReplayVerdict.{Replayed}

-- the sheet of a run, and the run's U, D and lost hits in the file's cache
abbrev pub sheet_of : (s : File) → DisturbedRun (tasks_of s) → Sheet
sheet_of s run = run_numbers (tasks_of s) run

abbrev pub file_u : (s : File) → DisturbedRun (tasks_of s) → ℕ
file_u s run = U (file_cache s) run

abbrev pub file_d : (s : File) → DisturbedRun (tasks_of s) → ℕ
file_d s run = D (file_cache s) run

abbrev pub file_lost : (s : File) → DisturbedRun (tasks_of s) → ℕ
file_lost s run = lost_hits (file_cache s) run

-- "Where replay accepts a sheet of the run, U and D are its answers.": of the run that is given; Point 5: "Replay adds a third number"
abbrev pub ReplayAnswers : File → Type 0
ReplayAnswers s =
    (run : DisturbedRun (tasks_of s)) (u d l : ℕ) → replaying_of s (sheet_of s run) ≡ Ok (counted u d l)
    → (u ≡ file_u s run) × (d ≡ file_d s run) × (l ≡ file_lost s run)

-- every sheet that replay accepts is that of a disturbed run
abbrev pub SheetsDescribe : File → Type 0
SheetsDescribe s = (sheet : Sheet) (u d l : ℕ) → replaying_of s sheet ≡ Ok (counted u d l) → Replayed s sheet u d l

-- replay accepts the sheet of every disturbed run that a sheet can hold; the sheet is one of two-byte numbers
abbrev pub RunsReplayed : File → Type 0
RunsReplayed s =
    (run : DisturbedRun (tasks_of s)) → Fits (tasks_of s) run
    → (replaying_of s (sheet_of s run) ≡ Ok (counted (file_u s run) (file_d s run) (file_lost s run))) × All (λ (x : ℕ). x < 65536) (sheet_of s run)

-- no block of the file is masked
abbrev pub NoMasks : File → Type 0
NoMasks s = (i b : ℕ) → b < length (task (tasks_of s) i) → Unmasked (task (tasks_of s) i) b

-- a run of i with exactly one preemption, by j, whose D is U plus the pair number
abbrev pub ReachedApart : File → ℕ → ℕ → Type 0
ReachedApart s i j = (run : DisturbedRun (tasks_of s)) × (run.p ≡ i) × OnceBy j run.preemptions × (file_d s run ≡ file_u s run + file_pair s i j)

-- what document 01 says of a file of which no two tasks share a memory block, and more: of every disturbed run and of Replay's answers U <= D, and D is
-- U and the lost hits; and for every two different tasks, the first with an unmasked block, D - U reaches the number
pub record RunsApart (s : File) : Type 0 where
  pub runs : (run : DisturbedRun (tasks_of s)) → BoundedApart (file_cache s) (tasks_of s) run
  pub answers : (sheet : Sheet) (u d l : ℕ) → replaying_of s sheet ≡ Ok (counted u d l) → (u ≤ d) × (d ≡ u + l)
  pub reached : (i j : ℕ) → i < task_count s → j < task_count s → j ≢ i → SomeUnmasked (task (tasks_of s) i) → ReachedApart s i j

-- demand 3 whole, over an accepted file: for every disturbed run the lost hits are at most the sum of the pair numbers and D at most U + that sum, and
-- for every two different tasks, the first with an unmasked block, a run with exactly one preemption whose lost hits are its number (`Demand3`); the
-- numbers are those over paths ("Its pair numbers are those defined above"), the table's entries are these numbers, and the replay's answers these U, D and lost hits
pub record Demand3Whole (s : File) : Type 0 where
  pub runs : Demand3 (file_cache s) (tasks_of s)
  pub numbers : PairNumbers s (file_pair s)
  pub entries : TableEntries 16 s
  pub answers : ReplayAnswers s
  pub described : SheetsDescribe s
  pub sheets : RunsReplayed s
