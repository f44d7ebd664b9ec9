-- Document 02, Point 3, "Show me the run that costs most.", and Points 5 and 6: Costliest run, its checks and its answer, for rows of w places.
-- Definitions only.
use Rattle.std.specs.Prelude.{◌≡◌, ◌≢◌, ◌⊎◌, Bool, not, ◌&&◌, ◌||◌, cond, List, [], ◌∷◌, ◌++◌, map, ℕ, suc, ◌≤◌, ◌<◌, eqb, leb, ltb, length, drop, Ok, Err}
use Rattle.model.specs.Tasks.{SomeUnmasked, task}
use Rattle.model.specs.States.{Fault11}
use Rattle.model.specs.Runs.{DisturbedRun, OnceBy, lost_hits}
use Rattle.project.specs.declared.answers.Check.TheVariants.{ListLength, TooManyStates, SameTasks, SheetLength}
use Rattle.project.specs.File.{File, task_count}
use Rattle.project.specs.Checklist.{Entry, one, each, no_task, refusal, Of, Checked, verdict_of}
use Rattle.project.specs.Reading.{file_checks}
use Rattle.project.specs.Writing.{Writing}
use Rattle.project.specs.Tasks.{tasks_of, file_cache_in, file_cache, file_pair}
use Rattle.rows.specs.Rows.{Area, area_length}
use Rattle.graphs.specs.TaskRows.{test11}
use Rattle.sheet.specs.Sheet.{Sheet, Fits, run_numbers}
use Rattle.run_sheet.specs.Joined.{costliest_sheet_length}

-- ---- the checks

-- check 1: "the two work areas it is lent have document 01's length, else check 1 comes first"
abbrev pub test1 : ℕ → Area → Area → Bool
test1 w first second = not (eqb (length first) (area_length w)) || not (eqb (length second) (area_length w))

abbrev pub Fault1 : ℕ → Area → Area → Type 0
Fault1 w first second = (length first ≢ area_length w) ⊎ (length second ≢ area_length w)

-- check 18: "the two tasks equal or one not below t"
abbrev pub test18 : ℕ → ℕ → ℕ → Bool
test18 t i j = eqb i j || (leb t i || leb t j)

abbrev pub Fault18 : ℕ → ℕ → ℕ → Type 0
Fault18 t i j = (i ≡ j) ⊎ ((i < t → ⊥) ⊎ (j < t → ⊥))

-- check 19: "the lent sheet shorter than 2,310"; Point 6: "the sheet of Point 3 grows to 2,311 numbers"
abbrev pub test19 : Sheet → Bool
test19 sheet = ltb (length sheet) costliest_sheet_length

abbrev pub Fault19 : Sheet → Type 0
Fault19 sheet = length sheet < costliest_sheet_length

-- "then 11 for the two": the tests of the tasks i and j alone, from task a on
abbrev pub for_two : ℕ → ℕ → ℕ → List Bool → List Bool
for_two i j a [] = []
for_two i j a (test ∷ tests) = ((eqb a i || eqb a j) && test) ∷ for_two i j (suc a) tests

abbrev pub two_tests : ℕ → File → ℕ → ℕ → List Bool
two_tests w s i j = for_two i j 0 (map (test11 (file_cache_in w s)) (tasks_of s))

abbrev pub FaultOfTwo : File → ℕ → ℕ → ℕ → Type 0
FaultOfTwo s i j a = ((a ≡ i) ⊎ (a ≡ j)) × Of (Fault11 (file_cache s)) [] (tasks_of s) a

-- "Checks: 18, .., after 10; 19, .., after 18", in a file of t tasks; without 10 (Point 5)
abbrev pub asked_checks : ℕ → ℕ → ℕ → Sheet → List Entry
asked_checks t i j sheet = one SameTasks no_task (test18 t i j) (Fault18 t i j) ∷ one SheetLength no_task (test19 sheet) (Fault19 sheet) ∷ []

-- "then 11 for the two": it names the lower one at fault
abbrev pub two_checks : ℕ → File → ℕ → ℕ → List Entry
two_checks w s i j = each TooManyStates (two_tests w s i j) (FaultOfTwo s i j) ∷ []

-- check 11 of the two, by whether each has a block with too many states
abbrev pub two_check : ℕ → Bool → ℕ → Bool → Checked
two_check i own j other = cond (own && (not other || ltb i j)) (Err (refusal TooManyStates i)) (cond other (Err (refusal TooManyStates j)) (Ok tt))

-- the checks of the call, in its order
abbrev pub costliest_checks : ℕ → File → ℕ → ℕ → Area → Area → Sheet → List Entry
costliest_checks w s i j first second sheet =
    one ListLength no_task (test1 w first second) (Fault1 w first second) ∷ (file_checks s ++ (asked_checks (task_count s) i j sheet ++ two_checks w s i j))

abbrev pub costliest_check : ℕ → File → ℕ → ℕ → Area → Area → Sheet → Checked
costliest_check w s i j first second sheet = verdict_of (costliest_checks w s i j first second sheet)

-- ---- the run

-- "For two tasks, write a run sheet with one preemption whose D - U is their pair number.", where Point 5 puts the lost hits in place of D - U: "That
-- number is what a pair number .. reaches for one preemption, in the sheet of Point 3 too"; "If the preempted task has no unmasked block the sheet has
-- no preemption."; the run is one that a sheet can hold
pub record Costliest (s : File) (i j : ℕ) (run : DisturbedRun (tasks_of s)) : Type 0 where
  pub preempted : run.p ≡ i
  pub once : SomeUnmasked (task (tasks_of s) i) → OnceBy j run.preemptions
  pub never : (SomeUnmasked (task (tasks_of s) i) → ⊥) → run.preemptions ≡ []
  pub fits : Fits (tasks_of s) run
  pub costs : lost_hits (file_cache s) run ≡ file_pair s i j

-- "Which such run is written is left free; its length is answered, and places after it keep their contents."; it never has more than 2,311 numbers
pub record WrittenRun (s : File) (i j : ℕ) (old : Sheet) (answer : Writing) (new : Sheet) : Type 0 where
  pub run : DisturbedRun (tasks_of s)
  pub costliest : Costliest s i j run
  pub few : length (run_numbers (tasks_of s) run) ≤ costliest_sheet_length
  pub answered : answer ≡ Ok (length (run_numbers (tasks_of s) run))
  pub sheet : new ≡ run_numbers (tasks_of s) run ++ drop (length (run_numbers (tasks_of s) run)) old

-- what is answered, and what the sheet holds afterwards, by the verdict of the checks: "Any refusal leaves the sheet untouched"
abbrev pub CostliestAnswer : Checked → File → ℕ → ℕ → Sheet → Writing → Sheet → Type 0
CostliestAnswer (Ok passed) s i j old answer new = WrittenRun s i j old answer new
CostliestAnswer (Err r) s i j old answer new = (answer ≡ Err r) × (new ≡ old)
