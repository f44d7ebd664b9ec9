-- Document 01, "Calls" and "Numbers of the checks": States. Definitions only.
use Rattle.std.specs.Prelude.{◌≡◌, ◌≢◌, Bool, true, false, not, List, [], ◌∷◌, ◌++◌, ℕ, ◌<◌, eqb, leb, length, replicate, Ok, Err}
use Rattle.cache.specs.Cache.{Cache}
use Rattle.model.specs.Tasks.{Task, task}
use Rattle.model.specs.States.{Fault11}
use Rattle.project.specs.declared.answers.Check.TheVariants.{ListLength, TooManyStates, NoSuchTask}
use Rattle.project.specs.File.{File, task_count}
use Rattle.project.specs.Checklist.{Entry, one, no_task, Checked, verdict_of}
use Rattle.project.specs.Reading.{file_checks}
use Rattle.project.specs.Tasks.{tasks_of, file_cache_in, file_cache}
use Rattle.rows.specs.Rows.{Area, area_length}
use Rattle.graphs.specs.TaskRows.{test11}
use Rattle.area.specs.Area.{area_of}

-- check 1: "work area or table of another length"
abbrev pub test1 : ℕ → Area → Bool
test1 w area = not (eqb (length area) (area_length w))

abbrev pub Fault1 : ℕ → Area → Type 0
Fault1 w area = length area ≢ area_length w

-- check 15: "task not below t"
abbrev pub Fault15 : File → ℕ → Type 0
Fault15 s j = j < task_count s → ⊥

-- the checks on the task that is asked for: "15, then 11 for its task"
abbrev pub asked_checks : ℕ → File → ℕ → List Entry
asked_checks w s j =
    one NoSuchTask no_task (leb (task_count s) j) (Fault15 s j)
    ∷ one TooManyStates j (test11 (file_cache_in w s) (task (tasks_of s) j)) (Fault11 (file_cache s) (task (tasks_of s) j))
    ∷ []

-- "States checks 1 to 10, 15, then 11 for its task."; without 10 (document 02, Point 5)
abbrev pub states_checks : ℕ → File → ℕ → Area → List Entry
states_checks w s j area = one ListLength no_task (test1 w area) (Fault1 w area) ∷ (file_checks s ++ asked_checks w s j)

-- the checks after 1
abbrev pub task_check : ℕ → File → ℕ → Checked
task_check w s j = verdict_of (file_checks s ++ asked_checks w s j)

unfoldable pub filling_of : ℕ → File → ℕ → Area → Checked
filling_of w s j area = verdict_of (states_checks w s j area)

abbrev pub pick_area : Bool → Checked → Area → Area → Area → Area
pick_area true c old zeros full = old
pick_area false (Ok passed) old zeros full = full
pick_area false (Err r) old zeros full = zeros

-- "States fills its area with zeros, except after 1, which changes nothing."
unfoldable pub area_after : ℕ → File → ℕ → Area → Area
area_after w s j area = pick_area (test1 w area) (task_check w s j) area (replicate (area_length w) 0) (area_of (file_cache_in w s) (task (tasks_of s) j))

-- the states of a task in an area: the answer is check 11 of the task; where that passes, the area is filled
pub record BodyStates (k : Cache) (t : Task) (area : Area) (full : Bool) : Type 0 where
  pub long : length area ≡ area_length k.width
  pub answer : full ≡ test11 k t
  pub filled : full ≡ false → area ≡ area_of k t

-- the checks after 1 and the area that they leave: where they pass the states of task j fill it
pub record TaskStates (w : ℕ) (s : File) (j : ℕ) (area : Area) (answer : Checked) : Type 0 where
  pub long : length area ≡ area_length w
  pub told : answer ≡ task_check w s j
  pub filled : answer ≡ Ok tt → area ≡ area_of (file_cache_in w s) (task (tasks_of s) j)
