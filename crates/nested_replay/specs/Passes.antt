-- For the functions within Nested replay: the pass over all runs for checks 13 and 16, and the pass that makes all references. Definitions only.
use Rattle.project.specs.declared.answers.Check.TheVariants.{MaskedPoint, WrongPath}
use Rattle.project.specs.Checklist.{refusal, Checked}
use Rattle.std.specs.Prelude.{Option, Some, None, Ok, Err, ◌≡◌, Bool, true, ◌&&◌, cond, List, ◌++◌, ℕ, zero, suc, ◌+◌, ◌*◌, ◌≤◌, ◌<◌, length}
use Rattle.model.specs.Tasks.{Task, Path, Complete, task}
use Rattle.model.specs.Runs.{RowCount}
use Rattle.model.specs.Nested.{RunList, no_run, a_run, RiseFrom, all_references}
use Rattle.project.specs.File.{File, task_count}
use Rattle.project.specs.Reading.{reading_of}
use Rattle.project.specs.Bodies.{accepted}
use Rattle.project.specs.Tasks.{tasks_of}
use Rattle.sheet.specs.Sheet.{Sheet, longest_path}
use Rattle.runs.specs.Running.{row_count}
use Rattle.runs.specs.Parts.{references_at, part_of, last_point}
use Rattle.runs.specs.declared.part.PathPoint.{PathPoint}
use Rattle.nested_sheet.specs.NestedSheet.{RunInRules, ListInRules, ListRight}
use Rattle.nested_replay.specs.declared.checks.Right.{Right}
use Rattle.nested_replay.specs.declared.totals.TotalCache.{TotalCache}
use Rattle.nested_sheet.specs.NestedRuns.{task_at, path_at, ListAt, own_list, run_right, list_right, list_unmasked, nested_run_of, nested_right, nested_unmasked}

-- ---- checks 13 and 16 in one pass

-- what the pass answers of a run or a list: whether it is right, and if so where it ends and whether its points lie in unmasked blocks
abbrev pub right_at : ℕ → Bool → Right
right_at next unmasked = record { next = next; unmasked = unmasked }

abbrev pub checked_of : Bool → Bool → ℕ → Option Right
checked_of right unmasked next = cond right (Some (right_at next unmasked)) None

-- of two parts of a list, where the first is right: by whether its points lie in unmasked blocks, and by what is told of the other
abbrev pub with_first : Bool → Option Right → Option Right
with_first first None = None
with_first first (Some r) = Some (right_at r.next (first && r.unmasked))

-- of the run that begins at `at`
abbrev pub checked_run : File → Sheet → ℕ → ℕ → Option Right
checked_run s sheet deep at =
    checked_of (run_right (tasks_of s) (task_at sheet at) (path_at sheet at) (own_list deep sheet at).runs)
    (list_unmasked (tasks_of s) (task (tasks_of s) (task_at sheet at)) (path_at sheet at) (own_list deep sheet at).runs) (own_list deep sheet at).next

-- of a list xs, in a run of the task t along a path
abbrev pub checked_list : File → Task → Path → ListAt → Option Right
checked_list s t path xs = checked_of (list_right (tasks_of s) t path xs.runs) (list_unmasked (tasks_of s) t path xs.runs) xs.next

-- checks 13 and 16 of the whole sheet, 13 first
abbrev pub runs_check : File → Sheet → Checked
runs_check s sheet =
    cond (nested_right (tasks_of s) (nested_run_of sheet)) (cond (nested_unmasked (tasks_of s) (nested_run_of sheet)) (Ok tt) (Err (refusal MaskedPoint 255))) (Err (refusal WrongPath 255))

-- an accepted file, and a run within a sheet, of which the rules of check 12 hold
pub record RunReads (s : File) (sheet : Sheet) (deep at : ℕ) : Type 0 where
  pub file : accepted (reading_of s) ≡ true
  pub run : RunInRules (task_count s) (task_at sheet at) (path_at sheet at) (own_list deep sheet at).runs
  pub list : ListInRules (task_count s) (length (path_at sheet at)) (own_list deep sheet at).runs
  pub ends : (own_list deep sheet at).next ≤ length sheet

-- ---- all references

abbrev pub held_total : TotalCache → RowCount
held_total c = row_count c.cells c.misses

-- the references of the run of a task t along a path from a point on, with those of the runs of its list, which come at later points
abbrev pub rest_references : List Task → Task → Path → PathPoint → RunList → List ℕ
rest_references ts t path from no_run = part_of t path from (last_point t path)
rest_references ts t path from (a_run i d by own inner rest) =
    part_of t path from (record { position = i; done = d })
    ++ (all_references ts by own inner ++ rest_references ts t path (record { position = i; done = d }) rest)

-- all references of the run that begins at `at`
abbrev pub references_from : File → Sheet → ℕ → ℕ → List ℕ
references_from s sheet deep at = all_references (tasks_of s) (task_at sheet at) (path_at sheet at) (own_list deep sheet at).runs

-- a run whose paths are complete, with right numbers of references done
pub record RunReplays (s : File) (sheet : Sheet) (deep at : ℕ) : Type 0 where
  pub reads : RunReads s sheet deep at
  pub complete : Complete (task (tasks_of s) (task_at sheet at)) (path_at sheet at)
  pub right : ListRight (tasks_of s) (task (tasks_of s) (task_at sheet at)) (path_at sheet at) (own_list deep sheet at).runs

-- a list with the same, in a run of the task t along a path, where the point `from` is reached
pub record ListReplays (s : File) (sheet : Sheet) (t : Task) (path : Path) (from : PathPoint) (xs : ListAt) : Type 0 where
  pub file : accepted (reading_of s) ≡ true
  pub short : length path ≤ longest_path
  pub in_path : from.position < length path
  pub from_done : from.done ≤ length (references_at t path from.position)
  pub rules : ListInRules (task_count s) (length path) xs.runs
  pub right : ListRight (tasks_of s) t path xs.runs
  pub rising : RiseFrom from.position from.done xs.runs
  pub ends : xs.next ≤ length sheet

-- the most references of a run within which `deep` runs lie one within the other: its path has at most 1,536 blocks of 16 references, and its list at
-- most sixteen runs
abbrev pub most_references : ℕ → ℕ
most_references zero = 24576
most_references (suc deep) = 24576 + 16 * most_references deep
