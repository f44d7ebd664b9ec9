-- Document 02, Point 7: Nested replay, its checks and its answer. Definitions only.
use Rattle.project.specs.declared.answers.Check.TheVariants.{MaskedPoint, SheetRules, TooDeep, WrongPath}
use Rattle.std.specs.Prelude.{Result, Ok, Err, Bool, not, cond, List, [], ◌∷◌, ◌++◌, ℕ, eqb}
use Rattle.cache.specs.Cache.{empty_row}
use Rattle.model.specs.Nested.{total_misses}
use Rattle.project.specs.declared.answers.Refusal.{Refusal}
use Rattle.project.specs.File.{File, task_count}
use Rattle.project.specs.Checklist.{Entry, one, no_task, refusal, Checked, verdict_of, answered}
use Rattle.project.specs.Reading.{file_checks}
use Rattle.project.specs.Tasks.{tasks_of, file_cache}
use Rattle.sheet.specs.Sheet.{Sheet}
use Rattle.nested_sheet.specs.NestedSheet.{NestedSheetRun, Nested13, Nested16}
use Rattle.nested_sheet.specs.FrontToBack.{Nested12, Nested20}
use Rattle.nested_sheet.specs.Reading.{sheet_fault}
use Rattle.nested_sheet.specs.NestedRuns.{nested_run_of, nested_right, nested_unmasked}

-- checks 12 and 20: what the first number at fault is against
abbrev pub nested12 : File → Sheet → Bool
nested12 s sheet = eqb (sheet_fault (task_count s) sheet) 12

abbrev pub nested20 : File → Sheet → Bool
nested20 s sheet = eqb (sheet_fault (task_count s) sheet) 20

-- both: what the first number at fault is against, in a file of t tasks
abbrev pub numbers_check : ℕ → Sheet → Checked
numbers_check t sheet =
    cond (eqb (sheet_fault t sheet) 12) (Err (refusal SheetRules no_task)) (cond (eqb (sheet_fault t sheet) 20) (Err (refusal TooDeep no_task)) (Ok tt))

-- check 13: some path isn't complete, or some number of references done is wrong
abbrev pub nested13 : File → Sheet → Bool
nested13 s sheet = not (nested_right (tasks_of s) (nested_run_of sheet))

-- check 16: some preemption comes in a masked block
abbrev pub nested16 : File → Sheet → Bool
nested16 s sheet = not (nested_unmasked (tasks_of s) (nested_run_of sheet))

-- "the first number at fault decides between 12 and 20 ..; 13 and then 16 follow, each over all runs": at most one of the first two fails
abbrev pub nested_sheet_checks : File → Sheet → List Entry
nested_sheet_checks s sheet =
    one SheetRules no_task (nested12 s sheet) (Nested12 (task_count s) sheet)
    ∷ one TooDeep no_task (nested20 s sheet) (Nested20 (task_count s) sheet)
    ∷ one WrongPath no_task (nested13 s sheet) (Nested13 (tasks_of s) sheet)
    ∷ one MaskedPoint no_task (nested16 s sheet) (Nested16 (tasks_of s) sheet)
    ∷ []

abbrev pub nested_sheet_check : File → Sheet → Checked
nested_sheet_check s sheet = verdict_of (nested_sheet_checks s sheet)

-- the file's checks, and then the sheet's
abbrev pub nested_checks : File → Sheet → List Entry
nested_checks s sheet = file_checks s ++ nested_sheet_checks s sheet

abbrev pub nested_check : File → Sheet → Checked
nested_check s sheet = verdict_of (nested_checks s sheet)

-- "The call answers that total from an empty cache."
abbrev pub total_in : File → NestedSheetRun → ℕ
total_in s r = total_misses (file_cache s) (tasks_of s) (empty_row (file_cache s)) r.p r.path r.runs

-- the total where the checks pass, else the check that fails first and the task it names
abbrev pub nested_replaying_of : File → Sheet → Result ℕ Refusal
nested_replaying_of s sheet = answered (nested_check s sheet) (total_in s (nested_run_of sheet))
