-- Document 01, "Numbers of the checks", and document 02, Points 1 and 6: the checks on a run sheet, with a file. Definitions only.
use Rattle.project.specs.declared.answers.Check.TheVariants.{MaskedPoint, SheetRules, WrongPath}
use Rattle.project.specs.Checklist.{Checked}
use Rattle.std.specs.Prelude.{◌≡◌, Bool, true, not, ◌&&◌, List, [], ◌∷◌}
use Rattle.project.specs.File.{File, task_count}
use Rattle.project.specs.Checklist.{Entry, one, no_task, verdict_of}
use Rattle.project.specs.Reading.{reading_of}
use Rattle.project.specs.Bodies.{accepted}
use Rattle.project.specs.Tasks.{tasks_of}
use Rattle.sheet.specs.Sheet.{SheetRun, Sheet, Fault12, Fault13, Fault16}
use Rattle.sheet.specs.Parsed.{parse, kept_sheet, run_of, complete_all, done_all, unmasked_all}

-- the run that the sheet says, of tasks of the file s
abbrev pub run_in : File → Sheet → SheetRun
run_in s sheet = run_of (parse (task_count s) sheet)

-- check 12: the sheet is not the numbers of a run that keeps the rules
abbrev pub test12 : File → Sheet → Bool
test12 s sheet = not (kept_sheet (parse (task_count s) sheet))

-- check 13: some path of the run isn't complete, or some number of references done is wrong (document 02, Point 6: "a wrong number of references is
-- check 13")
abbrev pub test13 : File → Sheet → Bool
test13 s sheet = not (complete_all (tasks_of s) (run_in s sheet) && done_all (tasks_of s) (run_in s sheet))

-- check 16: some preemption of the run comes in a masked block
abbrev pub test16 : File → Sheet → Bool
test16 s sheet = not (unmasked_all (tasks_of s) (run_in s sheet))

-- the checks on the sheet; document 02, Point 1: "16, a preemption at a masked position, after 13"
abbrev pub sheet_checks : File → Sheet → List Entry
sheet_checks s sheet =
    one SheetRules no_task (test12 s sheet) (Fault12 (task_count s) sheet)
    ∷ one WrongPath no_task (test13 s sheet) (Fault13 (tasks_of s) sheet)
    ∷ one MaskedPoint no_task (test16 s sheet) (Fault16 (tasks_of s) sheet)
    ∷ []

abbrev pub sheet_check : File → Sheet → Checked
sheet_check s sheet = verdict_of (sheet_checks s sheet)

-- ---- for the functions that come after a check

-- checks 2 to 12 pass
pub record Passed12 (s : File) (sheet : Sheet) : Type 0 where
  pub file : accepted (reading_of s) ≡ true
  pub kept : kept_sheet (parse (task_count s) sheet) ≡ true

-- checks 2 to 13 pass
pub record Passed13 (s : File) (sheet : Sheet) : Type 0 where
  pub rules : Passed12 s sheet
  pub complete : complete_all (tasks_of s) (run_in s sheet) ≡ true
  pub done : done_all (tasks_of s) (run_in s sheet) ≡ true
