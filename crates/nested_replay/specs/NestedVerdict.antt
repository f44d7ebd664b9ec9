-- Document 02, Point 7: the verdict on a file and a nested sheet. Definitions only.
use Rattle.std.specs.Prelude.{◌≡◌, ℕ, Result, Ok, Err}
use Rattle.cache.specs.Cache.{empty_row}
use Rattle.model.specs.Nested.{NestedRun, total}
use Rattle.project.specs.declared.answers.Refusal.{Refusal}
use Rattle.project.specs.File.{File}
use Rattle.project.specs.Checklist.{number_of, AllPass, FirstFault}
use Rattle.project.specs.Tasks.{tasks_of, file_cache}
use Rattle.sheet.specs.Sheet.{Sheet}
use Rattle.nested_sheet.specs.NestedSheet.{nested_sheet}
use Rattle.nested_replay.specs.NestedReplay.{nested_checks}

-- the sheet is that of a nested run, and x is its total from an empty cache
pub record NestedReplayed (s : File) (sheet : Sheet) (x : ℕ) : Type 0 where
  pub run : NestedRun (tasks_of s)
  pub sheet_of_lem : sheet ≡ nested_sheet (tasks_of s) run
  pub counted : x ≡ total (file_cache s) (empty_row (file_cache s)) run

-- what the answer of Nested replay says of its checks, and of the run where they pass
abbrev pub NestedVerdict : File → Sheet → Result ℕ Refusal → Type 0
NestedVerdict s sheet (Err r) = FirstFault (nested_checks s sheet) (number_of r.check) r.task
NestedVerdict s sheet (Ok x) = AllPass (nested_checks s sheet) × NestedReplayed s sheet x
