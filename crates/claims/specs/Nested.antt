-- Document 02, Point 7, over files and calls, as one claim about an accepted file. Definitions only.
use Rattle.std.specs.Prelude.{Ok}
use Rattle.std.specs.Prelude.{◌≡◌, ℕ, ◌≤◌, ◌<◌}
use Rattle.cache.specs.References.{All}
use Rattle.cache.specs.Cache.{empty_row}
use Rattle.model.specs.Nested.{NestedRun, total, nested_bound, NestedBounded}
use Rattle.project.specs.File.{File}
use Rattle.project.specs.Tasks.{tasks_of, file_cache}
use Rattle.sheet.specs.Sheet.{Sheet}
use Rattle.nested_sheet.specs.NestedSheet.{NestedFits, nested_sheet}
use Rattle.nested_replay.specs.NestedReplay.{nested_replaying_of}
use Rattle.nested_replay.specs.NestedVerdict.{NestedReplayed}

-- "The call answers that total from an empty cache."
abbrev pub file_total : (s : File) → NestedRun (tasks_of s) → ℕ
file_total s run = total (file_cache s) (empty_row (file_cache s)) run

-- for every nested run, of any depth and count, and every first contents the total is at most the bound; where Nested replay accepts a sheet, it is that
-- of a nested run, whose total from the empty cache is the answer, of the run that is given if the sheet is its own; and every nested run that a sheet
-- can hold has its answer, by a sheet of two-byte numbers
pub record NestedWhole (s : File) : Type 0 where
  pub bounds : (run : NestedRun (tasks_of s)) → NestedBounded (file_cache s) run
  pub described : (sheet : Sheet) (x : ℕ) → nested_replaying_of s sheet ≡ Ok x → NestedReplayed s sheet x
  pub answers : (run : NestedRun (tasks_of s)) (x : ℕ) → nested_replaying_of s (nested_sheet (tasks_of s) run) ≡ Ok x → x ≡ file_total s run
  pub bounded : (run : NestedRun (tasks_of s)) (x : ℕ) → nested_replaying_of s (nested_sheet (tasks_of s) run) ≡ Ok x → x ≤ nested_bound (file_cache s) run
  pub sheets : (run : NestedRun (tasks_of s)) → NestedFits (tasks_of s) run
      → (nested_replaying_of s (nested_sheet (tasks_of s) run) ≡ Ok (file_total s run)) × All (λ (x : ℕ). x < 65536) (nested_sheet (tasks_of s) run)
