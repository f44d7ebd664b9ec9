-- A run that begins at a place of a sheet, in the code's words: it stands in the sheet, and its task, its path and its list are those of the definitions.
use mathlib.Core.Path.{◌≡◌, refl, ap, ap₂, ◌∙◌}
use mathlib.Core.Bool.{true}
use mathlib.Core.List.{List}
use Prim.Native.Nat.{ℕ, ◌+◌, ◌-◌, ◌≤◌, ◌<◌}
use native.Mathlib.Omega.{arith}
use lib.ListN.{length, get_or, take, drop}
use Rattle.model.specs.Tasks.{task}
use Rattle.body.specs.Decode.{decode, task_of}
use Rattle.body.specs.Walk.{kept_of}
use Rattle.body.proofs.WalksParts.{part_is}
use Rattle.project.specs.File.{task_count, body_of}
use Rattle.project.specs.Tasks.{tasks_of}
use Rattle.reader.proofs.TaskBodies.{task-body, body_kept, body-task}
use Rattle.sheet.specs.Sheet.{Sheet}
use Rattle.nested_sheet.specs.NestedRuns.{task_at, path_at, count_at, list_start, list_of, own_list}
use Rattle.nested_replay.specs.Passes.{RunReads}
use Rattle.nested_replay.proofs.SheetLists.{list_grows}

-- the part of the sheet with a path of k blocks
abbrev pub path_part : Sheet → ℕ → ℕ → List ℕ
path_part sheet at k = take (at + 2 + k - (at + 2)) (drop (at + 2) sheet)

-- k is the number of its length, c that of its count
module _ (sheet : Sheet) (at : ℕ) {k : ℕ} (ek : k ≡ get_or sheet (at + 1) 0) where
  pub part_path : path_part sheet at k ≡ path_at sheet at
  part_path = part_is sheet refl ek

pub its_list : (sheet : Sheet) (deep at : ℕ) {k c : ℕ} → k ≡ get_or sheet (at + 1) 0 → c ≡ get_or sheet (at + 2 + k) 0 → list_of deep sheet c (at + 2 + k + 1) ≡ own_list deep sheet at
its_list sheet deep at {k} ek en =
    let start : at + 2 + k + 1 ≡ list_start sheet at = omega (arith, ek) in
    ap₂ (list_of deep sheet) (en ∙ ap (λ (x : ℕ). get_or sheet (at + 2 + x) 0) ek) start

module _ (s sheet : List ℕ) (deep at : ℕ) (h : RunReads s sheet deep at) where
  pub run-stands : list_start sheet at ≤ length sheet
  run-stands = omega (arith, h.ends, list_grows deep sheet (count_at sheet at) (list_start sheet at))

  -- y is the number of its task, and `body` is the body of the task
  module _ {y : ℕ} (ey : y ≡ get_or sheet at 0) where
    pub run-there : y < task_count s
    run-there = omega (arith, ey, h.run.there)

    module _ {body : List ℕ} (eb : body ≡ body_of s y) where
      pub run-kept : kept_of (decode body) ≡ true
      run-kept = body_kept s y (task-body s h.file y run-there) eb

      pub run-task : task_of (decode body) ≡ task (tasks_of s) (task_at sheet at)
      run-task = body-task s y (task-body s h.file y run-there) eb ∙ ap (task (tasks_of s)) ey
