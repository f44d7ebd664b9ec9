-- The own path in the code's words: its part of the sheet and the body of its task, where all paths of the run are complete.
use mathlib.Core.Path.{◌≡◌, ap, ◌∙◌}
use mathlib.Core.Bool.{true}
use mathlib.Core.List.{List}
use Prim.Native.Nat.{ℕ, ◌+◌, ◌-◌, ◌<◌}
use native.Mathlib.Omega.{arith}
use lib.ListN.{length, get_or, take, drop}
use Rattle.cache.specs.References.{All}
use Rattle.model.specs.Tasks.{Task, task}
use Rattle.model.proofs.Disjoint.{all_map}
use Rattle.model.proofs.Membership.{both_left}
use Rattle.body.specs.Layout.{InBounds}
use Rattle.body.specs.Decode.{decode, task_of}
use Rattle.body.specs.Walk.{kept_of, starts_of}
use Rattle.project.specs.File.{body_of}
use Rattle.project.specs.Reading.{reading_of}
use Rattle.project.specs.Bodies.{accepted}
use Rattle.project.specs.Tasks.{tasks_of}
use Rattle.reader.proofs.TaskBodies.{tasks_long, task-body, task-bounds, body_kept, body-task}
use Rattle.sheet.specs.Parsed.{complete_path, complete_all}
use Rattle.sheet.proofs.CompletePaths.{complete-blocks}
use Rattle.runs.specs.Running.{PathIn}
use Rattle.sheet_checks.specs.SheetChecks.{run_in, Passed12}
use Rattle.sheet_checks.proofs.SheetLaws.{SheetFacts, sheet_facts, own-there, own-path}

-- ---- the own path

-- the task of the run
abbrev pub own_task : List ℕ → List ℕ → Task
own_task s sheet = task (tasks_of s) (run_in s sheet).p

-- the part of the sheet with a path of k blocks
abbrev pub path_part : List ℕ → ℕ → List ℕ
path_part sheet k = take (2 + k - 2) (drop 2 sheet)

module _ (s sheet : List ℕ) (rules : Passed12 s sheet) where
  pub own_facts : SheetFacts s sheet
  own_facts = sheet_facts s sheet rules

  pub own-bounds : InBounds (own_task s sheet)
  own-bounds = task-bounds s (run_in s sheet).p rules.file own_facts.rules.there

  -- y and k are the numbers of its task and of its length, and `body` is the body of the task
  module _ {y k : ℕ} {body : List ℕ} (ey : y ≡ get_or sheet 0 0) (ek : k ≡ get_or sheet 1 0) (eb : body ≡ body_of s y) where
    pub own-task : task_of (decode body) ≡ own_task s sheet
    own-task = body-task s y (task-body s rules.file y (own-there s sheet own_facts ey ek)) eb ∙ ap (task (tasks_of s)) (ey ∙ own_facts.places.task-at)

    pub own-blocks : path_part sheet k ≡ (run_in s sheet).path
    own-blocks = own-path s sheet own_facts ey ek

    pub own-kept : kept_of (decode body) ≡ true
    own-kept = body_kept s y (task-body s rules.file y (own-there s sheet own_facts ey ek)) eb

    pub own_in : complete_all (tasks_of s) (run_in s sheet) ≡ true → {starts : List ℕ} → starts ≡ starts_of (decode body) → PathIn body starts (path_part sheet k)
    own_in c es = record {
      runs = record { kept = own-kept; below = below own-task own-blocks };
      begin = es;
    }
      where
        below : {t : Task} {path : List ℕ} → t ≡ own_task s sheet → path ≡ (run_in s sheet).path → All (λ (b : ℕ). b < length t) path
        below et ep = rw (et, ep) (complete-blocks (own_task s sheet) (run_in s sheet).path (both_left (complete_path (own_task s sheet) (run_in s sheet).path) _ c))

-- ---- the blocks of a complete path are numbers of two bytes

pub path_two_bytes : (s : List ℕ) → accepted (reading_of s) ≡ true → (j : ℕ) (path : List ℕ) → j < length (tasks_of s)
    → complete_path (task (tasks_of s) j) path ≡ true → All (λ (x : ℕ). x < 65536) path
path_two_bytes s h j path l c =
    all_map (λ b k. omega (arith, (task-bounds s j h (rw (tasks_long s) at l)).few)) path (complete-blocks (task (tasks_of s) j) path c)
