-- The part of one task in what is found once for each task of a file: it stands in the table, and it is what the task's body gives.
use mathlib.Core.Path.{◌≡◌, sym, ap₂, subst, ◌∙◌}
use mathlib.Core.Bool.{Bool, true}
use mathlib.Core.List.{List}
use Prim.Native.Nat.{ℕ, ◌≤◌, ◌<◌}
use native.Mathlib.Omega.{arith}
use lib.ListN.{length, get_or}
use Rattle.model.specs.Tasks.{task}
use Rattle.body.specs.Layout.{InBounds}
use Rattle.body.specs.Decode.{decode, task_of}
use Rattle.body.proofs.Decoded.{decoded-bounds}
use Rattle.body.proofs.WalksParts.{kept-decoded}
use Rattle.project.specs.File.{task_count, body_of}
use Rattle.project.specs.Reading.{reading_of, counts_of}
use Rattle.project.specs.Bodies.{accepted}
use Rattle.project.specs.Tasks.{tasks_of}
use Rattle.project.proofs.Accepted.{passing, accepted-passed}
use Rattle.reader.proofs.TaskBodies.{reading, task-body, body_kept, body-task}
use Rattle.sheet.specs.Parsed.{complete_path, complete_by_sets}
use Rattle.sheet.proofs.StepLaws.{complete-by-sets}
use Rattle.task_maps.specs.declared.TaskMap.{TaskMap}
use Rattle.task_maps.specs.TaskMaps.{IsMapOf, no_map, HasMaps}

pub few_tasks : (s : List ℕ) → accepted (reading_of s) ≡ true → task_count s ≤ 8
few_tasks s h = (passing s (accepted-passed s (counts_of s) (reading s h)).0).t_high

module _ (s : List ℕ) (file : accepted (reading_of s) ≡ true) {y : ℕ} (there : y < task_count s) {body : List ℕ} (eb : body ≡ body_of s y) where
  its_task : task_of (decode body) ≡ task (tasks_of s) y
  its_task = body-task s y (task-body s file y there) eb

  bounds : InBounds (task_of (decode body))
  bounds = let (t, e) = kept-decoded (decode body) (body_kept s y (task-body s file y there) eb) in rw e (decoded-bounds body t e)

  module _ {maps : List TaskMap} (h : HasMaps s maps) where
    pub map-is : IsMapOf body (get_or maps y no_map)
    map-is = subst (λ (b : List ℕ). IsMapOf b (get_or maps y no_map)) (sym eb) (h.each y there)

    pub map_there : y < length maps
    map_there = omega (arith, h.long, there, few_tasks s file)

    pub jumps-complete : (path : List ℕ) {n : ℕ} {b : Bool} → n ≡ length (task_of (decode body))
        → b ≡ complete_by_sets (get_or maps y no_map).jumps n path → b ≡ complete_path (task_of (decode body)) path
    jumps-complete path en e =
        e ∙ ap₂ (λ (sets : List ℕ) (n : ℕ). complete_by_sets sets n path) map-is.jumps en ∙ complete-by-sets (task_of (decode body)) bounds path
