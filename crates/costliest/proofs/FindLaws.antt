-- What the callees of `find` ensure, of the task of the file and of the parts of a work area.
use mathlib.Core.Path.{◌≡◌, subst}
use mathlib.Core.Bool.{Bool, true}
use mathlib.Core.List.{List}
use Prim.Native.Nat.{ℕ, ◌<◌}
use Rattle.cache.specs.Cache.{Cache}
use Rattle.model.specs.Tasks.{Task, task}
use Rattle.body.specs.Decode.{decode, task_of}
use Rattle.gather.specs.Memory.{held_rows}
use Rattle.project.specs.File.{task_count, body_of}
use Rattle.project.specs.Reading.{reading_of}
use Rattle.project.specs.Bodies.{accepted}
use Rattle.project.specs.Tasks.{tasks_of}
use Rattle.reader.proofs.TaskBodies.{task-body, body-task}
use Rattle.task_trails.specs.TaskTrails.{AreaTrails}
use Rattle.search.specs.Search.{Searched}
use Rattle.search.specs.declared.Found.{Found}

-- the trails of the task that a body says are those of the task of the file
pub file_trails : (k : Cache) (s : List ℕ) (j : ℕ) → accepted (reading_of s) ≡ true → j < task_count s → (body area reached lived to on : List ℕ) (full : Bool) → body ≡ body_of s j
    → AreaTrails k (task_of (decode body)) area reached lived to on full → AreaTrails k (task (tasks_of s) j) area reached lived to on full
file_trails k s j ok inside body area reached lived to on full e h = subst (λ (t : Task). AreaTrails k t area reached lived to on full) (body-task s j (task-body s ok j inside) e) h

-- what is found in the parts of an area as the code cuts them, and among these end rows
pub searched_parts : (k : Cache) (t : Task) (w : ℕ) (reached lived : List ℕ) (fs : List (List ℕ)) {rows rows' live live' : List ℕ} (r : Found) → rows ≡ rows' → live ≡ live'
    → Searched k t (held_rows w rows reached) (held_rows w live lived) fs r → Searched k t (held_rows w rows' reached) (held_rows w live' lived) fs r
searched_parts k t w reached lived fs {rows} {rows'} {live} {live'} r er el h =
    subst (λ (x : List ℕ). Searched k t (held_rows w rows' reached) (held_rows w x lived) fs r) el
    (subst (λ (x : List ℕ). Searched k t (held_rows w x reached) (held_rows w live lived) fs r) er h)
