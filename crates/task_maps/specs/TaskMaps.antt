-- What the passes over a nested sheet need of each task of a file, found once. Definitions only.
use Rattle.std.specs.Prelude.{◌≡◌, List, ℕ, ◌<◌, length, get_or, []}
use Rattle.body.specs.Layout.{Body}
use Rattle.body.specs.Decode.{decode, task_of}
use Rattle.body.specs.Walk.{starts_of}
use Rattle.body.specs.Jumps.{jump_sets, unmasked_set}
use Rattle.project.specs.File.{File, task_count, body_of}
use Rattle.task_maps.specs.declared.TaskMap.{TaskMap}

-- where the blocks of the task of a body begin, the sets of their successors, and the set of its unmasked blocks
pub record IsMapOf (b : Body) (m : TaskMap) : Type 0 where
  pub starts : m.starts ≡ starts_of (decode b)
  pub jumps : m.jumps ≡ jump_sets (task_of (decode b))
  pub unmasked : m.unmasked ≡ unmasked_set (task_of (decode b))

-- what stands for the map of a task that a list has none of
abbrev pub no_map : TaskMap
no_map = record { starts = []; jumps = []; unmasked = 0 }

-- the maps of the tasks below j; the places of the others are left open
pub record MapsBelow (s : File) (j : ℕ) (maps : List TaskMap) : Type 0 where
  pub long : length maps ≡ 8
  pub each : (i : ℕ) → i < j → IsMapOf (body_of s i) (get_or maps i no_map)

-- those of all tasks of a file
abbrev pub HasMaps : File → List TaskMap → Type 0
HasMaps s maps = MapsBelow s (task_count s) maps
