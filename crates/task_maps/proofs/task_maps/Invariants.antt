-- `task_maps` meets its contract: after j turns the maps of the first j tasks are set. Assumes nothing.
use Prim.Native.Nat.{◌≤◌}
use Rattle.task_maps.specs.TaskMaps.{MapsBelow}
use Rattle.task_maps.proofs.task_maps.Given as goal

abbrev pub invariant-loop-j : goal.invariant-loop-j
invariant-loop-j l = (l.j ≤ l.tasks) × MapsBelow l.file l.j l.maps
