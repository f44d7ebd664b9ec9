-- `ends::find_ends` meets its contract. The loop's invariant: the end rows of the tasks below j are found, and none of any other. Assumes nothing.
use mathlib.Core.Path.{◌≡◌}
use Prim.Native.Nat.{◌-◌, ◌≤◌}
use lib.ListN.{length}
use Rattle.cache.specs.Shape.{shaped}
use Rattle.project.specs.Tasks.{tasks_of}
use Rattle.rows.specs.Rows.{area_length}
use Rattle.file_pairs.specs.Found.{EndsFound, NoOthers}
use Rattle.file_pairs.proofs.ends.find_ends.Given as goal

abbrev pub invariant-loop-j : goal.invariant-loop-j
invariant-loop-j l =
    (l.j ≤ l.tasks) × (length l.area ≡ area_length l.w) × EndsFound (shaped l.w l.shape) (tasks_of l.file) l.j l.ends l.counts l.mixed × NoOthers (shaped l.w l.shape) (tasks_of l.file) l.j l.counts

abbrev pub decreases-loop-j : goal.decreases-loop-j
decreases-loop-j l = l.tasks - l.j
