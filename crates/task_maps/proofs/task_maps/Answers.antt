-- `task_maps` meets its contract: after j turns the maps of the first j tasks are set. Assumes nothing.
use mathlib.Core.Path.{◌≡◌, refl}
use Prim.Native.Nat.{◌<◌}
use native.Mathlib.Omega.{arith}
use lib.ListN.{length}
use Rattle.reader.proofs.TaskBodies.{TaskBody}
use Rattle.reader.proofs.TaskBodies.{task-body as of-task}
use Rattle.task_maps.proofs.MapLaws.{maps_none, maps_turn}
use Rattle.task_maps.proofs.task_maps.Goals as goal
use Rattle.task_maps.proofs.task_maps.Goals.{In-loop-j}

-- the task numbered j is one of the file
the-task : (c : In-loop-j) → TaskBody c.args.file.now c.loop-j.j
the-task c = of-task c.args.file.now c.requires.0 c.loop-j.j (omega arith)

-- which are at most eight, and there are eight places
few : (c : In-loop-j) → (c.loop-j.j < 8) × (length c.loop-j.maps ≡ 8)
few c = let t = the-task c in (omega (arith, t.in_file.below, t.in_file.few), c.loop-j.invariant.1.long)

pub loop-j-init : goal.loop-j-init
loop-j-init c = (omega arith, maps_none c.args.file.now _ refl)

pub bounds-maps-j : goal.bounds-maps-j
bounds-maps-j c = omega (arith, few (goal.at.bounds-maps-j c).In-loop-j)

pub offset_bounds-maps-j : goal.offset_bounds-maps-j
offset_bounds-maps-j c = omega (arith, few (goal.at.offset_bounds-maps-j c).In-loop-j)

pub overflow_step-j : goal.overflow_step-j
overflow_step-j c = omega (arith, few (goal.at.overflow_step-j c).In-loop-j)

pub loop-j-preserved : goal.loop-j-preserved
loop-j-preserved c =
    let at = c.loop-j in
    let file = c.args.file.now in
    (omega arith, maps_turn file at.j at.maps (few (goal.at.loop-j-preserved c).In-loop-j).0 at.invariant.1 c.map_of.ensures)

pub returns : goal.returns
returns c =
    let all = c.loop-j.invariant.1 in
    record { long = all.long; each = λ i l. all.each i (omega arith) }
