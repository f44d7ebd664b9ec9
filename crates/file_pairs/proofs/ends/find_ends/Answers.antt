-- `ends::find_ends` meets its contract. The loop's invariant: the end rows of the tasks below j are found, and none of any other. Assumes nothing.
use mathlib.Core.Path.{◌≡◌}
use Prim.Native.Nat.{◌+◌, ◌*◌, ◌≤◌, ◌<◌}
use native.Mathlib.Omega.{arith}
use Rattle.cache.specs.Shape.{shaped}
use Rattle.model.specs.Tasks.{task}
use Rattle.project.specs.Tasks.{tasks_of}
use Rattle.reader.proofs.TaskBodies.{TaskBody, body_kept, body-task}
use Rattle.reader.proofs.TaskBodies.{task-body as of-task}
use Rattle.rows.specs.Rows.{kind_length}
use Rattle.rows.proofs.Parts.{row_within}
use Rattle.graphs.proofs.Gathered.{first-wide, half_long}
use Rattle.file_pairs.specs.Found.{TaskEnds}
use Rattle.file_pairs.proofs.EndLaws.{part_long, grown_ends, ends-none, ends_turn, others-none, others_turn}
use Rattle.file_pairs.proofs.ends.find_ends.Goals as goal
use Rattle.file_pairs.proofs.ends.find_ends.Goals.{After-task_ends-count, In-loop-j}

-- the task numbered j is one of the file
the-task : (c : In-loop-j) → TaskBody c.args.file.now c.loop-j.j
the-task c =
    let start = c in
    of-task start.args.file.now start.requires.0 c.loop-j.j (omega (arith, start.requires.4, c.loop-j.invariant.0))

-- where its end rows end
inside : (c : In-loop-j) → let w = c.args.w in
    (32 * w * c.loop-j.j + 32 * w ≤ 8 * (32 * w)) × (w ≤ 32) × (c.loop-j.j < 8)
inside c =
    let start = c in
    let t = the-task c in
    let below : c.loop-j.j < 8 = omega (arith, t.in_file.below, t.in_file.few) in
    (omega (arith, row_within (32 * start.args.w) c.loop-j.j 8 below), start.requires.3.narrow, below)

-- what was found of it
found : (c : After-task_ends-count) → let start = c in
    TaskEnds (shaped start.args.w start.args.shape) (task (tasks_of start.args.file.now) c.loop-j.j)
    c.task_ends-count.new.rows c.task_ends-count.new.ends c.task_ends-count.result
found c =
    let start = c in
    rw (← body-task start.args.file.now c.loop-j.j ((let here : TaskBody c.args.file.now c.loop-j.j = let start = c in of-task start.args.file.now start.requires.0 c.loop-j.j (omega (arith, start.requires.4, c.loop-j.invariant.0)) in here)) c.task_body.ensures.0) c.task_ends-count.ensures

pub overflow_mul-part : goal.overflow_mul-part
overflow_mul-part c = omega (arith, c.requires.3.narrow)

pub overflow_mul-kind : goal.overflow_mul-kind
overflow_mul-kind c = omega (arith, c.requires.3.narrow)

pub loop-j-init : goal.loop-j-init
loop-j-init c =
    let start = c in
    let k = shaped start.args.w start.args.shape in
    let ts = tasks_of start.args.file.now in
    (omega arith, start.requires.5, ends-none k ts start.requires.3 start.requires.6 start.requires.7 start.requires.8, others-none k ts start.requires.7)

pub overflow_mul-at : goal.overflow_mul-at
overflow_mul-at c = omega (arith, inside c)

pub slice_bounds-task_ends-end : goal.slice_bounds-task_ends-end
slice_bounds-task_ends-end c = omega (arith, c.loop-j.invariant.1)

pub overflow_add-at : goal.overflow_add-at
overflow_add-at c = omega (arith, inside (goal.at.overflow_add-at c).In-loop-j)

pub offset_bounds-ends-at : goal.offset_bounds-ends-at
offset_bounds-ends-at c = omega (arith, inside (goal.at.offset_bounds-ends-at c).In-loop-j)

pub slice_bounds-task_ends-end-in-loop-j : goal.slice_bounds-task_ends-end-in-loop-j
slice_bounds-task_ends-end-in-loop-j c = omega (arith, inside (goal.at.slice_bounds-task_ends-end-in-loop-j c).In-loop-j, c.loop-j.invariant.2.room.long)

pub task_ends-count-requires : goal.task_ends-count-requires
task_ends-count-requires c =
    let start = c in
    let at = c.loop-j in
    let placed = c.task_body.ensures.0 in (
      body_kept start.args.file.now at.j (the-task (goal.at.task_ends-count-requires c).In-loop-j) placed,
      start.requires.2,
      start.requires.3,
      first-wide (24 * (32 * start.args.w)) at.area (omega (arith, at.invariant.1)),
      part_long start.args.w at.j at.ends (inside (goal.at.task_ends-count-requires c).In-loop-j).2 at.invariant.2.room.long,
    )

pub offset_bounds-counts-j : goal.offset_bounds-counts-j
offset_bounds-counts-j c = omega (arith, inside (goal.at.offset_bounds-counts-j c).In-loop-j)

pub bounds-counts-j : goal.bounds-counts-j
bounds-counts-j c = omega (arith, inside (goal.at.bounds-counts-j c).In-loop-j, c.loop-j.invariant.2.room.many)

pub join_task-requires : goal.join_task-requires
join_task-requires c =
    let start = c in
    let at = c.loop-j in
    let after = c in
    let k = shaped start.args.w start.args.shape in
    let ts = tasks_of start.args.file.now in
    let part = after.task_ends-count.new.ends in
    let count = after.task_ends-count.result in
    let below = (inside (goal.at.join_task-requires c).In-loop-j).2 in
    (start.requires.3, grown_ends k ts at.j at.ends at.counts at.mixed part count below at.invariant.2 (found (goal.at.join_task-requires c).After-task_ends-count), below, (found (goal.at.join_task-requires c).After-task_ends-count).few)

pub offset_bounds-mixed-j : goal.offset_bounds-mixed-j
offset_bounds-mixed-j c = omega (arith, inside (goal.at.offset_bounds-mixed-j c).In-loop-j)

pub bounds-mixed-j : goal.bounds-mixed-j
bounds-mixed-j c = omega (arith, inside (goal.at.bounds-mixed-j c).In-loop-j, c.loop-j.invariant.2.room.each)

pub loop-j-preserved : goal.loop-j-preserved
loop-j-preserved c =
    let start = c in
    let at = c.loop-j in
    let after = c in
    let k = shaped start.args.w start.args.shape in
    let ts = tasks_of start.args.file.now in
    let part = after.task_ends-count.new.ends in
    let count = after.task_ends-count.result in
    let below = (inside (goal.at.loop-j-preserved c).In-loop-j).2 in
    let joined = c.join_task in
    let new = found (goal.at.loop-j-preserved c).After-task_ends-count in (
      omega arith,
      half_long (kind_length start.args.w) at.area after.task_ends-count.new.rows at.invariant.1 new.rows_long,
      ends_turn k ts at.j at.ends at.counts at.mixed part count below at.invariant.2 new joined.new.ends joined.result joined.ensures,
      others_turn k ts at.j at.ends at.counts at.mixed part count below at.invariant.2 new at.invariant.3,
    )

pub returns : goal.returns
returns c =
    let at = c.loop-j in
    let e : at.j ≡ c.args.tasks = omega arith in
    (at.invariant.1, rw (← e) at.invariant.2, rw (← e) at.invariant.3)
