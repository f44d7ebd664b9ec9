-- `numbers::find_numbers` meets its contract. The loop's invariant: the rows of the tasks below i are written, and none of them has too many states. Assumes nothing.
use mathlib.Core.Path.{◌≡◌, sym, ap, ◌∙◌}
use Prim.Native.Nat.{ℕ, ◌+◌, ◌*◌, ◌-◌, ◌≤◌}
use native.Mathlib.Omega.{arith}
use lib.ListN.{length, set, take, drop, length-set, length-replicate}
use Rattle.cache.specs.Shape.{shaped}
use Rattle.model.specs.Tasks.{task}
use Rattle.project.proofs.Checklists.{ok-not-err}
use Rattle.project.specs.File.{task_count}
use Rattle.project.specs.Tasks.{tasks_of}
use Rattle.reader.proofs.TaskBodies.{TaskBody, body_kept, body-task}
use Rattle.reader.proofs.TaskBodies.{task-body as of-task}
use Rattle.file_pairs.specs.Found.{NumbersFound}
use Rattle.file_pairs.proofs.TableLaws.{file_pairs, at_first_lem, found_as, row-long, stops, grown_long, turn, ends, whole}
use Rattle.file_pairs.proofs.numbers.find_numbers.Goals as goal
use Rattle.file_pairs.proofs.numbers.find_numbers.Goals.{After-task_numbers, In-loop-i}

-- the task numbered i is one of the file
the-task : (c : In-loop-i) → TaskBody c.args.file.now c.loop-i.i
the-task c =
    let start = c in
    of-task start.args.file.now start.requires.0 c.loop-i.i (omega (arith, start.requires.3, c.loop-i-test.true))

-- what was found of it
found : (c : After-task_numbers) → let start = c in let at = c.loop-i in
    NumbersFound (shaped start.args.ends.now.w start.args.shape) (tasks_of start.args.file.now) (task_count start.args.file.now) (task (tasks_of start.args.file.now) at.i)
    (take (8 * at.i + 8 - 8 * at.i) (drop (8 * at.i) (set at.numbers (9 * at.i) 32))) c.task_numbers.new.numbers c.task_numbers.result
found c =
    let start = c in
    let at = c.loop-i in
    let placed = c.task_body.ensures.0 in
    found_as start.requires.3 (body-task start.args.file.now at.i ((let here : TaskBody c.args.file.now c.loop-i.i = let start = c in of-task start.args.file.now start.requires.0 c.loop-i.i (omega (arith, start.requires.3, c.loop-i-test.true)) in here)) placed)
    (c.task_numbers.ensures.1 (tasks_of start.args.file.now) start.requires.5)

pub loop-i-init : goal.loop-i-init
loop-i-init c =
    let start = c in
    (start.requires.4, at_first_lem start.args.file.now (shaped start.args.ends.now.w start.args.shape) start.requires.6)

pub bounds-numbers-i : goal.bounds-numbers-i
bounds-numbers-i c = let t = the-task c in omega (arith, c.loop-i.invariant.1.long, t.in_file.below, t.in_file.few)

pub slice_bounds-task_numbers-end : goal.slice_bounds-task_numbers-end
slice_bounds-task_numbers-end c =
    let at = c.loop-i in
    let t = the-task (goal.at.slice_bounds-task_numbers-end c).In-loop-i in
    omega (arith, length-set at.numbers (9 * at.i) 32, at.invariant.1.long, t.in_file.below, t.in_file.few)

pub task_numbers-requires : goal.task_numbers-requires
task_numbers-requires c =
    let at = c.loop-i in
    let t = the-task (goal.at.task_numbers-requires c).In-loop-i in
    let file = c.args.file.now in
    let ends = c.args.ends.now in (
      body_kept file at.i t c.task_body.ensures.0,
      c.requires.2,
      at.invariant.0,
      row-long file (shaped ends.w c.args.shape) at.i (file_pairs ends.w file c.requires.1 c.requires.2) t.in_file.below t.in_file.few at.numbers at.invariant.1,
    )

pub shape_of-numbers-then-task_numbers : goal.shape_of-numbers-then-task_numbers
shape_of-numbers-then-task_numbers c =
    let start = c in
    let at = c.loop-i in
    let t = the-task (goal.at.shape_of-numbers-then-task_numbers c).In-loop-i in
    let file = start.args.file.now in
    let k = shaped start.args.ends.now.w start.args.shape in
    let same = file_pairs start.args.ends.now.w file start.requires.1 start.requires.2 in
    grown_long file k at.i same t.in_file.below t.in_file.few at.numbers at.invariant.1 c.task_numbers.new.numbers (found (goal.at.shape_of-numbers-then-task_numbers c).After-task_numbers).long
    ∙ sym (ap length start.requires.6 ∙ length-replicate {A = ℕ} 64 0)

pub returns-then-task_numbers : goal.returns-then-task_numbers
returns-then-task_numbers c =
    let start = c in
    let at = c.loop-i in
    let t = the-task (goal.at.returns-then-task_numbers c).In-loop-i in
    let file = start.args.file.now in
    let k = shaped start.args.ends.now.w start.args.shape in
    let same = file_pairs start.args.ends.now.w file start.requires.1 start.requires.2 in
    let e = stops file k at.i same t.in_file.below t.in_file.few at.numbers at.invariant.1 (found (goal.at.returns-then-task_numbers c).After-task_numbers).answer c.if-task_numbers.true c.task_byte.ensures in
    (c.task_numbers.ensures.0, e, λ q. absurd (ok-not-err (sym q)))

pub bounds-numbers-i-in-loop-i : goal.bounds-numbers-i-in-loop-i
bounds-numbers-i-in-loop-i c =
    let start = c in
    let at = c.loop-i in
    let t = the-task (goal.at.bounds-numbers-i-in-loop-i c).In-loop-i in
    let file = start.args.file.now in
    let k = shaped start.args.ends.now.w start.args.shape in
    let same = file_pairs start.args.ends.now.w file start.requires.1 start.requires.2 in
    let z = grown_long file k at.i same t.in_file.below t.in_file.few at.numbers at.invariant.1 c.task_numbers.new.numbers (found (goal.at.bounds-numbers-i-in-loop-i c).After-task_numbers).long in
    omega (arith, z, t.in_file.below, t.in_file.few)

pub loop-i-preserved : goal.loop-i-preserved
loop-i-preserved c =
    let start = c in
    let at = c.loop-i in
    let t = the-task (goal.at.loop-i-preserved c).In-loop-i in
    let file = start.args.file.now in
    let k = shaped start.args.ends.now.w start.args.shape in
    let same = file_pairs start.args.ends.now.w file start.requires.1 start.requires.2 in (
      c.task_numbers.ensures.0,
      turn file k at.i same t.in_file.below t.in_file.few at.numbers at.invariant.1 c.task_numbers.new.numbers (found (goal.at.loop-i-preserved c).After-task_numbers) c.if-task_numbers.false,
    )

pub returns : goal.returns
returns c =
    let start = c in
    let at = c.loop-i in
    let file = start.args.file.now in
    let k = shaped start.args.ends.now.w start.args.shape in
    let e : at.i ≡ task_count file = omega (arith, start.requires.3) in
    let few : task_count file ≤ 8 = omega (arith, start.requires.3, start.args.ends.now.are.inside) in
    let h = rw e at at.invariant.1 in
    (at.invariant.0, ends file k few at.numbers h, λ q. whole file k few at.numbers h)
