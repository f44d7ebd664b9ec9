-- `costliest::write_run` meets its contract: the run that the trails of the found rows join to costs the pair number. Assumes nothing.
use mathlib.Core.Path.{◌≡◌, refl, ap, ◌∙◌}
use mathlib.Core.Logic.{◌≢◌}
use mathlib.Core.List.{◌++◌}
use Prim.Native.Nat.{ℕ, ◌+◌, ◌*◌, ◌-◌, ◌≤◌, ◌<◌}
use native.Mathlib.Omega.{arith}
use lib.Dec.{ltb}
use lib.ListN.{length, take, drop, length-drop}
use lib.Seq.{length-take-le}
use Rattle.cache.specs.Shape.{shaped}
use Rattle.cache.specs.declared.blocks.CacheShape.{CacheShape}
use Rattle.model.specs.Tasks.{end, task}
use Rattle.rows.specs.Rows.{kind_length, area_length}
use Rattle.rows.proofs.Parts.{row_within}
use Rattle.project.specs.File.{cache_blocks, task_count}
use Rattle.project.specs.Tasks.{tasks_of, file_cache_in}
use Rattle.project.proofs.TaskFaults.{Bytes}
use Rattle.reader.proofs.TaskBodies.{task-body, task-bounds, body_kept, body-task}
use Rattle.body.proofs.Decoded.{few-references}
use Rattle.search.proofs.FoundNumbers.{MakesNumber}
use Rattle.gather.specs.Memory.{held_rows}
use Rattle.sheet.specs.Sheet.{SheetRun, sheet_numbers}
use Rattle.run_sheet.specs.Joined.{HasTrail}
use Rattle.costliest.specs.Parts.{HasTrailBefore}
use Rattle.costliest.proofs.PartsLaws.{joined_is, joins}
use Rattle.costliest.proofs.CostliestVerdicts.{two_tasks}
use Rattle.costliest.proofs.FoundRows.{all_bytes, file-found, cut_part, few_tasks}
use Rattle.costliest.proofs.CostliestRuns.{has_before, has_on, has_by, written_run}
use Rattle.costliest.proofs.write_run.Goals as goal
use Rattle.costliest.proofs.write_run.Goals.{After-block_count-end, After-find_rows-found, Start}

-- the two tasks are there
two : (c : Start) → (c.args.i < task_count c.args.file.now) × (c.args.j < task_count c.args.file.now) × (c.args.j ≢ c.args.i)
two c = two_tasks (task_count c.args.file.now) c.args.i c.args.j c.requires.3

-- the file's cache in rows of w places
cached : (c : Start) → shaped c.args.w c.args.shape ≡ file_cache_in c.args.w c.args.file.now
cached c = ap (shaped c.args.w) c.requires.1

room : (c : Start) → cache_blocks c.args.file.now ≤ c.args.w
room c = omega (arith, c.requires.2.room, ap (λ (x : CacheShape). x.blocks) c.requires.1)

-- the end block of j
end_is : (c : After-block_count-end) → c.block_count-end.result - 1 ≡ end (task (tasks_of c.args.file.now) c.args.j)
end_is c =
    let start = c in
    let s = start.args.file.now in
    ap (λ (n : ℕ). n - 1) (c.block_count-end.ensures.0 ∙ ap length (body-task s start.args.j (task-body s start.requires.0 start.args.j ((let here : (c.args.i < task_count c.args.file.now) × (c.args.j < task_count c.args.file.now) × (c.args.j ≢ c.args.i) = two_tasks (task_count c.args.file.now) c.args.i c.args.j c.requires.3 in here)).1) c.task_body.ensures.0))

-- its rows lie in the area
end-room : (c : After-block_count-end) → 32 * c.args.w * (c.block_count-end.result - 1) + 32 * c.args.w ≤ length c.args.second.now
end-room c =
    let start = c in
    omega (arith, start.requires.6.rows.long, row_within (32 * start.args.w) (c.block_count-end.result - 1) 24 (omega (arith, c.block_count-end.ensures.1, c.block_count-end.ensures.2)))

narrow : (c : After-block_count-end) → (length c.args.second.now ≡ area_length c.args.w) × (c.args.w ≤ 32)
narrow c = (c.requires.6.rows.long, (c.requires.6.reaching refl).memory.width.narrow)

pub block_count-end-requires : goal.block_count-end-requires
block_count-end-requires c =
    let start = c in
    let s = start.args.file.now in
    body_kept s start.args.j (task-body s start.requires.0 start.args.j (two (goal.at.block_count-end-requires c).Start).1) c.task_body.ensures.0

pub invariant_of-ends : goal.invariant_of-ends
invariant_of-ends c =
    let w = c.args.w in
    let end = c.block_count-end.result - 1 in
    let from = 32 * w * end in
    let memory = (c.requires.6.reaching refl).memory in
    record {
      are = record {
        width = memory.width;
        long = ap length (cut_part (32 * w) from c.args.second.now)
            ∙ length-take-le (32 * w) (drop from c.args.second.now)
            (rw (length-drop from c.args.second.now) (omega (arith, end-room (goal.at.invariant_of-ends c).After-block_count-end)));
        few = memory.few end (omega (arith, c.block_count-end.ensures.1, c.block_count-end.ensures.2));
      };
    }

pub find_rows-found-requires : goal.find_rows-found-requires
find_rows-found-requires c =
    let s = c.args.file.now in (
      body_kept s c.args.i (task-body s c.requires.0 c.args.i (two (goal.at.find_rows-found-requires c).Start).0) c.task_body-body.ensures.0,
      c.requires.2,
      c.requires.5.rows.long,
      (c.requires.5.reaching refl).memory,
      (c.requires.5.live refl).memory,
    )

-- each number of the file is a byte
bytes : (c : After-find_rows-found) → Bytes c.args.file.now
bytes c = all_bytes c.args.file.now (λ a. omega (arith, c.shared_slice_known-1.given a))

-- what is found makes the pair number
makes : (c : After-find_rows-found)
    → let start = c in
    let s = start.args.file.now in
    let w = start.args.w in
    let k = kind_length w in
    MakesNumber (file_cache_in w s) (task (tasks_of s) start.args.i) (task (tasks_of s) start.args.j) (held_rows w (take k start.args.first.now) start.args.own.reached)
    (held_rows w (take k (drop k start.args.first.now)) start.args.own.lived) (held_rows w (take k start.args.second.now) start.args.other.reached (end (task (tasks_of s) start.args.j))) c.find_rows-found.result
makes c =
    let start = c in
    let s = start.args.file.now in
    let w = start.args.w in
    let counted = c in
    let (hi, hj, ne) = (let here : (c.args.i < task_count c.args.file.now) × (c.args.j < task_count c.args.file.now) × (c.args.j ≢ c.args.i) = two_tasks (task_count c.args.file.now) c.args.i c.args.j c.requires.3 in here) in
    file-found s (bytes c) start.requires.0 w start.args.i start.args.j hi hj start.requires.5 start.requires.6 ((let here : shaped c.args.w c.args.shape ≡ file_cache_in c.args.w c.args.file.now = ap (shaped c.args.w) c.requires.1 in here))
    (body-task s start.args.i (task-body s start.requires.0 start.args.i hi) c.task_body-body.ensures.0) ((let here : c.block_count-end.result - 1 ≡ end (task (tasks_of c.args.file.now) c.args.j) = let start = c in let s = start.args.file.now in ap (λ (n : ℕ). n - 1) (c.block_count-end.ensures.0 ∙ ap length (body-task s start.args.j (task-body s start.requires.0 start.args.j ((let here : (c.args.i < task_count c.args.file.now) × (c.args.j < task_count c.args.file.now) × (c.args.j ≢ c.args.i) = two_tasks (task_count c.args.file.now) c.args.i c.args.j c.requires.3 in here)).1) c.task_body.ensures.0)) in here))
    (cut_part (32 * w) (32 * w * (counted.block_count-end.result - 1)) start.args.second.now) c.find_rows-found.result c.find_rows-found.ensures

-- the places of the found rows have their trails
before-has : (c : After-find_rows-found)
    → HasTrailBefore c.find_rows-found.result.point.first c.args.own.to (32 * c.find_rows-found.result.point.before + c.find_rows-found.result.point.reaching)
before-has c =
    let start = c in
    let (hi, hj, ne) = (let here : (c.args.i < task_count c.args.file.now) × (c.args.j < task_count c.args.file.now) × (c.args.j ≢ c.args.i) = two_tasks (task_count c.args.file.now) c.args.i c.args.j c.requires.3 in here) in
    has_before start.args.file.now (bytes c) start.requires.0 start.args.w ((let here : cache_blocks c.args.file.now ≤ c.args.w = omega (arith, c.requires.2.room, ap (λ (x : CacheShape). x.blocks) c.requires.1) in here)) start.args.i start.args.j hi hj ne (start.requires.5.reaching refl) (start.requires.5.live refl) (start.requires.6.reaching refl) c.find_rows-found.result (makes c)

on-has : (c : After-find_rows-found) → HasTrail c.args.own.on (32 * c.find_rows-found.result.point.block + c.find_rows-found.result.live)
on-has c =
    let start = c in
    let (hi, hj, ne) = (let here : (c.args.i < task_count c.args.file.now) × (c.args.j < task_count c.args.file.now) × (c.args.j ≢ c.args.i) = two_tasks (task_count c.args.file.now) c.args.i c.args.j c.requires.3 in here) in
    has_on start.args.file.now (bytes c) start.requires.0 start.args.w ((let here : cache_blocks c.args.file.now ≤ c.args.w = omega (arith, c.requires.2.room, ap (λ (x : CacheShape). x.blocks) c.requires.1) in here)) start.args.i start.args.j hi hj ne (start.requires.5.reaching refl) (start.requires.5.live refl) (start.requires.6.reaching refl) c.find_rows-found.result (makes c)

by-has : (c : After-find_rows-found)
    → HasTrail c.args.other.to (32 * end (task (tasks_of c.args.file.now) c.args.j) + c.find_rows-found.result.ending)
by-has c =
    let start = c in
    let (hi, hj, ne) = (let here : (c.args.i < task_count c.args.file.now) × (c.args.j < task_count c.args.file.now) × (c.args.j ≢ c.args.i) = two_tasks (task_count c.args.file.now) c.args.i c.args.j c.requires.3 in here) in
    has_by start.args.file.now (bytes c) start.requires.0 start.args.w ((let here : cache_blocks c.args.file.now ≤ c.args.w = omega (arith, c.requires.2.room, ap (λ (x : CacheShape). x.blocks) c.requires.1) in here)) start.args.i start.args.j hi hj ne (start.requires.5.reaching refl) (start.requires.5.live refl) (start.requires.6.reaching refl) c.find_rows-found.result (makes c)

-- few references are done
few-done : (c : After-find_rows-found) → c.find_rows-found.result.point.done ≤ 16
few-done c =
    let start = c in
    let s = start.args.file.now in
    let t = task (tasks_of s) start.args.i in
    omega (arith, (makes c).few, few-references t (task-bounds s start.args.i start.requires.0 ((let here : (c.args.i < task_count c.args.file.now) × (c.args.j < task_count c.args.file.now) × (c.args.j ≢ c.args.i) = two_tasks (task_count c.args.file.now) c.args.i c.args.j c.requires.3 in here)).0) c.find_rows-found.result.point.block)

pub overflow_cast-j : goal.overflow_cast-j
overflow_cast-j c = omega (arith, (two (goal.at.overflow_cast-j c).Start).1, few_tasks c.args.file.now c.requires.0)

pub slice_bounds-ends-end : goal.slice_bounds-ends-end
slice_bounds-ends-end c = omega (arith, end-room (goal.at.slice_bounds-ends-end c).After-block_count-end)

pub overflow_mul-on : goal.overflow_mul-on
overflow_mul-on c = omega (arith, (on-has (goal.at.overflow_mul-on c).After-find_rows-found).inside)

pub overflow_add-on : goal.overflow_add-on
overflow_add-on c = omega (arith, (on-has (goal.at.overflow_add-on c).After-find_rows-found).inside)

pub overflow_add-by : goal.overflow_add-by
overflow_add-by c =
    omega (arith, (by-has (goal.at.overflow_add-by c).After-find_rows-found).inside, end_is (goal.at.overflow_add-by c).After-block_count-end)

pub invariant_of-on : goal.invariant_of-on
invariant_of-on c = let has = on-has (goal.at.invariant_of-on c).After-find_rows-found in record { is = record { places = has.places; inside = has.inside } }

pub invariant_of-by : goal.invariant_of-by
invariant_of-by c =
    let has = by-has (goal.at.invariant_of-by c).After-find_rows-found in
    record { is = record { places = has.places; inside = rw (end_is (goal.at.invariant_of-by c).After-block_count-end) has.inside } }

pub place_before-before-requires : goal.place_before-before-requires
place_before-before-requires c =
    let has = before-has (goal.at.place_before-before-requires c).After-find_rows-found in
    record { places = has.places; inside = has.inside }

pub preemption_at-preemption-requires : goal.preemption_at-preemption-requires
preemption_at-preemption-requires c = few-done (goal.at.preemption_at-preemption-requires c).After-find_rows-found

pub write_sheet-requires : goal.write_sheet-requires
write_sheet-requires c =
    let found = (goal.at.write_sheet-requires c).After-find_rows-found in
    let x = c.find_rows-found.result in
    let end = end_is (goal.at.write_sheet-requires c).After-block_count-end in (
      joins _ (ltb 0 x.cost) c.args.j x.point.first c.args.own.to (32 * x.point.before + x.point.reaching) x.point.done c.args.other.to
          (32 * (c.block_count-end.result - 1) + x.ending) c.place_before-before.ensures c.preemption_at-preemption.ensures
          (before-has found) (on-has found) (rw end (by-has found)),
      c.requires.4,
    )

pub returns : goal.returns
returns c =
    let at = (goal.at.returns c).After-find_rows-found in
    let s = c.args.file.now in
    let x = c.find_rows-found.result in
    let (hi, hj, ne) = two (goal.at.returns c).Start in
    let preempted = ltb 0 x.cost in
    let final = 32 * (c.block_count-end.result - 1) + x.ending in
    let written = c.write_sheet in
    let is = joined_is preempted c.args.i c.args.j x.point.first c.args.own.to (32 * x.point.before + x.point.reaching) x.point.done c.args.own.on
    (32 * x.point.block + x.live) c.args.other.to final c.place_before-before.result c.preemption_at-preemption.result
    c.place_before-before.ensures c.preemption_at-preemption.ensures in
    let old = c.args.sheet.now in
    written_run s (bytes at) c.requires.0 c.args.w (room (goal.at.returns c).Start) c.args.i c.args.j hi hj ne (c.requires.5.reaching refl) (c.requires.5.live refl)
    (c.requires.6.reaching refl) x (makes at) preempted refl final (ap (λ (n : ℕ). 32 * n + x.ending) (end_is (goal.at.returns c).After-block_count-end))
    (written.ensures.0 ∙ ap (λ (r : SheetRun). length (sheet_numbers r)) is)
    (written.ensures.1 ∙ ap (λ (r : SheetRun). sheet_numbers r ++ drop (length (sheet_numbers r)) old) is)
