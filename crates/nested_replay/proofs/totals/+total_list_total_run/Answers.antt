-- What each may call, and what the references of a list and of a run are.
use Rattle.std.proofs.Common.{◌≡◌, ap, ◌∙◌, arith, ℕ, ◌+◌, ◌-◌, ◌^◌, ◌≤◌, ◌<◌, length, true, List}
use Rattle.cache.specs.Shape.{Holds, shaped}
use Rattle.cache.specs.declared.blocks.CacheShape.{CacheShape}
use Rattle.model.specs.Runs.{own_references}
use Rattle.model.specs.Nested.{no_run}
use Rattle.body.specs.Decode.{decode, task_of}
use Rattle.project.specs.Tasks.{tasks_of, file_shape}
use Rattle.project.specs.Reading.{reading_of}
use Rattle.project.specs.Bodies.{accepted}
use Rattle.project.proofs.Accepted.{accepted-passed, file-holds}
use Rattle.reader.proofs.TaskBodies.{reading}
use Rattle.nested_sheet.specs.NestedRuns.{list_at, list_of}
use Rattle.nested_replay.specs.Passes.{held_total}
use Rattle.nested_replay.proofs.SheetLists.{list-none, list_deep}
use Rattle.nested_replay.proofs.RunParts.{run-stands, run-there}
use Rattle.nested_replay.proofs.TaskTables.{map_there}
use Rattle.nested_replay.proofs.TotalLaws.{run_measure, list_measure, run_in_lem, run_replays, run_makes, run_fits, run-next, end_makes, end_fits, end-next}
use Rattle.nested_replay.proofs.TotalLaws.{point_is, first_run, first-inside, first_part, part_room, run_room, rest_replays, rest-room, list_makes, list-ends}
use Rattle.nested_replay.proofs.totals.+total_list_total_run.Goals as goal
use Rattle.nested_replay.proofs.totals.+total_list_total_run.Goals.{total_list-Else-deep-eq0}
use Rattle.nested_replay.proofs.totals.+total_list_total_run.Goals.{total_list-then-left-eq0-via-then-left-eq0, total_list-then-left-eq0-via-else-left-eq0+then-deep-eq0}

-- the file's cache fits into a row
holds : (s : List ℕ) → accepted (reading_of s) ≡ true → {shape : CacheShape} → shape ≡ file_shape s → Holds 32 shape
holds s h e = file-holds 32 (omega arith) s (accepted-passed s _ (reading s h)).0 e

-- ---- the list

-- it has no run, or no depth is left
pub total_list-total_rest-requires : goal.total_list-total_rest-requires
total_list-total_rest-requires t c =
    let args = c.args in
    let x = c.requires.1 in
    let e : list_of args.deep args.input.now.sheet.now args.left args.at ≡ list_at no_run args.at =
    elim c.then-left-eq0.branch [
      | total_list-then-left-eq0-via-then-left-eq0 w ↦ list-none args.deep args.input.now.sheet.now args.at w.if-left-eq0.true
      | total_list-then-left-eq0-via-else-left-eq0+then-deep-eq0 w ↦ list_deep args.input.now.sheet.now args.left args.at w.if-deep-eq0.true
    ] in
    let file = args.input.now.file.now in (
      x.in_path,
      x.from_done,
      holds file x.file c.requires.2,
      x.short,
      end_fits (tasks_of file) (task_of (decode args.on.now.body.now)) args.on.now.path.now args.from e args.cache.misses (2 ^ 64) c.requires.3,
    )

pub total_list-returns-then-left-eq0 : goal.total_list-returns-then-left-eq0
total_list-returns-then-left-eq0 t c =
    let args = c.args in
    let body = task_of (decode args.on.now.body.now) in
    let ts = tasks_of args.input.now.file.now in
    let e : list_of args.deep args.input.now.sheet.now args.left args.at ≡ list_at no_run args.at =
    elim c.then-left-eq0.branch [
      | total_list-then-left-eq0-via-then-left-eq0 w ↦ list-none args.deep args.input.now.sheet.now args.at w.if-left-eq0.true
      | total_list-then-left-eq0-via-else-left-eq0+then-deep-eq0 w ↦ list_deep args.input.now.sheet.now args.left args.at w.if-deep-eq0.true
    ] in (
      c.total_rest.ensures ∙ ap (own_references (shaped 32 args.input.now.shape) (held_total args.cache)) (end_makes ts body args.on.now.path.now args.from e),
      end-next ts body args.on.now.path.now args.from e,
    )

-- the point and the numbers of its first run lie in the sheet
inside : (t : ℕ) (c : total_list-Else-deep-eq0 t) → c.args.at + 5 ≤ length c.args.input.now.sheet.now
inside t c =
    let args = c.args in
    first-inside args.input.now.file.now args.input.now.sheet.now (task_of (decode args.on.now.body.now)) args.on.now.path.now args.from args.deep args.left args.at c.requires.1 c.if-left-eq0.false c.if-deep-eq0.false

pub total_list-offset_bounds-sheet-at : goal.total_list-offset_bounds-sheet-at
total_list-offset_bounds-sheet-at t c = omega (arith, inside t (goal.at.total_list-offset_bounds-sheet-at t c).Else-deep-eq0)

pub total_list-bounds-sheet-at : goal.total_list-bounds-sheet-at
total_list-bounds-sheet-at t c = omega (arith, inside t (goal.at.total_list-bounds-sheet-at t c).Else-deep-eq0)

pub total_list-overflow_add-at : goal.total_list-overflow_add-at
total_list-overflow_add-at t c = omega (arith, inside t (goal.at.total_list-overflow_add-at t c).Else-deep-eq0)

pub total_list-offset_bounds-sheet-at-2 : goal.total_list-offset_bounds-sheet-at-2
total_list-offset_bounds-sheet-at-2 t c = omega (arith, inside t (goal.at.total_list-offset_bounds-sheet-at-2 t c).Else-deep-eq0)

pub total_list-bounds-sheet-at-2 : goal.total_list-bounds-sheet-at-2
total_list-bounds-sheet-at-2 t c = omega (arith, inside t (goal.at.total_list-bounds-sheet-at-2 t c).Else-deep-eq0)

pub total_list-invariant_of-part : goal.total_list-invariant_of-part
total_list-invariant_of-part t c =
    let args = c.args in
    let body = task_of (decode args.on.now.body.now) in
    let to_is = point_is args.input.now.sheet.now args.at c.from.ensures c.from-2.ensures in
    record { within = first_part args.input.now.file.now args.input.now.sheet.now body args.on.now.path.now args.from args.deep args.left args.at c.requires.1 c.if-left-eq0.false c.if-deep-eq0.false (shaped 32 args.input.now.shape) to_is }

pub total_list-total_part-own-requires : goal.total_list-total_part-own-requires
total_list-total_part-own-requires t c =
    let args = c.args in
    let body = task_of (decode args.on.now.body.now) in
    let x = c.requires.1 in
    let k = shaped 32 args.input.now.shape in
    let to_is = point_is args.input.now.sheet.now args.at c.from.ensures c.from-2.ensures in (
      holds args.input.now.file.now x.file c.requires.2,
      x.short,
      part_room args.input.now.file.now args.input.now.sheet.now body args.on.now.path.now args.from args.deep args.left args.at x c.if-left-eq0.false c.if-deep-eq0.false k to_is args.cache.misses (2 ^ 64) c.requires.3,
    )

pub total_list-overflow_add-at-2 : goal.total_list-overflow_add-at-2
total_list-overflow_add-at-2 t c = omega (arith, inside t (goal.at.total_list-overflow_add-at-2 t c).Else-deep-eq0)

pub total_list-total_run-inner-requires : goal.total_list-total_run-inner-requires
total_list-total_run-inner-requires t c =
    let args = c.args in
    let body = task_of (decode args.on.now.body.now) in
    let x = c.requires.1 in
    let hl = c.if-left-eq0.false in
    let hd = c.if-deep-eq0.false in
    let k = shaped 32 args.input.now.shape in
    let to_is = point_is args.input.now.sheet.now args.at c.from.ensures c.from-2.ensures in
    let e : list_measure args.deep args.left ≡ t = c.decreases in
    let less : run_measure (args.deep - 1) < t = omega (arith, e, hl, hd) in (
      less,
      (
        c.requires.0,
        first_run args.input.now.file.now args.input.now.sheet.now body args.on.now.path.now args.from args.deep args.left args.at x hl hd,
        c.requires.2,
        run_room args.input.now.file.now args.input.now.sheet.now body args.on.now.path.now args.from args.deep args.left args.at x hl hd k to_is (held_total args.cache) c.total_part-own.ensures (2 ^ 64) c.requires.3,
      ),
    )

pub total_list-total_list-requires : goal.total_list-total_list-requires
total_list-total_list-requires t c =
    let args = c.args in
    let body = task_of (decode args.on.now.body.now) in
    let x = c.requires.1 in
    let hl = c.if-left-eq0.false in
    let hd = c.if-deep-eq0.false in
    let k = shaped 32 args.input.now.shape in
    let to_is = point_is args.input.now.sheet.now args.at c.from.ensures c.from-2.ensures in
    let cache = held_total args.cache in
    let own = c.total_part-own.ensures in
    let inner = c.total_run-inner.ensures in
    let e : list_measure args.deep args.left ≡ t = c.decreases in
    let less : list_measure args.deep (args.left - 1) < t = omega (arith, e, hl) in (
      less,
      (
        c.requires.0,
        rest_replays args.input.now.file.now args.input.now.sheet.now body args.on.now.path.now args.from args.deep args.left args.at x hl hd k to_is cache own inner.0 inner.1,
        c.requires.2,
        rest-room args.input.now.file.now args.input.now.sheet.now body args.on.now.path.now args.from args.deep args.left args.at x hl hd k to_is cache own inner.0 inner.1 (2 ^ 64) c.requires.3,
      ),
    )

pub total_list-returns : goal.total_list-returns
total_list-returns t c =
    let args = c.args in
    let body = task_of (decode args.on.now.body.now) in
    let x = c.requires.1 in
    let hl = c.if-left-eq0.false in
    let hd = c.if-deep-eq0.false in
    let k = shaped 32 args.input.now.shape in
    let to_is = point_is args.input.now.sheet.now args.at c.from.ensures c.from-2.ensures in
    let cache = held_total args.cache in
    let own = c.total_part-own.ensures in
    let inner = c.total_run-inner.ensures in (
      list_makes args.input.now.file.now args.input.now.sheet.now body args.on.now.path.now args.from args.deep args.left args.at x hl hd k to_is cache own inner.0 inner.1 c.total_list.ensures.0,
      c.total_list.ensures.1 ∙ list-ends args.input.now.file.now args.input.now.sheet.now body args.on.now.path.now args.from args.deep args.left args.at x hl hd k to_is cache own inner.0 inner.1,
    )

-- ---- the run

pub total_run-slice_bounds-on-end-2 : goal.total_run-slice_bounds-on-end-2
total_run-slice_bounds-on-end-2 t c = omega (arith, run-stands c.args.input.now.file.now c.args.input.now.sheet.now c.args.deep c.args.at c.requires.1.reads, c.from.ensures)

pub total_run-bounds-sheet-end : goal.total_run-bounds-sheet-end
total_run-bounds-sheet-end t c = omega (arith, run-stands c.args.input.now.file.now c.args.input.now.sheet.now c.args.deep c.args.at c.requires.1.reads, c.from.ensures)

-- its map is that of its body
pub total_run-bounds-input-task : goal.total_run-bounds-input-task
total_run-bounds-input-task t c =
    map_there c.args.input.now.file.now c.requires.1.reads.file (run-there c.args.input.now.file.now c.args.input.now.sheet.now c.args.deep c.args.at c.requires.1.reads c.from-task.ensures) c.task_body-body.ensures.0 c.requires.0

pub total_run-invariant_of-on : goal.total_run-invariant_of-on
total_run-invariant_of-on t c = record {
  there = run_in_lem c.args.input.now.file.now c.args.input.now.sheet.now c.args.deep c.args.at c.requires.1 c.from-task.ensures c.from.ensures c.from-left.ensures c.task_body-body.ensures.0 c.args.input.now.maps.now c.requires.0;
}

pub total_run-total_list-requires : goal.total_run-total_list-requires
total_run-total_list-requires t c =
    let args = c.args in
    let file = args.input.now.file.now in
    let sheet = args.input.now.sheet.now in
    let x = c.requires.1 in
    let eb = c.task_body-body.ensures.0 in
    let e : run_measure args.deep ≡ t = c.decreases in
    let less : list_measure args.deep c.from-left.result < t = omega (arith, e, c.from-left.ensures) in (
      less,
      (
        c.requires.0,
        run_replays file sheet args.deep args.at x c.from-task.ensures c.from.ensures c.from-left.ensures eb,
        c.requires.2,
        run_fits file sheet args.deep args.at x c.from-task.ensures c.from.ensures c.from-left.ensures eb args.cache.misses (2 ^ 64) c.requires.3,
      ),
    )

pub total_run-returns : goal.total_run-returns
total_run-returns t c =
    let args = c.args in
    let file = args.input.now.file.now in
    let sheet = args.input.now.sheet.now in
    let x = c.requires.1 in
    let eb = c.task_body-body.ensures.0 in (
      c.total_list.ensures.0 ∙ ap (own_references (shaped 32 args.input.now.shape) (held_total args.cache)) (run_makes file sheet args.deep args.at x c.from-task.ensures c.from.ensures c.from-left.ensures eb),
      c.total_list.ensures.1 ∙ run-next file sheet args.deep args.at x c.from-task.ensures c.from.ensures c.from-left.ensures eb,
    )
