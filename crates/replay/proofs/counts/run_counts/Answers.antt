-- `counts::run_counts` meets its contract: both runs by the segments that are left give what the whole run gives from two empty caches. Assumes nothing.
use mathlib.Core.Path.{◌≡◌, ap, ap₂, ◌∙◌}
use Prim.Native.Nat.{◌*◌, ◌^◌, ◌<◌}
use native.Mathlib.Omega.{arith}
use lib.ListN.{length}
use Rattle.cache.specs.Shape.{Holds, shaped}
use Rattle.body.specs.Decode.{decode, task_of}
use Rattle.body.specs.Walk.{starts_of}
use Rattle.project.proofs.Accepted.{accepted-passed, file-holds}
use Rattle.reader.proofs.TaskBodies.{reading}
use Rattle.runs.specs.Running.{held_both, PathIn}
use Rattle.runs.specs.Parts.{last_point}
use Rattle.runs.specs.declared.part.PathPoint.{PathPoint}
use Rattle.sheet_checks.specs.SheetChecks.{run_in}
use Rattle.sheet_checks.proofs.SheetLaws.{SheetFacts, sheet_facts, own-there, own-within}
use Rattle.sheet_checks.proofs.OwnPath.{own_task, path_part, own-task, own-blocks, own-kept, own_in}
use Rattle.replay.proofs.CountLaws.{point_of, RunNext, OwnRun, own_moved, ran_moved, ByRun, run_start, run-next, point_is, own-run, by-run, run_turn, end-run, run_end_lem}
use Rattle.replay.proofs.counts.run_counts.Goals as goal
use Rattle.replay.proofs.counts.run_counts.Goals.{After-kept_walk-walked, After-from-in-loop-at-2, After-from-in-loop-at-4, After-last_point-to, After-path-1, In-loop-at, Start}

facts : (c : Start) → SheetFacts c.args.file.now c.args.sheet.now
facts c = sheet_facts c.args.file.now c.args.sheet.now c.requires.0.rules

-- the file's cache fits into a row
holds : (c : Start) → Holds 32 c.args.shape
holds c =
    let file = c.args.file.now in
    file-holds 32 (omega arith) file (accepted-passed file _ (reading file c.requires.0.rules.file)).0 c.requires.1

-- the own task and the own path
task-is : (c : After-path-1)
    → let args = c.args in
    task_of (decode c.task_body-body.result.now) ≡ own_task args.file.now args.sheet.now
task-is c =
    let start = c in
    own-task start.args.file.now start.args.sheet.now start.requires.0.rules c.from.ensures c.from-long.ensures c.task_body-body.ensures.0

path-is : (c : After-path-1)
    → let args = c.args in
    path_part args.sheet.now c.from-long.result ≡ (run_in args.file.now args.sheet.now).path
path-is c =
    let start = c in
    own-blocks start.args.file.now start.args.sheet.now start.requires.0.rules c.from.ensures c.from-long.ensures c.task_body-body.ensures.0

path-in : (c : After-kept_walk-walked) → PathIn c.task_body-body.result.now c.kept_walk-walked.result.starts (path_part c.args.sheet.now c.from-long.result)
path-in c =
    let w = c.kept_walk-walked in
    let begin = w.result.walked.2 ∙ ap (λ b. starts_of (decode b)) w.ensures in
    own_in c.args.file.now c.args.sheet.now c.requires.0.rules c.from.ensures c.from-long.ensures c.task_body-body.ensures.0 c.requires.0.complete begin

-- the own path has a block
some : (c : After-path-1) → 0 < length (path_part c.args.sheet.now c.from-long.result)
some c = omega (arith, ap length (path-is c), ((let here : SheetFacts c.args.file.now c.args.sheet.now = sheet_facts c.args.file.now c.args.sheet.now c.requires.0.rules in here)).rules.bounds.some)

-- the next preemption
abbrev next : (c : In-loop-at)
    → let at = c.loop-at in
    let args = c.args in
    RunNext args.file.now args.sheet.now args.shape (held_both at.run) at.from at.at
next c =
    let at = c.loop-at in
    let start = c in
    run-next start.args.file.now start.args.sheet.now start.args.shape start.requires.0 start.requires.1 (held_both at.run) at.from at.at at.invariant c.loop-at-test.true

-- the next preemption begins inside the sheet, whose places have two bytes each
room : (c : In-loop-at) → 2 * length c.args.sheet.now < 2 ^ 63
room c = omega arith

-- the point that is reached next
to_is : (c : After-from-in-loop-at-2)
    → ◌≡◌ {A = PathPoint} (record { position = c.from-in-loop-at.result; done = c.from-in-loop-at-2.result }) (point_of ((let here : let at = c.loop-at in let args = c.args in RunNext args.file.now args.sheet.now args.shape (held_both at.run) at.from at.at = let at = c.loop-at in let start = c in run-next start.args.file.now start.args.sheet.now start.args.shape start.requires.0 start.requires.1 (held_both at.run) at.from at.at at.invariant c.loop-at-test.true in here)).first)
to_is c =
    let at = c.loop-at in
    let start = c in
    point_is start.args.file.now start.args.sheet.now start.args.shape start.requires.0 start.requires.1 (held_both at.run) at.from at.at at.invariant ((let here : let at = c.loop-at in let args = c.args in RunNext args.file.now args.sheet.now args.shape (held_both at.run) at.from at.at = let at = c.loop-at in let start = c in run-next start.args.file.now start.args.sheet.now start.args.shape start.requires.0 start.requires.1 (held_both at.run) at.from at.at at.invariant c.loop-at-test.true in here)) c.from-in-loop-at.ensures c.from-in-loop-at-2.ensures

-- the own references up to it
own : (c : After-from-in-loop-at-2)
    → let at = c.loop-at in
    OwnRun (task_of (decode c.task_body-body.result.now)) (path_part c.args.sheet.now c.from-long.result) (held_both at.run) at.from (record { position = c.from-in-loop-at.result; done = c.from-in-loop-at-2.result })
own c =
    let at = c.loop-at in
    let start = c in
    own_moved (held_both at.run) at.from ((let here : let args = c.args in task_of (decode c.task_body-body.result.now) ≡ own_task args.file.now args.sheet.now = let start = c in own-task start.args.file.now start.args.sheet.now start.requires.0.rules c.from.ensures c.from-long.ensures c.task_body-body.ensures.0 in here)) ((let here : let args = c.args in path_part args.sheet.now c.from-long.result ≡ (run_in args.file.now args.sheet.now).path = let start = c in own-blocks start.args.file.now start.args.sheet.now start.requires.0.rules c.from.ensures c.from-long.ensures c.task_body-body.ensures.0 in here)) (to_is c)
    (own-run start.args.file.now start.args.sheet.now start.args.shape start.requires.0 start.requires.1 (held_both at.run) at.from at.at at.invariant ((let here : let at = c.loop-at in let args = c.args in RunNext args.file.now args.sheet.now args.shape (held_both at.run) at.from at.at = let at = c.loop-at in let start = c in run-next start.args.file.now start.args.sheet.now start.args.shape start.requires.0 start.requires.1 (held_both at.run) at.from at.at at.invariant c.loop-at-test.true in here)))

-- the preempting path
by : (c : After-from-in-loop-at-4)
    → let args = c.args in
    ByRun args.file.now args.sheet.now c.loop-at.at c.from-in-loop-at-4.result c.from-in-loop-at-3.result
by c =
    let at = c.loop-at in
    let start = c in
    by-run start.args.file.now start.args.sheet.now start.args.shape start.requires.0 start.requires.1 (held_both at.run) at.from at.at at.invariant ((let here : let at = c.loop-at in let args = c.args in RunNext args.file.now args.sheet.now args.shape (held_both at.run) at.from at.at = let at = c.loop-at in let start = c in run-next start.args.file.now start.args.sheet.now start.args.shape start.requires.0 start.requires.1 (held_both at.run) at.from at.at at.invariant c.loop-at-test.true in here)) c.from-in-loop-at-4.ensures c.from-in-loop-at-3.ensures

-- the last point of the own path
last-is : (c : After-last_point-to)
    → let args = c.args in
    c.last_point-to.result ≡ last_point (own_task args.file.now args.sheet.now) (run_in args.file.now args.sheet.now).path
last-is c = c.last_point-to.ensures ∙ ap₂ last_point ((let here : let args = c.args in task_of (decode c.task_body-body.result.now) ≡ own_task args.file.now args.sheet.now = let start = c in own-task start.args.file.now start.args.sheet.now start.requires.0.rules c.from.ensures c.from-long.ensures c.task_body-body.ensures.0 in here)) ((let here : let args = c.args in path_part args.sheet.now c.from-long.result ≡ (run_in args.file.now args.sheet.now).path = let start = c in own-blocks start.args.file.now start.args.sheet.now start.requires.0.rules c.from.ensures c.from-long.ensures c.task_body-body.ensures.0 in here))

-- the own references up to it
rest : (c : After-last_point-to)
    → let at = c.loop-at in
    OwnRun (task_of (decode c.task_body-body.result.now)) (path_part c.args.sheet.now c.from-long.result) (held_both at.run) at.from c.last_point-to.result
rest c =
    let at = c.loop-at in
    let start = c in
    own_moved (held_both at.run) at.from ((let here : let args = c.args in task_of (decode c.task_body-body.result.now) ≡ own_task args.file.now args.sheet.now = let start = c in own-task start.args.file.now start.args.sheet.now start.requires.0.rules c.from.ensures c.from-long.ensures c.task_body-body.ensures.0 in here)) ((let here : let args = c.args in path_part args.sheet.now c.from-long.result ≡ (run_in args.file.now args.sheet.now).path = let start = c in own-blocks start.args.file.now start.args.sheet.now start.requires.0.rules c.from.ensures c.from-long.ensures c.task_body-body.ensures.0 in here)) (last-is c)
    (end-run start.args.file.now start.args.sheet.now start.args.shape start.requires.0 start.requires.1 (held_both at.run) at.from at.at at.invariant)

pub bounds-sheet-1 : goal.bounds-sheet-1
bounds-sheet-1 c = omega (arith, (facts (goal.at.bounds-sheet-1 c).Start).places.within)

pub bounds-sheet-0 : goal.bounds-sheet-0
bounds-sheet-0 c = omega (arith, (facts (goal.at.bounds-sheet-0 c).Start).places.within)

pub task_body-body-requires : goal.task_body-body-requires
task_body-body-requires c =
    let start = c in
    (start.requires.0.rules.file, own-there start.args.file.now start.args.sheet.now (facts (goal.at.task_body-body-requires c).Start) c.from.ensures c.from-long.ensures)

pub slice_bounds-path-end : goal.slice_bounds-path-end
slice_bounds-path-end c =
    let start = c in
    omega (arith, own-within start.args.file.now start.args.sheet.now (facts (goal.at.slice_bounds-path-end c).Start) c.from.ensures c.from-long.ensures)

pub loop-at-init : goal.loop-at-init
loop-at-init c =
    let start = c in
    run_start start.args.file.now start.args.sheet.now start.args.shape start.requires.0 start.requires.1 c.empty_runs-run.ensures c.from-long.ensures

pub bounds-sheet-at-in-loop-at : goal.bounds-sheet-at-in-loop-at
bounds-sheet-at-in-loop-at c = omega (arith, (next (goal.at.bounds-sheet-at-in-loop-at c).In-loop-at).places.within)

pub kept_walk-walked-requires : goal.kept_walk-walked-requires
kept_walk-walked-requires c = own-kept c.args.file.now c.args.sheet.now c.requires.0.rules c.from.ensures c.from-long.ensures c.task_body-body.ensures.0

pub invariant_of-on : goal.invariant_of-on
invariant_of-on c = record { there = path-in (goal.at.invariant_of-on c).After-kept_walk-walked }

pub invariant_of-on-2 : goal.invariant_of-on-2
invariant_of-on-2 c = record { there = path-in (goal.at.invariant_of-on-2 c).After-kept_walk-walked }

pub invariant_of-part : goal.invariant_of-part
invariant_of-part c = record { within = (own (goal.at.invariant_of-part c).After-from-in-loop-at-2).part }

pub after_part_both-own-requires : goal.after_part_both-own-requires
after_part_both-own-requires c = (holds (goal.at.after_part_both-own-requires c).Start, (own (goal.at.after_part_both-own-requires c).After-from-in-loop-at-2).few)

pub overflow_add-first : goal.overflow_add-first
overflow_add-first c = omega (arith, room (goal.at.overflow_add-first c).In-loop-at, (next (goal.at.overflow_add-first c).In-loop-at).places.within)

pub overflow_add-at-in-loop-at-2 : goal.overflow_add-at-in-loop-at-2
overflow_add-at-in-loop-at-2 c = omega (arith, room (goal.at.overflow_add-at-in-loop-at-2 c).In-loop-at, (next (goal.at.overflow_add-at-in-loop-at-2 c).In-loop-at).places.within)

pub offset_bounds-sheet-at-in-loop-at-2 : goal.offset_bounds-sheet-at-in-loop-at-2
offset_bounds-sheet-at-in-loop-at-2 c = omega (arith, room (goal.at.offset_bounds-sheet-at-in-loop-at-2 c).In-loop-at, (next (goal.at.offset_bounds-sheet-at-in-loop-at-2 c).In-loop-at).places.within)

pub bounds-sheet-at-in-loop-at-2 : goal.bounds-sheet-at-in-loop-at-2
bounds-sheet-at-in-loop-at-2 c = omega (arith, (next (goal.at.bounds-sheet-at-in-loop-at-2 c).In-loop-at).places.within)

pub overflow_add-next : goal.overflow_add-next
overflow_add-next c = omega (arith, room (goal.at.overflow_add-next c).In-loop-at, (next (goal.at.overflow_add-next c).In-loop-at).places.within)

pub overflow_add-at-in-loop-at-3 : goal.overflow_add-at-in-loop-at-3
overflow_add-at-in-loop-at-3 c = omega (arith, room (goal.at.overflow_add-at-in-loop-at-3 c).In-loop-at, (next (goal.at.overflow_add-at-in-loop-at-3 c).In-loop-at).places.within)

pub offset_bounds-sheet-at-in-loop-at-3 : goal.offset_bounds-sheet-at-in-loop-at-3
offset_bounds-sheet-at-in-loop-at-3 c = omega (arith, room (goal.at.offset_bounds-sheet-at-in-loop-at-3 c).In-loop-at, (next (goal.at.offset_bounds-sheet-at-in-loop-at-3 c).In-loop-at).places.within)

pub bounds-sheet-at-in-loop-at-3 : goal.bounds-sheet-at-in-loop-at-3
bounds-sheet-at-in-loop-at-3 c = omega (arith, (next (goal.at.bounds-sheet-at-in-loop-at-3 c).In-loop-at).places.within)

pub offset_bounds-sheet-first : goal.offset_bounds-sheet-first
offset_bounds-sheet-first c = omega (arith, room (goal.at.offset_bounds-sheet-first c).In-loop-at, (next (goal.at.offset_bounds-sheet-first c).In-loop-at).places.within)

pub slice_bounds-preempted-end : goal.slice_bounds-preempted-end
slice_bounds-preempted-end c = omega (arith, (by c).within)

pub preempted-run-requires : goal.preempted-run-requires
preempted-run-requires c = let start = c in let f = by (goal.at.preempted-run-requires c).After-from-in-loop-at-4 in (start.requires.0.rules.file, f.there, start.requires.1, f.below, f.some, omega (arith, f.few))

pub loop-at-preserved : goal.loop-at-preserved
loop-at-preserved c =
    let m = c in
    let at = m.loop-at in
    let start = m in
    run_turn start.args.file.now start.args.sheet.now start.args.shape start.requires.0 start.requires.1 (held_both at.run) at.from at.at at.invariant (next (goal.at.loop-at-preserved c).In-loop-at) c.from-in-loop-at-4.ensures c.from-in-loop-at-3.ensures (to_is (goal.at.loop-at-preserved c).After-from-in-loop-at-2)
    (ran_moved (shaped 32 start.args.shape) (held_both at.run) at.from (task-is (goal.at.loop-at-preserved c).After-path-1) (path-is (goal.at.loop-at-preserved c).After-path-1) (to_is (goal.at.loop-at-preserved c).After-from-in-loop-at-2) c.after_part_both-own.ensures) c.preempted-run.ensures

pub last_point-to-requires : goal.last_point-to-requires
last_point-to-requires c = some (goal.at.last_point-to-requires c).After-path-1

pub invariant_of-rest : goal.invariant_of-rest
invariant_of-rest c = record { within = (rest (goal.at.invariant_of-rest c).After-last_point-to).part }

pub after_part_both-all-requires : goal.after_part_both-all-requires
after_part_both-all-requires c = (holds (goal.at.after_part_both-all-requires c).Start, (rest (goal.at.after_part_both-all-requires c).After-last_point-to).few)

pub returns : goal.returns
returns c =
    let m = c in
    let at = m.loop-at in
    let start = m in
    run_end_lem start.args.file.now start.args.sheet.now start.args.shape start.requires.0 start.requires.1 (held_both at.run) at.from at.at at.invariant m.loop-at-test.false
    (ran_moved (shaped 32 start.args.shape) (held_both at.run) at.from (task-is (goal.at.returns c).After-path-1) (path-is (goal.at.returns c).After-path-1) (last-is (goal.at.returns c).After-last_point-to) c.after_part_both-all.ensures)
