-- `each_complete` meets its contract: the paths that are left are complete just where all are. Assumes nothing.
use mathlib.Core.Path.{◌≡◌, ◌∙◌}
use Prim.Native.Nat.{◌+◌, ◌≤◌, ◌<◌}
use native.Mathlib.Omega.{arith}
use lib.ListN.{length}
use Rattle.project.specs.File.{task_count}
use Rattle.project.specs.Tasks.{tasks_of}
use Rattle.sheet.specs.Parsed.{complete_by}
use Rattle.sheet_checks.proofs.SheetLaws.{SheetFacts, sheet_facts, NextLeft, each_start, next-left, each-end, each-broken, each_on, next-there, next_judged}
use Rattle.sheet_checks.proofs.each_complete.Goals as goal
use Rattle.sheet_checks.proofs.each_complete.Goals.{After-complete_in, After-from, After-from-in-loop-at, In-loop-at, Start}

facts : (c : Start) → SheetFacts c.args.file.now c.args.sheet.now
facts c = sheet_facts c.args.file.now c.args.sheet.now c.requires

-- the next preemption
abbrev next : (c : In-loop-at)
    → let args = c.args in
    NextLeft (complete_by (tasks_of args.file.now)) args.file.now args.sheet.now c.loop-at.at
next c =
    let args = c.args in
    next-left (complete_by (tasks_of args.file.now)) args.file.now args.sheet.now c.loop-at.at c.loop-at.invariant c.loop-at-test.true

-- it lies in the sheet
within : (c : After-from)
    → c.loop-at.at + 4 + c.from.result ≤ length c.args.sheet.now
within c = let n = (let here : let args = c.args in NextLeft (complete_by (tasks_of args.file.now)) args.file.now args.sheet.now c.loop-at.at = let args = c.args in next-left (complete_by (tasks_of args.file.now)) args.file.now args.sheet.now c.loop-at.at c.loop-at.invariant c.loop-at-test.true in here) in omega (arith, c.from.ensures, n.places.long-at, n.places.within)

-- its task is one of the file
there : (c : After-from-in-loop-at) → c.from-in-loop-at.result < task_count c.args.file.now
there c =
    let args = c.args in
    next-there (complete_by (tasks_of args.file.now)) args.file.now args.sheet.now c.loop-at.at ((let here : let args = c.args in NextLeft (complete_by (tasks_of args.file.now)) args.file.now args.sheet.now c.loop-at.at = let args = c.args in next-left (complete_by (tasks_of args.file.now)) args.file.now args.sheet.now c.loop-at.at c.loop-at.invariant c.loop-at-test.true in here))
    c.from-in-loop-at.ensures c.from.ensures

-- what the test says of its path
judged : (c : After-complete_in)
    → let k = c in
    complete_by (tasks_of k.args.file.now) ((let here : let args = c.args in NextLeft (complete_by (tasks_of args.file.now)) args.file.now args.sheet.now c.loop-at.at = let args = c.args in next-left (complete_by (tasks_of args.file.now)) args.file.now args.sheet.now c.loop-at.at c.loop-at.invariant c.loop-at-test.true in here)).first ≡ c.complete_in.result
judged c =
    let k = c in
    let args = k.args in
    next_judged (complete_by (tasks_of args.file.now)) args.file.now args.sheet.now k.loop-at.at ((let here : let args = c.args in NextLeft (complete_by (tasks_of args.file.now)) args.file.now args.sheet.now c.loop-at.at = let args = c.args in next-left (complete_by (tasks_of args.file.now)) args.file.now args.sheet.now c.loop-at.at c.loop-at.invariant c.loop-at-test.true in here))
    k.from-in-loop-at.ensures k.from.ensures (tasks_of args.file.now) c.complete_in.ensures

pub bounds-sheet-1 : goal.bounds-sheet-1
bounds-sheet-1 c = omega (arith, (facts (goal.at.bounds-sheet-1 c).Start).places.within)

pub loop-at-init : goal.loop-at-init
loop-at-init c =
    let start = c in
    each_start (complete_by (tasks_of start.args.file.now)) start.args.file.now start.args.sheet.now (facts (goal.at.loop-at-init c).Start) c.from-at.ensures

pub bounds-sheet-at : goal.bounds-sheet-at
bounds-sheet-at c = omega (arith, (next (goal.at.bounds-sheet-at c).In-loop-at).places.within)

pub bounds-sheet-at-in-loop-at : goal.bounds-sheet-at-in-loop-at
bounds-sheet-at-in-loop-at c = omega (arith, (next (goal.at.bounds-sheet-at-in-loop-at c).In-loop-at).places.within)

pub slice_bounds-complete_in-end : goal.slice_bounds-complete_in-end
slice_bounds-complete_in-end c = omega (arith, within (goal.at.slice_bounds-complete_in-end c).After-from)

pub complete_in-requires : goal.complete_in-requires
complete_in-requires c = (c.requires.file, there (goal.at.complete_in-requires c).After-from-in-loop-at)

pub loop-at-preserved : goal.loop-at-preserved
loop-at-preserved c =
    let k = c in
    let args = k.args in
    each_on (complete_by (tasks_of args.file.now)) args.file.now args.sheet.now k.loop-at.at (next (goal.at.loop-at-preserved c).In-loop-at)
    k.from.ensures (judged (goal.at.loop-at-preserved c).After-complete_in ∙ c.if-complete_in.true)

pub returns-else-complete_in : goal.returns-else-complete_in
returns-else-complete_in c =
    let k = c in
    let args = k.args in
    each-broken (complete_by (tasks_of args.file.now)) args.file.now args.sheet.now k.loop-at.at (next (goal.at.returns-else-complete_in c).In-loop-at)
    (judged (goal.at.returns-else-complete_in c).After-complete_in ∙ c.if-complete_in.false)

pub returns : goal.returns
returns c =
    let args = c.args in
    each-end (complete_by (tasks_of args.file.now)) args.file.now args.sheet.now c.loop-at.at c.loop-at.invariant c.loop-at-test.false
