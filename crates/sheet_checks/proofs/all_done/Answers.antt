-- `all_done` meets its contract: the numbers of references done that are left are right just where all are. Assumes nothing.
use mathlib.Core.Path.{◌≡◌, ap, ◌∙◌}
use native.Mathlib.Omega.{arith}
use Rattle.body.specs.Decode.{decode}
use Rattle.body.specs.Walk.{starts_of}
use Rattle.sheet_checks.proofs.SheetLaws.{SheetFacts, sheet_facts, NextLeft, each_start, next-left, each-end, each-broken, each_on, own-there, own-within}
use Rattle.sheet_checks.proofs.OwnPath.{own-task, own-blocks, own-kept, own_in}
use Rattle.sheet_checks.proofs.PointLaws.{done_test, done_in, done_told}
use Rattle.sheet_checks.proofs.all_done.Goals as goal
use Rattle.sheet_checks.proofs.all_done.Goals.{After-right_done, In-loop-at, Start}

facts : (c : Start) → SheetFacts c.args.file.now c.args.sheet.now
facts c = sheet_facts c.args.file.now c.args.sheet.now c.requires.0

-- the next preemption
abbrev next : (c : In-loop-at)
    → let args = c.args in
    NextLeft (done_test args.file.now args.sheet.now) args.file.now args.sheet.now c.loop-at.at
next c =
    let args = c.args in
    next-left (done_test args.file.now args.sheet.now) args.file.now args.sheet.now c.loop-at.at c.loop-at.invariant c.loop-at-test.true

-- what the test says of it
judged : (c : After-right_done)
    → let k = c in
    let args = k.args in
    done_test args.file.now args.sheet.now ((let here : let args = c.args in NextLeft (done_test args.file.now args.sheet.now) args.file.now args.sheet.now c.loop-at.at = let args = c.args in next-left (done_test args.file.now args.sheet.now) args.file.now args.sheet.now c.loop-at.at c.loop-at.invariant c.loop-at-test.true in here)).first ≡ c.right_done.result
judged c =
    let m = c in
    let k = m in
    let start = k in
    let file = start.args.file.now in
    let sheet = start.args.sheet.now in
    let body = k in
    let ey = body.from.ensures in
    let ek = body.from-long.ensures in
    done_told file sheet start.requires.0 k.loop-at.at ((let here : let args = c.args in NextLeft (done_test args.file.now args.sheet.now) args.file.now args.sheet.now c.loop-at.at = let args = c.args in next-left (done_test args.file.now args.sheet.now) args.file.now args.sheet.now c.loop-at.at c.loop-at.invariant c.loop-at-test.true in here)) m.from-in-loop-at.ensures m.from-in-loop-at-2.result m.from-in-loop-at-2.ensures
    (own-task file sheet start.requires.0 ey ek body.task_body-body.ensures.0) (own-blocks file sheet start.requires.0 ey ek body.task_body-body.ensures.0) c.right_done.ensures

pub bounds-sheet-1 : goal.bounds-sheet-1
bounds-sheet-1 c = omega (arith, (facts (goal.at.bounds-sheet-1 c).Start).places.within)

pub bounds-sheet-0 : goal.bounds-sheet-0
bounds-sheet-0 c = omega (arith, (facts (goal.at.bounds-sheet-0 c).Start).places.within)

pub task_body-body-requires : goal.task_body-body-requires
task_body-body-requires c =
    let start = c in
    (start.requires.0.file, own-there start.args.file.now start.args.sheet.now (facts (goal.at.task_body-body-requires c).Start) c.from.ensures c.from-long.ensures)

pub slice_bounds-path-end : goal.slice_bounds-path-end
slice_bounds-path-end c =
    let start = c in
    omega (arith, own-within start.args.file.now start.args.sheet.now (facts (goal.at.slice_bounds-path-end c).Start) c.from.ensures c.from-long.ensures)

pub loop-at-init : goal.loop-at-init
loop-at-init c =
    let start = c in
    each_start (done_test start.args.file.now start.args.sheet.now) start.args.file.now start.args.sheet.now (facts (goal.at.loop-at-init c).Start) c.from-long.ensures

pub bounds-sheet-at-in-loop-at : goal.bounds-sheet-at-in-loop-at
bounds-sheet-at-in-loop-at c = omega (arith, (next (goal.at.bounds-sheet-at-in-loop-at c).In-loop-at).places.within)

pub kept_walk-walked-requires : goal.kept_walk-walked-requires
kept_walk-walked-requires c =
    let file = c.args.file.now in
    let sheet = c.args.sheet.now in
    own-kept file sheet c.requires.0 c.from.ensures c.from-long.ensures c.task_body-body.ensures.0

pub invariant_of-on : goal.invariant_of-on
invariant_of-on c =
    let w = c.kept_walk-walked in
    let begin = w.result.walked.2 ∙ ap (λ b. starts_of (decode b)) w.ensures in
    record { there = own_in c.args.file.now c.args.sheet.now c.requires.0 c.from.ensures c.from-long.ensures c.task_body-body.ensures.0 c.requires.1 begin }

pub right_done-requires : goal.right_done-requires
right_done-requires c =
    let file = c.args.file.now in
    let sheet = c.args.sheet.now in
    done_in file sheet c.requires.0 c.loop-at.at (next (goal.at.right_done-requires c).In-loop-at) c.from-in-loop-at.ensures (own-blocks file sheet c.requires.0 c.from.ensures c.from-long.ensures c.task_body-body.ensures.0)

pub bounds-sheet-at-then-right_done : goal.bounds-sheet-at-then-right_done
bounds-sheet-at-then-right_done c = omega (arith, (next (goal.at.bounds-sheet-at-then-right_done c).In-loop-at).places.within)

pub loop-at-preserved : goal.loop-at-preserved
loop-at-preserved c =
    let m = c in
    let k = m in
    let args = k.args in
    each_on (done_test args.file.now args.sheet.now) args.file.now args.sheet.now k.loop-at.at (next (goal.at.loop-at-preserved c).In-loop-at) c.from-then-right_done.ensures (judged (goal.at.loop-at-preserved c).After-right_done ∙ c.if-right_done.true)

pub returns-else-right_done : goal.returns-else-right_done
returns-else-right_done c =
    let k = c in
    let args = k.args in
    each-broken (done_test args.file.now args.sheet.now) args.file.now args.sheet.now k.loop-at.at (next (goal.at.returns-else-right_done c).In-loop-at) (judged (goal.at.returns-else-right_done c).After-right_done ∙ c.if-right_done.false)

pub returns : goal.returns
returns c =
    let args = c.args in
    each-end (done_test args.file.now args.sheet.now) args.file.now args.sheet.now c.loop-at.at c.loop-at.invariant c.loop-at-test.false
