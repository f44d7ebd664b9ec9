-- `all_unmasked` meets its contract: the points that are left avoid masked blocks just where all do. Assumes nothing.
use Prim.Native.Nat.{◌+◌, ◌<◌}
use native.Mathlib.Omega.{arith}
use lib.ListN.{length}
use Rattle.sheet_checks.proofs.SheetLaws.{SheetFacts, sheet_facts, NextLeft, each_start, next-left, each-end, each-broken, each_on}
use Rattle.sheet_checks.proofs.PointLaws.{mask_test, block-there, block-below, point_masked, point_unmasked}
use Rattle.sheet_checks.proofs.all_unmasked.Goals as goal
use Rattle.sheet_checks.proofs.all_unmasked.Goals.{After-from-block, After-from-position, In-loop-at, Start}

facts : (c : Start) → SheetFacts c.args.file.now c.args.sheet.now
facts c = sheet_facts c.args.file.now c.args.sheet.now c.requires.rules

-- the next preemption
next : (c : In-loop-at)
    → let args = c.args in
    NextLeft (mask_test args.file.now args.sheet.now) args.file.now args.sheet.now c.loop-at.at
next c =
    let args = c.args in
    next-left (mask_test args.file.now args.sheet.now) args.file.now args.sheet.now c.loop-at.at c.loop-at.invariant c.loop-at-test.true

-- the block at its point lies in the sheet
there : (c : After-from-position) → 2 + c.from-position.result < length c.args.sheet.now
there c =
    let k = c in
    let start = k in
    block-there (mask_test start.args.file.now start.args.sheet.now) start.args.file.now start.args.sheet.now start.requires.rules k.loop-at.at ((let here : let args = c.args in NextLeft (mask_test args.file.now args.sheet.now) args.file.now args.sheet.now c.loop-at.at = let args = c.args in next-left (mask_test args.file.now args.sheet.now) args.file.now args.sheet.now c.loop-at.at c.loop-at.invariant c.loop-at-test.true in here)) c.from-position.ensures

-- its number is below 24
below : (c : After-from-block) → c.from-block.result < 24
below c =
    let k = c in
    let start = k in
    block-below start.args.file.now start.args.sheet.now start.requires k.loop-at.at ((let here : let args = c.args in NextLeft (mask_test args.file.now args.sheet.now) args.file.now args.sheet.now c.loop-at.at = let args = c.args in next-left (mask_test args.file.now args.sheet.now) args.file.now args.sheet.now c.loop-at.at c.loop-at.invariant c.loop-at-test.true in here)) c.from-position.ensures c.from-block.ensures

pub bounds-sheet-0 : goal.bounds-sheet-0
bounds-sheet-0 c = omega (arith, (facts (goal.at.bounds-sheet-0 c).Start).places.within)

pub unmasked_in-set-requires : goal.unmasked_in-set-requires
unmasked_in-set-requires c =
    let start = c in
    (start.requires.rules.file, omega (arith, c.from.ensures, (facts (goal.at.unmasked_in-set-requires c).Start).places.task-at, (facts (goal.at.unmasked_in-set-requires c).Start).rules.there))

pub bounds-sheet-1 : goal.bounds-sheet-1
bounds-sheet-1 c = omega (arith, (facts (goal.at.bounds-sheet-1 c).Start).places.within)

pub loop-at-init : goal.loop-at-init
loop-at-init c =
    let start = c in
    each_start (mask_test start.args.file.now start.args.sheet.now) start.args.file.now start.args.sheet.now (facts (goal.at.loop-at-init c).Start) c.from-at.ensures

pub bounds-sheet-position : goal.bounds-sheet-position
bounds-sheet-position c = omega (arith, there (goal.at.bounds-sheet-position c).After-from-position)

pub overflow_cast-block : goal.overflow_cast-block
overflow_cast-block c = omega (arith, below c)

pub overflow_shl-block : goal.overflow_shl-block
overflow_shl-block c = omega (arith, below c)

pub returns-then-set-block-eq0 : goal.returns-then-set-block-eq0
returns-then-set-block-eq0 c =
    let m = c in
    let k = m in
    let start = k in
    let file = start.args.file.now in
    let sheet = start.args.sheet.now in
    let set = k in
    each-broken (mask_test file sheet) file sheet k.loop-at.at (next (goal.at.returns-then-set-block-eq0 c).In-loop-at)
    (point_masked file sheet start.requires k.loop-at.at (next (goal.at.returns-then-set-block-eq0 c).In-loop-at) m.from-position.ensures m.from-block.ensures set.from.ensures set.unmasked_in-set.ensures c.if-set-block-eq0.true)

pub bounds-sheet-at-in-loop-at : goal.bounds-sheet-at-in-loop-at
bounds-sheet-at-in-loop-at c = omega (arith, (next (goal.at.bounds-sheet-at-in-loop-at c).In-loop-at).places.within)

pub loop-at-preserved : goal.loop-at-preserved
loop-at-preserved c =
    let m = c in
    let k = m in
    let start = k in
    let file = start.args.file.now in
    let sheet = start.args.sheet.now in
    let set = k in
    each_on (mask_test file sheet) file sheet k.loop-at.at (next (goal.at.loop-at-preserved c).In-loop-at) c.from-in-loop-at.ensures
    (point_unmasked file sheet start.requires k.loop-at.at (next (goal.at.loop-at-preserved c).In-loop-at) m.from-position.ensures m.from-block.ensures set.from.ensures set.unmasked_in-set.ensures c.if-set-block-eq0.false)

pub returns : goal.returns
returns c =
    let args = c.args in
    each-end (mask_test args.file.now args.sheet.now) args.file.now args.sheet.now c.loop-at.at c.loop-at.invariant c.loop-at-test.false
