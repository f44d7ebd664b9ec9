-- `all_complete` meets its contract: the own path decides, or those of the preemptions do. Assumes nothing.
use native.Mathlib.Omega.{arith}
use Rattle.project.specs.Tasks.{tasks_of}
use Rattle.sheet_checks.proofs.SheetLaws.{SheetFacts, sheet_facts, own-there, own-within, all-broken, all-by-each}
use Rattle.sheet_checks.proofs.all_complete.Goals as goal
use Rattle.sheet_checks.proofs.all_complete.Goals.{Start}

facts : (c : Start) → SheetFacts c.args.file.now c.args.sheet.now
facts c = sheet_facts c.args.file.now c.args.sheet.now c.requires

pub bounds-sheet-1 : goal.bounds-sheet-1
bounds-sheet-1 c = omega (arith, (facts (goal.at.bounds-sheet-1 c).Start).places.within)

pub bounds-sheet-0 : goal.bounds-sheet-0
bounds-sheet-0 c = omega (arith, (facts (goal.at.bounds-sheet-0 c).Start).places.within)

pub slice_bounds-complete_in-end : goal.slice_bounds-complete_in-end
slice_bounds-complete_in-end c =
    let start = c in
    omega (arith, own-within start.args.file.now start.args.sheet.now (facts (goal.at.slice_bounds-complete_in-end c).Start) c.from.ensures c.from-end.ensures)

pub complete_in-requires : goal.complete_in-requires
complete_in-requires c =
    let k = c in
    let start = k in
    (start.requires.file, own-there start.args.file.now start.args.sheet.now (facts (goal.at.complete_in-requires c).Start) k.from.ensures k.from-end.ensures)

pub returns-then-complete_in : goal.returns-then-complete_in
returns-then-complete_in c =
    let k = c in
    let start = k in
    all-by-each start.args.file.now start.args.sheet.now (facts (goal.at.returns-then-complete_in c).Start) k.from.ensures k.from-end.ensures (tasks_of start.args.file.now) c.complete_in.ensures c.if-complete_in.true c.each_complete.ensures

pub returns : goal.returns
returns c =
    let k = c in
    let start = k in
    all-broken start.args.file.now start.args.sheet.now (facts (goal.at.returns c).Start) k.from.ensures k.from-end.ensures (tasks_of start.args.file.now) c.complete_in.ensures c.if-complete_in.false
