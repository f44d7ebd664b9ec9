-- `rules::head_end` meets its contract: each answer is the definition at the first number of the head that decides it. Assumes nothing.
use native.Mathlib.Omega.{arith}
use Rattle.nested_sheet.proofs.HeadLaws.{head_none, head_absent, head_around, head_short, head_path, head_no_count, head_many, head_kept}
use Rattle.nested_sheet.proofs.rules.head_end.Goals as goal

pub returns-then-sheet-at : goal.returns-then-sheet-at
returns-then-sheet-at c =
    let a = c.args in
    head_none a.tasks a.around a.sheet.now a.at c.if-sheet-at.true

pub returns-then-tasks-p : goal.returns-then-tasks-p
returns-then-tasks-p c =
    let k = c in
    let a = k.args in
    let ep = k.from-p.ensures in
    head_absent a.tasks a.around a.sheet.now a.at (omega (arith, k.if-sheet-at.false)) ep c.if-tasks-p.true

pub returns-then-around-p-ne0 : goal.returns-then-around-p-ne0
returns-then-around-p-ne0 c =
    let k = c in
    let a = k.args in
    let ep = k.from-p.ensures in
    head_around a.tasks a.around a.sheet.now a.at (omega (arith, k.if-sheet-at.false)) ep k.requires.0 (omega (arith, c.if-tasks-p.false)) c.if-around-p-ne0.true

pub returns-then-sheet-at-2 : goal.returns-then-sheet-at-2
returns-then-sheet-at-2 c =
    let k = c in
    let a = k.args in
    let ep = k.from-p.ensures in
    head_short a.tasks a.around a.sheet.now a.at (omega (arith, k.if-sheet-at.false)) ep k.requires.0 (omega (arith, c.if-tasks-p.false)) c.if-around-p-ne0.false c.if-sheet-at-2.true

pub returns-then-sheet-to : goal.returns-then-sheet-to
returns-then-sheet-to c =
    let w = c in
    let k = w in
    let a = k.args in
    let ep = k.from-p.ensures in
    let e3 = w in
    let l = e3.if-tasks-p.false in
    head_no_count a.tasks a.around a.sheet.now a.at (omega (arith, k.if-sheet-at.false)) ep k.requires.0 (omega (arith, l)) e3.if-around-p-ne0.false (omega (arith, w.if-sheet-at-2.false))
    w.from-long.ensures w.path_kept.ensures c.if-path_kept.true c.if-sheet-to.true

pub returns-then-from-gt-RUNS : goal.returns-then-from-gt-RUNS
returns-then-from-gt-RUNS c =
    let w = c in
    let k = w in
    let a = k.args in
    let ep = k.from-p.ensures in
    let e3 = w in
    let l = e3.if-tasks-p.false in
    head_many a.tasks a.around a.sheet.now a.at (omega (arith, k.if-sheet-at.false)) ep k.requires.0 (omega (arith, l)) e3.if-around-p-ne0.false (omega (arith, w.if-sheet-at-2.false))
    w.from-long.ensures w.path_kept.ensures c.if-path_kept.true (omega (arith, c.if-sheet-to.false)) c.from.ensures
    c.if-from-gt-RUNS.true

pub returns-then-path_kept : goal.returns-then-path_kept
returns-then-path_kept c =
    let w = c in
    let k = w in
    let a = k.args in
    let ep = k.from-p.ensures in
    let e3 = w in
    let l = e3.if-tasks-p.false in
    head_kept a.tasks a.around a.sheet.now a.at (omega (arith, k.if-sheet-at.false)) ep k.requires.0 (omega (arith, l)) e3.if-around-p-ne0.false (omega (arith, w.if-sheet-at-2.false))
    w.from-long.ensures w.path_kept.ensures c.if-path_kept.true (omega (arith, c.if-sheet-to.false)) c.from.ensures
    (omega (arith, c.if-from-gt-RUNS.false))

pub returns : goal.returns
returns c =
    let w = c in
    let k = w in
    let a = k.args in
    let ep = k.from-p.ensures in
    let e3 = w in
    let l = e3.if-tasks-p.false in
    head_path a.tasks a.around a.sheet.now a.at (omega (arith, k.if-sheet-at.false)) ep k.requires.0 (omega (arith, l)) e3.if-around-p-ne0.false (omega (arith, w.if-sheet-at-2.false))
    w.from-long.ensures w.path_kept.ensures c.if-path_kept.false
