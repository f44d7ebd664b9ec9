-- `rules::sheet_kept` meets its contract: the task, the path or the preemptions decide. Assumes nothing.
use native.Mathlib.Omega.{arith}
use Rattle.sheet.proofs.RuleLaws.{sheet-short, sheet-task, sheet-path, path-within, sheet-list}
use Rattle.sheet.proofs.rules.sheet_kept.Goals as goal

pub returns-then-sheet-lt2 : goal.returns-then-sheet-lt2
returns-then-sheet-lt2 c = sheet-short c.args.tasks c.args.sheet.now c.if-sheet-lt2.true

pub returns-then-tasks-p : goal.returns-then-tasks-p
returns-then-tasks-p c =
    let a = c.args in
    sheet-task a.tasks a.sheet.now (omega arith) c.from-p.ensures (omega arith)

pub list_kept-requires : goal.list_kept-requires
list_kept-requires c =
    let k = c in
    let a = k.args in
    path-within a.tasks a.sheet.now (omega arith) k.from-p.ensures (omega arith) k.from-long.ensures k.path_kept.ensures c.if-path_kept.true

pub returns-then-path_kept : goal.returns-then-path_kept
returns-then-path_kept c =
    let k = c in
    let a = k.args in
    sheet-list a.tasks a.sheet.now (omega arith) k.from-p.ensures (omega arith) k.from-long.ensures k.path_kept.ensures c.if-path_kept.true c.list_kept.ensures

pub returns : goal.returns
returns c =
    let k = c in
    let a = k.args in
    sheet-path a.tasks a.sheet.now (omega arith) k.from-p.ensures (omega arith) k.from-long.ensures k.path_kept.ensures c.if-path_kept.false
