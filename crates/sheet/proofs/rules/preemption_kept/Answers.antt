-- `rules::preemption_kept` meets its contract: each answer is the test at the number that decides it. Assumes nothing.
use Prim.Native.Nat.{◌+◌}
use lib.ListN.{get_or, drop}
use Rattle.sheet.proofs.RuleLaws.{test_low, test_outside, test_absent, test_own, test_path, path_in_part}
use Rattle.sheet.proofs.rules.preemption_kept.Goals as goal

pub returns-then-long-position : goal.returns-then-long-position
returns-then-long-position c =
    let k = c in
    let a = k.args in
    let s = a.sheet.now in
    test_outside a.tasks a.p a.long a.low a.low_done (get_or s a.at 0) (get_or s (a.at + 1) 0) (get_or s (a.at + 2) 0) (get_or s (a.at + 3) 0) (drop (a.at + 4) s)
    k.from-position.ensures k.from.ensures k.from-by.ensures k.not_before.ensures c.if-not_before.true c.if-long-position.true

pub returns-then-tasks-by : goal.returns-then-tasks-by
returns-then-tasks-by c =
    let k = c in
    let a = k.args in
    let s = a.sheet.now in
    test_absent a.tasks a.p a.long a.low a.low_done (get_or s a.at 0) (get_or s (a.at + 1) 0) (get_or s (a.at + 2) 0) (get_or s (a.at + 3) 0) (drop (a.at + 4) s)
    k.from-position.ensures k.from.ensures k.from-by.ensures k.not_before.ensures c.if-not_before.true c.if-long-position.false c.if-tasks-by.true

pub returns-then-by-p : goal.returns-then-by-p
returns-then-by-p c =
    let k = c in
    let a = k.args in
    let s = a.sheet.now in
    test_own a.tasks a.p a.long a.low a.low_done (get_or s a.at 0) (get_or s (a.at + 1) 0) (get_or s (a.at + 2) 0) (get_or s (a.at + 3) 0) (drop (a.at + 4) s)
    k.from-position.ensures k.from.ensures k.from-by.ensures k.not_before.ensures c.if-not_before.true c.if-long-position.false c.if-tasks-by.false c.if-by-p.true

pub returns-then-not_before : goal.returns-then-not_before
returns-then-not_before c =
    let k = c in
    let a = k.args in
    let s = a.sheet.now in
    test_path a.tasks a.p a.long a.low a.low_done (get_or s a.at 0) (get_or s (a.at + 1) 0) (get_or s (a.at + 2) 0) (get_or s (a.at + 3) 0) (drop (a.at + 4) s)
    k.from-position.ensures k.from.ensures k.from-by.ensures k.not_before.ensures c.if-not_before.true c.if-long-position.false c.if-tasks-by.false c.if-by-p.false
    (path_in_part s (a.at + 4) (get_or s (a.at + 3) 0) c.from-then-not_before.ensures c.path_kept.ensures)

pub returns : goal.returns
returns c =
    let k = c in
    let a = k.args in
    let s = a.sheet.now in
    test_low a.tasks a.p a.long a.low a.low_done (get_or s a.at 0) (get_or s (a.at + 1) 0) (get_or s (a.at + 2) 0) (get_or s (a.at + 3) 0) (drop (a.at + 4) s)
    k.from-position.ensures k.from.ensures k.from-by.ensures k.not_before.ensures c.if-not_before.false
