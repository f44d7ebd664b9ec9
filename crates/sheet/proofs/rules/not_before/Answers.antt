-- `rules::not_before` meets its contract: each answer is the test at the numbers that decide it. Assumes nothing.
use Rattle.sheet.proofs.RuleLaws.{point_before, point_beside, point_behind}
use Rattle.sheet.proofs.rules.not_before.Goals as goal

pub returns-then-i-j : goal.returns-then-i-j
returns-then-i-j c =
    let a = c.args in
    point_before a.i a.d a.j a.e c.if-i-j.true

pub returns-then-i-j-2 : goal.returns-then-i-j-2
returns-then-i-j-2 c =
    let a = c.args in
    point_beside a.i a.d a.j a.e c.if-i-j.false c.if-i-j-2.true

pub returns : goal.returns
returns c =
    let a = c.args in
    point_behind a.i a.d a.j a.e c.if-i-j.false c.if-i-j-2.false
