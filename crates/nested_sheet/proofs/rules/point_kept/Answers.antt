-- `rules::point_kept` meets its contract: each answer is the test at the number that decides it. Assumes nothing.
use native.Mathlib.Omega.{arith}
use Rattle.nested_sheet.proofs.HeadLaws.{point_none, point_outside, point_order}
use Rattle.nested_sheet.proofs.rules.point_kept.Goals as goal

pub returns-then-sheet-at : goal.returns-then-sheet-at
returns-then-sheet-at c =
    let a = c.args in
    point_none a.sheet.now a.long a.i a.d a.at c.if-sheet-at.true

pub returns-then-long-position : goal.returns-then-long-position
returns-then-long-position c =
    let k = c in
    let a = k.args in
    let there = k.if-sheet-at.false in
    point_outside a.sheet.now a.long a.i a.d a.at (omega (arith, there)) k.from-position.ensures c.if-long-position.true

pub returns : goal.returns
returns c =
    let k = c in
    let a = k.args in
    let there = k.if-sheet-at.false in
    point_order a.sheet.now a.long a.i a.d a.at (omega (arith, there)) k.from-position.ensures (omega (arith, c.if-long-position.false)) c.from.ensures
    c.not_before.ensures
