-- What a list answers, by its first run and the rest.
use Rattle.std.proofs.lemmas.Result.{err_from_is_err_and}
use Rattle.nested_sheet.proofs.EndLaws.{list-none, list_deep, list_point, list_fault_lem, list-next}
use Rattle.nested_sheet.proofs.rules.+list_end_run_end.Goals as goal

pub list_end-returns-then-left-eq0 : goal.list_end-returns-then-left-eq0
list_end-returns-then-left-eq0 t c =
    let a = c.args in
    list-none a.tasks a.deep a.around a.sheet.now a.long a.left a.i a.d a.at c.requires.2 c.if-left-eq0.true

pub list_end-returns-then-deep-eq0 : goal.list_end-returns-then-deep-eq0
list_end-returns-then-deep-eq0 t c =
    let a = c.args in
    list_deep a.tasks a.deep a.around a.sheet.now a.long a.left a.i a.d a.at c.requires.2 c.if-left-eq0.false c.if-deep-eq0.true

pub list_end-returns-in_err-next : goal.list_end-returns-in_err-next
list_end-returns-in_err-next t c =
    let a = c.args in
    let p = err_from_is_err_and c.from_residual.result c.from_residual.ensures.1 in
    rw (p.1, p.2) (list_fault_lem a.tasks a.deep a.around a.sheet.now a.long a.left a.i a.d a.at c.requires.2 c.if-left-eq0.false c.if-deep-eq0.false c.point_kept.ensures c.if-point_kept.true c.run_end.ensures.0 c.in_err-next.was)

pub list_end-returns-then-point_kept : goal.list_end-returns-then-point_kept
list_end-returns-then-point_kept t c =
    let a = c.args in
    list-next a.tasks a.deep a.around a.sheet.now a.long a.left a.i a.d a.at c.requires.2 c.if-left-eq0.false c.if-deep-eq0.false c.point_kept.ensures c.if-point_kept.true c.run_end.ensures.0 c.in_ok-next.was c.from.ensures c.from-then-point_kept.ensures
    c.list_end.ensures.0

pub list_end-returns : goal.list_end-returns
list_end-returns t c =
    let a = c.args in
    list_point a.tasks a.deep a.around a.sheet.now a.long a.left a.i a.d a.at c.requires.2 c.if-left-eq0.false c.if-deep-eq0.false c.point_kept.ensures c.if-point_kept.false
