-- `crpd_costliest_run` meets its contract: it answers what Costliest run answers, in numbers. Assumes nothing.
-- The idea: the answer that is told is that of the call; behind the test the list has its places.
use mathlib.Core.Path.{refl}
use lib.ListN.{length}
use borrow.Author.Tests.{eq-eqb, ne_eqb}
use Rattle.crpd_c.proofs.crpd_costliest_run.crpd_costliest_run.Goals as goal

pub returns-then-answer-ne2 : goal.returns-then-answer-ne2
returns-then-answer-ne2 c =
    rw (ne_eqb (length c.args.answer.now) 2 c.if-answer-ne2.true) (refl, refl, refl, refl, refl)

pub returns : goal.returns
returns c =
    let at = c in
    let call = at.costliest_run.ensures in
    let e = eq-eqb (length at.args.answer.now) 2 at.if-answer-ne2.false in
    let told = rw e at c.tell_writing.ensures in
    rw e (record { writing = at.costliest_run.result; answer = call.0; status_is = told.0; numbers_are = told.1 }, call.1, call.2)
