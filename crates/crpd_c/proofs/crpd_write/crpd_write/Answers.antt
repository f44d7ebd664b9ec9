-- `crpd_write` meets its contract: it answers what Writer answers, in numbers. Assumes nothing.
-- The idea: the answer that is told is that of the call; behind the test the list has its places.
use lib.ListN.{length}
use borrow.Author.Tests.{eq-eqb, ne_eqb}
use Rattle.crpd_c.proofs.crpd_write.crpd_write.Goals as goal

pub returns-then-answer-ne2 : goal.returns-then-answer-ne2
returns-then-answer-ne2 c =
    let e = ne_eqb (length c.args.answer.now) 2 c.if-answer-ne2.true in
    (rw e, rw e, rw e)

pub returns : goal.returns
returns c =
    let at = c in
    let call = at.write.ensures in
    let e = eq-eqb (length at.args.answer.now) 2 at.if-answer-ne2.false in
    let told = rw call.0 at c.tell_writing.ensures in
    (told.0, rw e call.1, told.1)
