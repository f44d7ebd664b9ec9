-- `crpd_states` meets its contract: it answers what States answers, in numbers. Assumes nothing.
-- The idea: the answer that is told is that of the call; behind the test the list has its places.
use lib.ListN.{length}
use borrow.Author.Tests.{eq-eqb, ne_eqb}
use Rattle.crpd_c.proofs.crpd_states.crpd_states.Goals as goal

pub returns-then-named-ne1 : goal.returns-then-named-ne1
returns-then-named-ne1 c =
    let e = ne_eqb (length c.args.named.now) 1 c.if-named-ne1.true in
    (rw e, rw e, rw e)

pub returns : goal.returns
returns c =
    let at = c in
    let call = at.states.ensures in
    let e = eq-eqb (length at.args.named.now) 1 at.if-named-ne1.false in
    let told = rw call.0 at c.tell_filling.ensures in
    (told.0, rw e call.1, told.1)
