-- `crpd_table` meets its contract: it answers what Table answers, in numbers. Assumes nothing.
-- The idea: the answer that is told is that of the call; behind the test the list has its places.
use mathlib.Core.Path.{refl}
use lib.ListN.{length}
use borrow.Author.Tests.{eq-eqb, ne_eqb}
use Rattle.crpd_c.proofs.crpd_table.crpd_table.Goals as goal

pub returns-then-named-ne1 : goal.returns-then-named-ne1
returns-then-named-ne1 c =
    let e = ne_eqb (length c.args.named.now) 1 c.if-named-ne1.true in
    (rw e, rw e, rw e, refl, λ _. refl)

pub returns : goal.returns
returns c =
    let at = c in
    let call = at.table.ensures in
    let h = at.if-named-ne1.false in
    let e = eq-eqb (length at.args.named.now) 1 h in
    let told = rw call.0 at c.tell_filling.ensures in
    (told.0, rw e call.1, told.1, call.2, λ other. absurd (other h))
