-- `crpd_body` meets its contract: it answers where the part stands that Body hands back. Assumes nothing.
-- The idea: the two numbers of the place are told as they are.
use Rattle.crpd_c.proofs.crpd_body.crpd_body.Goals as goal

pub returns : goal.returns
returns c =
    let call = c.place-body.ensures in
    rw (call.0, call.1) at c.tell_place.ensures
