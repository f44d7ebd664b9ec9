-- `crpd_row` meets its contract: it answers where the part stands that Row hands back. Assumes nothing.
-- The idea: the two numbers of the place are told as they are.
use Rattle.crpd_c.proofs.crpd_row.crpd_row.Goals as goal

pub returns : goal.returns
returns c =
    let call = c.row_place-row.ensures in
    rw (call.0, call.1) at c.tell_place.ensures
