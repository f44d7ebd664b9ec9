-- `crpd_microseconds` meets its contract: it answers what Microseconds answers, in numbers. Assumes nothing.
-- The idea: the answer that is told is that of the call.
use Rattle.crpd_c.proofs.crpd_microseconds.crpd_microseconds.Goals as goal

pub returns : goal.returns
returns c = rw c.microseconds.ensures at c.tell_timing.ensures
