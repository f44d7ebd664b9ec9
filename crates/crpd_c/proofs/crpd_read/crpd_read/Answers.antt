-- `crpd_read` meets its contract: it answers what Reader answers, in numbers. Assumes nothing.
-- The idea: the answer that is told is that of the call.
use Rattle.crpd_c.proofs.crpd_read.crpd_read.Goals as goal

pub returns : goal.returns
returns c = rw c.read.ensures at c.tell_reading.ensures
