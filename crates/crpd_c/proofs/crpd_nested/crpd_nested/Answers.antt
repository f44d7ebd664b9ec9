-- `crpd_nested` meets its contract: it answers what Nested replay answers, in numbers. Assumes nothing.
-- The idea: the answer that is told is that of the call.
use Rattle.crpd_c.proofs.crpd_nested.crpd_nested.Goals as goal

pub returns : goal.returns
returns c = rw c.nested_replay.ensures at c.tell_nested.ensures
