-- `crpd_replay` meets its contract: it answers what Replay answers, in numbers. Assumes nothing.
-- The idea: the answer that is told is that of the call.
use Rattle.crpd_c.proofs.crpd_replay.crpd_replay.Goals as goal

pub returns : goal.returns
returns c = rw c.replay.ensures at c.tell_replaying.ensures
