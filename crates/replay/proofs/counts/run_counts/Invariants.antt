-- `counts::run_counts` meets its contract: both runs by the segments that are left give what the whole run gives from two empty caches. Assumes nothing.
use Prim.Native.Nat.{◌-◌}
use lib.ListN.{length}
use Rattle.runs.specs.Running.{held_both}
use Rattle.replay.proofs.CountLaws.{RunLeft}
use Rattle.replay.proofs.counts.run_counts.Given as goal

abbrev pub invariant-loop-at : goal.invariant-loop-at
invariant-loop-at l = RunLeft l.file l.sheet l.shape (held_both l.run) l.from l.at

abbrev pub decreases-loop-at : goal.decreases-loop-at
decreases-loop-at l = length l.sheet - l.at
