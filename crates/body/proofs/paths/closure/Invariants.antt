-- `paths::closure` meets its contract: what is reached was led to, and each block that is done has added its set. Assumes nothing.
-- The measure falls since each turn has one block more done.
use Prim.Native.Nat.{◌-◌}
use Rattle.body.proofs.Closures.{Search}
use Rattle.body.proofs.paths.closure.Given as goal

abbrev pub invariant-loop-done : goal.invariant-loop-done
invariant-loop-done l = Search l.sets l.first l.done l.reached

abbrev pub decreases-loop-done : goal.decreases-loop-done
decreases-loop-done l = 16777216 - l.done
