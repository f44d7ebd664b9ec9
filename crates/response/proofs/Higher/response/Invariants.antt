-- `Higher::response` meets its contract: every number that the iteration takes lies below each one that meets the equation, and it rises until it meets it or
-- passes the deadline. Assumes nothing.
use Prim.Native.Nat.{◌-◌, ◌+◌}
use Rattle.response.specs.Response.{demand}
use Rattle.response.specs.Iteration.{Below}
use Rattle.response.proofs.Higher.response.Given as goal

abbrev pub invariant-loop-r : goal.invariant-loop-r
invariant-loop-r l = Below (demand l.c l.self.periods l.self.costs l.self.count) l.r

abbrev pub decreases-loop-r : goal.decreases-loop-r
decreases-loop-r l = l.d + 1 - l.r
