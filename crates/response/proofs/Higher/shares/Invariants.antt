-- `Higher::shares` meets its contract: the loop adds the shares of the higher tasks, each at most 10^9 times 2^30. Assumes nothing.
use mathlib.Core.Path.{◌≡◌}
use Prim.Native.Nat.{◌≤◌, ◌-◌, ◌*◌}
use Rattle.response.specs.Iteration.{load}
use Rattle.response.proofs.Higher.shares.Given as goal

abbrev pub invariant-loop-j : goal.invariant-loop-j
invariant-loop-j l = (l.j ≤ l.self.count) × (l.sum ≡ load l.self.periods l.self.costs l.j) × (l.sum ≤ l.j * 1073741824000000000)

abbrev pub decreases-loop-j : goal.decreases-loop-j
decreases-loop-j l = l.self.count - l.j
