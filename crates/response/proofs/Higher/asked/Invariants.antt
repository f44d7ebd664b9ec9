-- `Higher::asked` meets its contract: the loop adds the terms of the higher tasks, each at most 10^15. Assumes nothing.
use mathlib.Core.Path.{◌≡◌}
use Prim.Native.Nat.{◌≤◌, ◌-◌, ◌*◌, ◌+◌}
use Rattle.response.specs.Response.{demand}
use Rattle.response.proofs.Higher.asked.Given as goal

abbrev pub invariant-loop-j : goal.invariant-loop-j
invariant-loop-j l = (l.j ≤ l.self.count) × (l.sum ≡ demand l.c l.self.periods l.self.costs l.j l.r) × (l.sum ≤ 1000000 + l.j * 1000000000000000)

abbrev pub decreases-loop-j : goal.decreases-loop-j
decreases-loop-j l = l.self.count - l.j
