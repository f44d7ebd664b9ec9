-- `paths::has_all` meets its contract: each block passed is in the set. Assumes nothing.
use mathlib.Core.Path.{◌≡◌}
use mathlib.Core.Bool.{true}
use Prim.Native.Nat.{◌≤◌, ◌-◌}
use Rattle.body.specs.Jumps.{has_below}
use Rattle.body.proofs.paths.has_all.Given as goal

abbrev pub invariant-loop-b : goal.invariant-loop-b
invariant-loop-b l = (l.b ≤ l.count) × (has_below l.set l.b ≡ true)

abbrev pub decreases-loop-b : goal.decreases-loop-b
decreases-loop-b l = l.count - l.b
