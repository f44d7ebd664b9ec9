-- `are_wrong` meets its contract. Assumes nothing.
use mathlib.Core.Path.{◌≡◌}
use mathlib.Core.Bool.{false}
use Prim.Native.Nat.{◌≤◌, ◌-◌}
use Rattle.responses.specs.Responses.{any}
use Rattle.responses.specs.Plan.{wrong_at}
use Rattle.responses.proofs.plan.are_wrong.Given as goal

abbrev pub invariant-loop-i : goal.invariant-loop-i
invariant-loop-i l = (l.i ≤ l.tasks) × (any l.i (wrong_at l.times) ≡ false)

abbrev pub decreases-loop-i : goal.decreases-loop-i
decreases-loop-i l = l.tasks - l.i
