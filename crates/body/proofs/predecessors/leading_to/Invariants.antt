-- `predecessors::leading_to` meets its contract: the blocks found so far are those below b. Assumes nothing.
-- The idea: the set is built from bit 0 on, one bit a turn.
use mathlib.Core.Path.{◌≡◌}
use Prim.Native.Nat.{◌≤◌, ◌-◌}
use Rattle.body.specs.Turned.{leading_to}
use Rattle.body.proofs.predecessors.leading_to.Given as goal

abbrev pub invariant-loop-b : goal.invariant-loop-b
invariant-loop-b l = (l.b ≤ l.blocks) × (l.set ≡ leading_to l.sets l.b l.s)

abbrev pub decreases-loop-b : goal.decreases-loop-b
decreases-loop-b l = l.blocks - l.b
