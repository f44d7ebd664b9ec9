-- `predecessors::predecessors` meets its contract: the sets of the blocks so far, and zeros. Assumes nothing.
-- The idea: each turn stores the set of one block.
use mathlib.Core.Path.{◌≡◌}
use Prim.Native.Nat.{◌≤◌, ◌-◌}
use lib.ListN.{length}
use Rattle.body.specs.Turned.{leading_to}
use Rattle.body.proofs.Turning.{made_to}
use Rattle.body.proofs.predecessors.predecessors.Given as goal

abbrev pub invariant-loop-s : goal.invariant-loop-s
invariant-loop-s l = (l.s ≤ l.blocks) × (length l.found ≡ 24) × (l.found ≡ made_to (leading_to l.sets l.blocks) l.s)

abbrev pub decreases-loop-s : goal.decreases-loop-s
decreases-loop-s l = l.blocks - l.s
