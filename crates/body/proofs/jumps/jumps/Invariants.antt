-- `jumps::jumps` meets its contract: the sets of the blocks so far, and zeros. Assumes nothing.
use mathlib.Core.Path.{◌≡◌}
use Prim.Native.Nat.{◌≤◌, ◌-◌}
use lib.ListN.{length}
use Rattle.body.specs.Decode.{decode, task_of}
use Rattle.body.proofs.JumpLaws.{jumps_to}
use Rattle.body.proofs.jumps.jumps.Given as goal

abbrev pub invariant-loop-b : goal.invariant-loop-b
invariant-loop-b l = (l.b ≤ l.b-end) × (length l.sets ≡ 24) × (l.sets ≡ jumps_to 24 (task_of (decode l.walk.body.now)) l.b)

abbrev pub decreases-loop-b : goal.decreases-loop-b
decreases-loop-b l = l.b-end - l.b
