-- `masks::unmasked_blocks` meets its contract: the unmasked blocks found so far are those below b. Assumes nothing.
-- The idea: the set is built from bit 0 on, one bit a turn, by the flags byte with which the block begins.
use mathlib.Core.Path.{◌≡◌}
use Prim.Native.Nat.{◌≤◌, ◌-◌}
use Rattle.cache.specs.Sets.{bits}
use Rattle.model.specs.Computed.{unmasked}
use Rattle.body.specs.Decode.{decode, task_of}
use Rattle.body.proofs.masks.unmasked_blocks.Given as goal

abbrev pub invariant-loop-b : goal.invariant-loop-b
invariant-loop-b l = (l.b ≤ l.b-end) × (l.set ≡ bits l.b (unmasked (task_of (decode l.body))))

abbrev pub decreases-loop-b : goal.decreases-loop-b
decreases-loop-b l = l.b-end - l.b
