-- `paths::set_of` meets its contract: the bits set are the blocks read so far. Assumes nothing.
use mathlib.Core.Path.{◌≡◌}
use Prim.Native.Nat.{◌≤◌, ◌-◌}
use lib.ListN.{length, take}
use Rattle.body.specs.Jumps.{set_of}
use Rattle.body.proofs.paths.set_of.Given as goal

abbrev pub invariant-loop-b : goal.invariant-loop-b
invariant-loop-b l = l.set ≡ set_of (take l.b-index l.blocks)
