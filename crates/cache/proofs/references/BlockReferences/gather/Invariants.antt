-- `BlockReferences::gather` meets its contract. The loop's invariant is `RowsSoFar`, of the references read. Assumes nothing.
use Prim.Native.Nat.{◌/◌, ◌≤◌}
use lib.ListN.{length, take}
use Rattle.cache.specs.References.{numbers}
use Rattle.cache.specs.Shape.{shaped}
use Rattle.cache.specs.SoFar.{RowsSoFar}
use Rattle.cache.proofs.references.BlockReferences.gather.Given as goal

abbrev pub invariant-loop-i : goal.invariant-loop-i
invariant-loop-i l =
    RowsSoFar (shaped 32 l.shape) (take l.i (numbers l.references)) l.first.cells l.last.cells × (l.i ≤ length l.references / 2)
