-- `ends::ends_of` meets its contract. The loop's invariant: the sum and the lengths left are the sum of all, and the ends up to the begin of body j are there.
-- Assumes nothing.
use mathlib.Core.Path.{◌≡◌}
use Prim.Native.Nat.{◌+◌, ◌-◌, ◌≤◌}
use lib.ListN.{length, get_or, take, drop}
use Rattle.project.specs.Ends.{nine}
use Rattle.project.specs.Writing.{total}
use Rattle.writer.specs.Pieces.{sums}
use Rattle.writer.proofs.ends.ends_of.Given as goal

abbrev pub invariant-loop-j : goal.invariant-loop-j
invariant-loop-j l =
    (l.j ≤ length l.lengths)
    × (l.sum ≤ length l.bodies)
    × (l.sum + total (drop l.j l.lengths) ≡ total l.lengths)
    × (l.sum ≡ get_or (sums 0 l.lengths) l.j 0)
    × (l.ends ≡ nine (take (l.j + 1) (sums 0 l.lengths)))

abbrev pub decreases-loop-j : goal.decreases-loop-j
decreases-loop-j l = length l.lengths - l.j
