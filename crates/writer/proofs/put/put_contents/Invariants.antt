-- `put::put_contents` meets its contract: the entries that are left, put from here on, give what all of them give from the start. Assumes nothing.
use mathlib.Core.Path.{◌≡◌}
use Prim.Native.Nat.{◌+◌, ◌*◌, ◌-◌, ◌≤◌}
use lib.ListN.{length, drop}
use lib.Seq.{sets}
use Rattle.project.specs.Writing.{total}
use Rattle.writer.specs.Pieces.{entries}
use Rattle.writer.proofs.put.put_contents.Given as goal

abbrev pub invariant-loop-j : goal.invariant-loop-j
invariant-loop-j l =
    (l.j ≤ length l.lengths)
    × (length l.out ≡ length l.initial.out)
    × (l.offset + total (drop l.j l.lengths) ≡ l.start + 4 * length l.lengths + total l.lengths)
    × (sets l.out (l.start + 4 * l.j) (entries l.offset (drop l.j l.lengths)) ≡ sets l.initial.out l.start (entries (l.start + 4 * length l.lengths) l.lengths))

abbrev pub decreases-loop-j : goal.decreases-loop-j
decreases-loop-j l = length l.lengths - l.j
