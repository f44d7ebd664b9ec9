-- `lines::put_row` meets its contract: the lines that are left, placed from here on, give what all of them give from the start. Assumes nothing.
use mathlib.Core.Path.{◌≡◌}
use Prim.Native.Nat.{◌+◌, ◌-◌, ◌≤◌}
use lib.ListN.{length}
use Rattle.rows.specs.Append.{put}
use Rattle.text.specs.Text.{row_text}
use Rattle.text.proofs.lines.put_row.Given as goal

abbrev pub invariant-loop-j : goal.invariant-loop-j
invariant-loop-j l =
    (l.j ≤ l.t)
    × (length l.out ≡ length l.initial.out)
    × (l.next + length (row_text l.numbers l.i (l.t - l.j) l.j) ≡ l.at + length (row_text l.numbers l.i l.t 0))
    × (put l.out l.next (row_text l.numbers l.i (l.t - l.j) l.j) ≡ put l.initial.out l.at (row_text l.numbers l.i l.t 0))

abbrev pub decreases-loop-j : goal.decreases-loop-j
decreases-loop-j l = l.t - l.j
