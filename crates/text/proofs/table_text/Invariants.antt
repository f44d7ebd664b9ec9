-- `table_text` meets its contract: the lines of the tasks that are left, placed from here on, give what all of them give after the head. Assumes nothing.
use mathlib.Core.Path.{◌≡◌}
use Prim.Native.Nat.{◌+◌, ◌-◌, ◌≤◌}
use lib.ListN.{length}
use Rattle.rows.specs.Append.{put}
use Rattle.text.specs.Text.{rows_text}
use Rattle.text.proofs.table_text.Given as goal

abbrev pub invariant-loop-i : goal.invariant-loop-i
invariant-loop-i l =
    (l.i ≤ l.tasks)
    × (length l.out ≡ length l.initial.out)
    × (l.next + length (rows_text l.numbers l.tasks (l.tasks - l.i) l.i) ≡ l.initial.next + length (rows_text l.numbers l.tasks l.tasks 0))
    × (put l.out l.next (rows_text l.numbers l.tasks (l.tasks - l.i) l.i) ≡ put l.initial.out l.initial.next (rows_text l.numbers l.tasks l.tasks 0))

abbrev pub decreases-loop-i : goal.decreases-loop-i
decreases-loop-i l = l.tasks - l.i
