-- `sort::sort_rows` meets its contract: after each turn one row more is sorted among those after it. Assumes nothing.
use mathlib.Core.Path.{◌≡◌}
use Prim.Native.Nat.{◌-◌, ◌*◌, ◌≤◌}
use lib.ListN.{length}
use Rattle.sort.proofs.Sorted.{sorted_part}
use Rattle.sort.proofs.sort_rows.Given as goal

abbrev pub invariant-loop-others : goal.invariant-loop-others
invariant-loop-others l = (l.others ≤ l.count) × (length l.part ≡ 32 * l.w) × (l.part ≡ sorted_part l.w l.count (l.count - l.others) l.initial.part)
