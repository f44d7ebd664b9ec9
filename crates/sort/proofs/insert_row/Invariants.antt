-- `sort::insert_row` meets its contract: a turn moves the next row one place to the front, or finds the place of the row.
-- Assumes nothing.
use mathlib.Core.Path.{◌≡◌}
use Prim.Native.Nat.{◌+◌, ◌-◌, ◌*◌, ◌≤◌}
use lib.ListN.{length, drop}
use Rattle.model.specs.Computed.{insert_row}
use Rattle.rows.specs.Rows.{rows_of, flat}
use Rattle.sort.proofs.Insertion.{after, placed}
use Rattle.sort.proofs.insert_row.Given as goal

abbrev pub invariant-loop-k : goal.invariant-loop-k
invariant-loop-k l =
    (l.k ≤ l.others) × (length l.rows ≡ length l.row * (l.others + 1)) × (length (insert_row l.row (after (length l.row) (l.others + 1) l.k l.rows)) ≡ l.others + 1 - l.k)
    × (placed (l.others + 1) l.k l.row l.rows ≡ flat (insert_row l.row (rows_of (length l.row) l.others (drop (length l.row) l.initial.rows))))
