-- `rows::holds` meets its contract: the row is among the rows that are left just where it is among all. Assumes nothing.
use mathlib.Core.Path.{◌≡◌}
use Prim.Native.Nat.{◌-◌, ◌*◌, ◌≤◌}
use lib.ListN.{drop}
use Rattle.model.specs.Lists.{mem}
use Rattle.model.specs.Computed.{same_list}
use Rattle.rows.specs.Rows.{rows_of}
use Rattle.rows.proofs.holds.Given as goal

abbrev pub invariant-loop-k : goal.invariant-loop-k
invariant-loop-k g l = (l.k ≤ l.count) × (mem same_list l.row (rows_of g.row.N (l.count - l.k) (drop (g.row.N * l.k) l.part)) ≡ mem same_list l.row (rows_of g.row.N l.count l.part))
