-- `replaced::replaced_sets` meets its contract: after k turns the sets of the first k end rows are stored, and their union is found. Assumes nothing.
use mathlib.Core.Path.{◌≡◌}
use Prim.Native.Nat.{◌≤◌}
use lib.ListN.{length, take, drop}
use Rattle.cache.specs.Sets.{bits}
use Rattle.rows.specs.Rows.{rows_of}
use Rattle.row_sets.specs.Sets.{replaced_sets, some_replaces}
use Rattle.row_sets.proofs.replaced.replaced_sets.Given as goal

abbrev pub invariant-loop-k : goal.invariant-loop-k
invariant-loop-k l =
    (l.k ≤ l.count) × (length l.sets ≡ 32) × (take l.k l.sets ≡ replaced_sets l.row (rows_of (length l.row) l.k l.ends)) × (drop l.k l.sets ≡ drop l.k l.initial.sets)
    × (l.all ≡ bits (length l.row) (some_replaces (rows_of (length l.row) l.k l.ends) l.row))
