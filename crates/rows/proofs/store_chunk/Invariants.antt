-- `rows::store_chunk` meets its contract: after i turns the first i numbers are stored. Assumes nothing.
use mathlib.Core.Path.{◌≡◌}
use Prim.Native.Nat.{◌≤◌}
use lib.ListN.{length}
use lib.Seq.{paste}
use Rattle.rows.proofs.store_chunk.Given as goal

abbrev pub invariant-loop-i : goal.invariant-loop-i
invariant-loop-i g l = (l.i ≤ g.row.N) × (length l.part ≡ length l.initial.part) × (l.part ≡ paste l.initial.part l.at l.row l.i)
