-- `rows::chunk_at` meets its contract: after i turns the first i numbers are copied. Assumes nothing.
use mathlib.Core.Path.{◌≡◌}
use Prim.Native.Nat.{◌≤◌}
use lib.ListN.{length, take, drop}
use Rattle.rows.proofs.chunk_at.Given as goal

abbrev pub invariant-loop-i : goal.invariant-loop-i
invariant-loop-i g l = (l.i ≤ g.row.N) × (length l.row ≡ g.row.N) × (take l.i l.row ≡ take l.i (drop l.at l.part))
