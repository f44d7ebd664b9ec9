-- `higher_than` meets its contract. Assumes nothing.
use mathlib.Core.Path.{◌≡◌}
use Prim.Native.Nat.{ℕ, ◌≤◌, ◌<◌, ◌-◌, ◌*◌, ◌+◌}
use lib.ListN.{get_or, length}
use Rattle.response.specs.Response.{g}
use Rattle.response.specs.Times.{table_pair}
use Rattle.response.proofs.higher_than.Given as goal

abbrev pub invariant-loop-j : goal.invariant-loop-j
invariant-loop-j l =
    (l.j ≤ l.i) × (length l.costs ≡ 8) × ((h : ℕ) → h < l.j → (get_or l.costs h 0 ≡ get_or l.times.c h 0 + l.penalty * g (table_pair l.numbers) l.i h) × (get_or l.costs h 0 ≤ 1000000000))

abbrev pub decreases-loop-j : goal.decreases-loop-j
decreases-loop-j l = l.i - l.j
