-- `pairs_by` meets its contract: the loop adds the pair numbers of the tasks j + 1 to i. Assumes nothing.
use mathlib.Core.Path.{◌≡◌}
use Prim.Native.Nat.{ℕ, ◌≤◌, ◌-◌, ◌*◌, ◌+◌}
use Rattle.cache.specs.Sum.{sum}
use Rattle.response.specs.Times.{table_pair}
use Rattle.response.proofs.pairs_by.Given as goal

abbrev pub invariant-loop-k : goal.invariant-loop-k
invariant-loop-k l = (l.k-end ≡ l.i - l.j) × (l.k ≤ l.k-end) × (l.sum ≡ sum l.k (λ (h : ℕ). table_pair l.numbers (l.j + 1 + h) l.j)) × (l.sum ≤ l.k * 65535)

abbrev pub decreases-loop-k : goal.decreases-loop-k
decreases-loop-k l = l.k-end - l.k
