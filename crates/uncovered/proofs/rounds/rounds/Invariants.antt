-- `rounds::rounds` meets its contract: after k turns each block has the uncovered rows of at most k handings on. Assumes nothing.
use mathlib.Core.Path.{◌≡◌}
use Prim.Native.Nat.{◌≤◌}
use lib.ListN.{length}
use Rattle.rows.specs.Rows.{kind_length}
use Rattle.gather.specs.Gathered.{graph_meant}
use Rattle.uncovered.specs.Taken.{enough}
use Rattle.uncovered.proofs.Rounding.{After}
use Rattle.uncovered.proofs.rounds.rounds.Given as goal

abbrev pub invariant-loop-k : goal.invariant-loop-k
invariant-loop-k l =
    (l.k ≤ enough (length l.graph.row.now)) × (length l.room ≡ kind_length (length l.graph.row.now)) × (length l.next ≡ 24) × After (graph_meant l.graph) l.k l.rows l.counts
