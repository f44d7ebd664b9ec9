-- `round::offer_rank` meets its contract: the first row is offered, and after b turns the rows of the first b blocks are handed on. Assumes nothing.
use mathlib.Core.List.{List}
use Prim.Native.Nat.{ℕ, ◌≤◌}
use lib.ListN.{length}
use Rattle.model.specs.Computed.{State}
use Rattle.gather.specs.Memory.{held_rows}
use Rattle.gather.specs.Gathered.{graph_meant}
use Rattle.gather.specs.declared.gather.BlockGraph.{BlockGraph}
use Rattle.uncovered.specs.Offers.{up_to, handed_from, of_rank}
use Rattle.uncovered.specs.Taken.{Took}
use Rattle.uncovered.proofs.round.offer_rank.Given as goal

-- what the rows of the block i become
abbrev pub becomes : ℕ → BlockGraph → List ℕ → List ℕ → ℕ → List State
becomes rank graph old held i = of_rank rank (handed_from (graph_meant graph) (held_rows (length graph.row.now) old held) i)

abbrev pub invariant-loop-b : goal.invariant-loop-b
invariant-loop-b l =
    (l.b ≤ l.graph.blocks) × Took (length l.graph.row.now) (up_to (becomes l.rank l.graph l.old l.held) l.b) l.initial.rows l.initial.counts l.rows l.counts
