-- `round::round` meets its contract: after n turns all rows are offered that hold more than the places of a row less n memory blocks. Assumes nothing.
use mathlib.Core.List.{List}
use Prim.Native.Nat.{ℕ, ◌+◌, ◌-◌, ◌≤◌}
use lib.ListN.{length}
use Rattle.model.specs.Computed.{State}
use Rattle.gather.specs.Memory.{held_rows}
use Rattle.gather.specs.Gathered.{graph_meant}
use Rattle.gather.specs.declared.gather.BlockGraph.{BlockGraph}
use Rattle.uncovered.specs.Offers.{up_to, offers_of, of_rank}
use Rattle.uncovered.specs.Taken.{Took}
use Rattle.uncovered.proofs.round.round.Given as goal

-- what is offered in the turn numbered i
abbrev pub ranked : BlockGraph → List ℕ → List ℕ → ℕ → List State
ranked graph old held i = of_rank (length graph.row.now - i) (offers_of (graph_meant graph) (held_rows (length graph.row.now) old held))

abbrev pub invariant-loop-n : goal.invariant-loop-n
invariant-loop-n l =
    (l.n ≤ length l.graph.row.now + 1) × Took (length l.graph.row.now) (up_to (ranked l.graph l.old l.held) l.n) l.initial.rows l.initial.counts l.rows l.counts
