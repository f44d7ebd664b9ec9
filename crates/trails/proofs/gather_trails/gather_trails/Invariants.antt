-- `gather_trails::gather_trails` meets its contract: it gathers as `gather` does, and each row that is new is noted after its turn. Assumes nothing.
use lib.ListN.{length}
use Rattle.gather.specs.Memory.{WaitingAt}
use Rattle.gather.specs.Gathered.{graph_of}
use Rattle.gather.proofs.Gathering.{Gathering, rest}
use Rattle.trails.specs.Trails.{Trailed}
use Rattle.trails.proofs.gather_trails.gather_trails.Given as goal

abbrev pub invariant-loop-b : goal.invariant-loop-b
invariant-loop-b l =
    Gathering (graph_of (length l.row) l.blocks l.sets l.leaving l.entering l.first l.row) l.rows l.counts l.done × WaitingAt l.counts l.done l.b
    × Trailed (graph_of (length l.row) l.blocks l.sets l.leaving l.entering l.first l.row) l.rows l.counts l.trails

abbrev pub decreases-loop-b : goal.decreases-loop-b
decreases-loop-b l = rest l.done
