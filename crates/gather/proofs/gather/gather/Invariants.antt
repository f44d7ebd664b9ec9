-- `gather::gather` meets its contract: while rows are gathered all in memory are rows that blocks get, and at the end they are all. Assumes nothing.
use Rattle.gather.specs.Memory.{WaitingAt}
use Rattle.gather.specs.Gathered.{graph_meant}
use Rattle.gather.proofs.Gathering.{Gathering, rest}
use Rattle.gather.proofs.gather.gather.Given as goal

abbrev pub invariant-loop-b : goal.invariant-loop-b
invariant-loop-b l =
    Gathering (graph_meant l.graph) l.rows l.counts l.done × WaitingAt l.counts l.done l.b

abbrev pub decreases-loop-b : goal.decreases-loop-b
decreases-loop-b l = rest l.done
