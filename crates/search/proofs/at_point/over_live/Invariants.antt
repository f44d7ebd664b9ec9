-- `at_point::over_live` meets its contract: after l turns the row has met the first l live rows. Assumes nothing.
use Rattle.block_rows.specs.BlockRows.{listed}
use Rattle.search.specs.Search.{Raised, Below, AtLive}
use Rattle.search.proofs.at_point.over_live.Given as goal

abbrev pub invariant-loop-l : goal.invariant-loop-l
invariant-loop-l l = Raised (Below (λ x. x.live) l.l (AtLive l.point l.row (listed l.live) l.sets)) l.initial.found l.found
