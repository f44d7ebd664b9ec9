-- `before::over_reaching` meets its contract: after k turns the first k reaching rows have met the live rows. Assumes nothing.
use Rattle.block_rows.specs.BlockRows.{cache_of, references_of, listed}
use Rattle.search.specs.Search.{Raised, Below, AtReaching}
use Rattle.search.proofs.before.over_reaching.Given as goal

abbrev pub invariant-loop-k : goal.invariant-loop-k
invariant-loop-k l =
    Raised (Below (λ x. x.point.reaching) l.k (AtReaching (cache_of l.block) (references_of l.block) l.block.number l.done l.before (listed l.reaching)
    (listed l.rows.live) (listed l.rows.ends)))
    l.initial.found l.found
