-- `before::over_predecessors` meets its contract: after a turns the first a blocks are searched where they are in the set. Assumes nothing.
use Rattle.block_rows.specs.BlockRows.{cache_of, references_of, rows_by, listed}
use Rattle.search.specs.Search.{Raised, Below, AtBefore}
use Rattle.search.proofs.before.over_predecessors.Given as goal

abbrev pub invariant-loop-a : goal.invariant-loop-a
invariant-loop-a l =
    Raised (Below (λ x. x.point.before) l.a (AtBefore (cache_of l.block) (references_of l.block) l.block.number l.done l.set (rows_by l.reaching)
    (listed l.rows.live) (listed l.rows.ends)))
    l.initial.found l.found
