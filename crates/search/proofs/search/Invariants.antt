-- `search` meets its contract: after b turns the first b blocks are searched where they are unmasked. Assumes nothing.
use Rattle.cache.specs.Shape.{shaped}
use Rattle.body.specs.Decode.{decode, task_of}
use Rattle.block_rows.specs.BlockRows.{rows_by, listed}
use Rattle.search.specs.Search.{Raised, Below, AtBlock, none_found}
use Rattle.search.proofs.search.Given as goal

abbrev pub invariant-loop-b : goal.invariant-loop-b
invariant-loop-b l =
    Raised (Below (λ x. x.point.block) l.b (AtBlock (shaped l.ends.w l.shape) (task_of (decode l.body)) (rows_by l.reaching) (rows_by l.live) (listed l.ends)))
    none_found l.found
