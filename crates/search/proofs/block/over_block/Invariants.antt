-- `block::over_block` meets its contract: before the turn of d the points with fewer references done are searched. Assumes nothing.
use Prim.Native.Nat.{◌+◌, ◌/◌, ◌≤◌}
use lib.ListN.{length}
use Rattle.block_rows.specs.BlockRows.{cache_of, references_of, rows_by, listed}
use Rattle.search.specs.Search.{Raised, Below, AtDone}
use Rattle.search.proofs.block.over_block.Given as goal

abbrev pub invariant-loop-d : goal.invariant-loop-d
invariant-loop-d l =
    (l.initial.d ≤ l.d) × (l.d ≤ length l.block.references.now / 2 + 1)
    × Raised (Below (λ x. x.point.done) l.d (AtDone (cache_of l.block) (references_of l.block) l.block.number l.block.before l.block.blocks (rows_by l.reaching)
    (listed l.rows.live) (listed l.rows.ends)))
    l.initial.found l.found
