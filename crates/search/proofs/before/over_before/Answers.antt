-- `before::over_before` meets its contract: the empty row where the block is the first, and the rows of its predecessors. Assumes nothing.
use mathlib.Core.List.{List}
use mathlib.Core.Path.{subst}
use Prim.Native.Nat.{ℕ}
use native.Mathlib.Omega.{arith}
use Rattle.cache.specs.Cache.{empty_row}
use Rattle.graphs.proofs.Gathered.{nothings}
use Rattle.block_rows.specs.BlockRows.{cache_of, references_of, rows_by, listed}
use Rattle.search.specs.Search.{Raised, OfDone, first_point, OfPredecessors, OfFirst}
use Rattle.search.proofs.Raising.{raised_both, raised_where, raised_nowhere}
use Rattle.search.proofs.before.over_before.Goals as goal
use Rattle.search.proofs.before.over_before.Goals.{else-block-eq0, then-block-eq0}

pub returns : goal.returns
returns c =
    let args = c.args in
    let block = args.block.now in
    let k = cache_of block in
    let ms = references_of block in
    let ls = listed args.rows.now.live in
    let fs = listed args.rows.now.ends in
    let point = first_point block.number args.done in
    let here = OfDone k ms point (empty_row k) ls fs in
    let room = nothings block.w 32 (omega (arith, args.rows.now.live.are.width.narrow)) in
    let first : Raised (OfFirst k ms block.number args.done ls fs) args.old c.if-block-eq0.found
    = elim c.if-block-eq0.branch [
      | then-block-eq0 w ↦ rw w.found-is
          (raised_where here w.if-block-eq0.true
          (subst (λ (r : List ℕ). Raised (OfDone k ms point r ls fs) args.old w.over_done-found.result) room w.over_done-found.ensures))
      | else-block-eq0 w ↦ rw w.found-is (raised_nowhere here args.old w.if-block-eq0.false)
    ] in
    raised_both (OfFirst k ms block.number args.done ls fs) (OfPredecessors k ms block.number args.done block.before block.blocks (rows_by args.reaching.now) ls fs) first
    c.over_predecessors.ensures
