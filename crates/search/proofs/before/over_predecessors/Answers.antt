-- `before::over_predecessors` meets its contract: after a turns the first a blocks are searched where they are in the set. Assumes nothing.
use Prim.Native.Nat.{◌+◌, ◌<◌}
use native.Mathlib.Omega.{arith}
use Rattle.cache.proofs.Members.{in_word, out_word}
use Rattle.block_rows.specs.BlockRows.{cache_of, references_of, rows_by, listed}
use Rattle.search.specs.Search.{Raised, Below, AtBefore}
use Rattle.search.proofs.Raising.{before_more, before_out}
use Rattle.search.proofs.before.over_predecessors.Goals as goal
use Rattle.search.proofs.before.over_predecessors.Goals.{else-set-a-ne0, then-set-a-ne0}

pub loop-a-preserved : goal.loop-a-preserved
loop-a-preserved c =
    let at = c.loop-a in
    let args = c.args in
    let block = args.block.now in
    let k = cache_of block in
    let ms = references_of block in
    let rs = rows_by args.reaching.now in
    let ls = listed args.rows.now.live in
    let fs = listed args.rows.now.ends in
    let low : at.a < 32 = omega (arith, block.is.inside, c.loop-a-test.true) in
    let next : Raised (Below (λ x. x.point.before) (at.a + 1) (AtBefore k ms block.number args.done block.before rs ls fs)) args.old c.if-set-a-ne0.found
    = elim c.if-set-a-ne0.branch [
      | then-set-a-ne0 w ↦ rw w.found-is
          (before_more k ms block.number args.done block.before rs ls fs at.a at.invariant (in_word 32 block.before at.a low w.if-set-a-ne0.true) w.of_block.ensures.1
          w.over_reaching-found.ensures)
      | else-set-a-ne0 w ↦ rw w.found-is
          (before_out k ms block.number args.done block.before rs ls fs at.a at.invariant (out_word 32 block.before at.a low w.if-set-a-ne0.false))
    ] in
    next
