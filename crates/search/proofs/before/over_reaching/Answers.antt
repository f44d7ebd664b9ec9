-- `before::over_reaching` meets its contract: after k turns the first k reaching rows have met the live rows. Assumes nothing.
use mathlib.Core.Path.{◌≡◌}
use native.Mathlib.Omega.{arith}
use lib.ListN.{length}
use Rattle.rows.proofs.Parts.{rows-length}
use Rattle.block_rows.specs.BlockRows.{cache_of, references_of, listed}
use Rattle.search.proofs.Raising.{reaching_more}
use Rattle.search.proofs.before.over_reaching.Goals as goal

pub loop-k-preserved : goal.loop-k-preserved
loop-k-preserved c =
    let at = c.loop-k in
    let args = c.args in
    let block = args.block.now in
    let rows = args.rows.now in
    reaching_more (cache_of block) (references_of block) block.number args.done args.before (listed args.reaching.now) (listed rows.live) (listed rows.ends)
    at.k c.row.ensures.1 at.invariant c.over_done-found.ensures

pub returns : goal.returns
returns c =
    let at = c.loop-k in
    let reaching = c.args.reaching.now in
    let end : at.k ≡ length (listed reaching) = rw (rows-length reaching.w reaching.count reaching.rows.now) (omega arith) in
    rw end at at.invariant
