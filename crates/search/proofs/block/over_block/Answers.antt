-- `block::over_block` meets its contract: before the turn of d the points with fewer references done are searched. Assumes nothing.
use mathlib.Core.Path.{◌≡◌}
use Prim.Native.Nat.{◌+◌, ◌/◌}
use native.Mathlib.Omega.{arith}
use lib.ListN.{length}
use Rattle.cache.proofs.NumberLaws.{length-numbers}
use Rattle.block_rows.specs.BlockRows.{cache_of, references_of, rows_by, listed}
use Rattle.search.proofs.BlockLaws.{fewest_few, fewest_of}
use Rattle.search.proofs.Raising.{done_first, done_more}
use Rattle.search.proofs.block.over_block.Goals as goal

pub loop-d-init : goal.loop-d-init
loop-d-init c =
    let args = c.args in
    let block = args.block.now in
    let first = fewest_of block.references.now c.fewest_done-d.ensures in (
      omega arith,
      omega (arith, c.fewest_done-d.ensures, fewest_few (length block.references.now / 2)),
      done_first (cache_of block) (references_of block) block.number block.before block.blocks (rows_by args.reaching.now) (listed args.rows.now.live)
          (listed args.rows.now.ends) c.fewest_done-d.result args.old first,
    )

pub loop-d-preserved : goal.loop-d-preserved
loop-d-preserved c =
    let at = c.loop-d in
    let args = c.args in
    let block = args.block.now in
    let first = fewest_of block.references.now c.fewest_done-d.ensures in (
      omega (arith, at.invariant.0),
      omega (arith, c.loop-d-test.true),
      done_more (cache_of block) (references_of block) block.number block.before block.blocks (rows_by args.reaching.now) (listed args.rows.now.live)
          (listed args.rows.now.ends) at.d (omega (arith, first, at.invariant.0)) at.invariant.2 c.over_point-found.ensures,
    )

pub returns : goal.returns
returns c =
    let at = c.loop-d in
    let block = c.args.block.now in
    let end : at.d ≡ length (references_of block) + 1 = omega (arith, length-numbers block.references.now, at.invariant.0, at.invariant.1) in
    rw end at at.invariant.2
