-- `block::block_end` meets its contract: the test of the block, on the bytes behind its counts, decides.
use mathlib.Core.Bool.{cond}
use mathlib.Core.Path.{◌≡◌}
use Prim.Native.Nat.{◌+◌, ◌*◌}
use native.Mathlib.Omega.{arith}
use Rattle.body.specs.BlockEnd.{block_end}
use Rattle.std.specs.Prelude.{Some, None}
use Rattle.body.proofs.WalksBlock.{end_short, end_is}
use Rattle.body.proofs.block.block_end.Goals as goal
use Rattle.body.proofs.block.block_end.Goals.{After-block_kept}

pub returns-then-body-from : goal.returns-then-body-from
returns-then-body-from c =
    let args = c.args in
    end_short args.blocks args.at args.body.now c.if-body-from.true

-- what the test of the block tells of its end
told : (c : After-block_kept)
    → let args = c.args in
    let end = args.at + 3 + c.from-successors.result + 2 * c.from-references.result in
    cond c.block_kept.result (Some end) None ≡ block_end args.blocks args.at args.body.now
told c =
    let args = c.args in
    let successors = c.from-successors.ensures in
    let references = c.from-references.ensures in
    end_is args.blocks args.at args.body.now (omega arith) successors references c.block_kept.ensures

pub returns-then-block_kept : goal.returns-then-block_kept
returns-then-block_kept c = rw c.if-block_kept.true at (told (goal.at.returns-then-block_kept c).After-block_kept)

pub returns : goal.returns
returns c = rw c.if-block_kept.false at (told (goal.at.returns c).After-block_kept)
