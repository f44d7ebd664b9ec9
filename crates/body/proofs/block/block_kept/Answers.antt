-- `block::block_kept` meets its contract: each test that fails decides, and behind all of them the two loops do.
use mathlib.Core.Path.{refl, sym}
use native.Mathlib.Omega.{arith}
use lib.Seq.{length-take-le}
use Rattle.body.proofs.WalksBlock.{test_flags, test_successors, test_references, test_cut, test_parts}
use Rattle.body.proofs.block.block_kept.Goals as goal

pub returns-then-flags-gt-FLAGS : goal.returns-then-flags-gt-FLAGS
returns-then-flags-gt-FLAGS c =
    let args = c.args in
    test_flags args.blocks args.flags args.successors args.references args.rest.now (omega arith)

pub returns-then-successors-gt-SUCCESSORS : goal.returns-then-successors-gt-SUCCESSORS
returns-then-successors-gt-SUCCESSORS c =
    let args = c.args in
    test_successors args.blocks args.flags args.successors args.references args.rest.now (omega arith) (omega arith)

pub returns-then-references-gt-REFERENCES : goal.returns-then-references-gt-REFERENCES
returns-then-references-gt-REFERENCES c =
    let args = c.args in
    test_references args.blocks args.flags args.successors args.references args.rest.now (omega arith) (omega arith) (omega arith)

pub returns-then-rest-end : goal.returns-then-rest-end
returns-then-rest-end c =
    let args = c.args in
    test_cut args.blocks args.flags args.successors args.references args.rest.now (omega arith) (omega arith) (omega arith) (omega arith)

pub slice_bounds-rises_below-end : goal.slice_bounds-rises_below-end
slice_bounds-rises_below-end c =
    let args = c.args in
    sym (length-take-le args.successors args.rest.now (omega arith))

pub returns-then-rises_below : goal.returns-then-rises_below
returns-then-rises_below c =
    let args = c.args in
    let parts = test_parts args.blocks args.flags args.successors args.references args.rest.now (omega arith) (omega arith) (omega arith) (omega arith) in
    rw c.if-rises_below.true at (parts c.rises_below.ensures c.all_real.ensures)

pub returns : goal.returns
returns c =
    let args = c.args in
    let parts = test_parts args.blocks args.flags args.successors args.references args.rest.now (omega arith) (omega arith) (omega arith) (omega arith) in
    rw c.if-rises_below.false at (parts c.rises_below.ensures refl)
