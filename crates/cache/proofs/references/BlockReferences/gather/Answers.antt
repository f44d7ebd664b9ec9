-- `BlockReferences::gather` meets its contract. The loop's invariant is `RowsSoFar`, of the references read. Assumes nothing.
use mathlib.Core.Path.{ap, ◌∙◌}
use native.Mathlib.Omega.{arith}
use lib.Seq.{take_all}
use borrow.Author.Rules.{rules}
use Rattle.cache.specs.References.{numbers}
use Rattle.cache.specs.Cache.{empty_row, with_references, first_references}
use Rattle.cache.specs.Shape.{shaped}
use Rattle.cache.proofs.NumberLaws.{length-numbers}
use Rattle.cache.proofs.SoFarLaws.{length_so_far, next_so_far}
use Rattle.cache.proofs.references.BlockReferences.gather.Goals as goal

pub loop-i-init : goal.loop-i-init
loop-i-init c = (c.none-none.ensures c.args.shape.blocks, search rules)

pub with_reference-requires : goal.with_reference-requires
with_reference-requires c =
    let start = c in
    let lengths = length_so_far (shaped 32 start.args.shape) c.loop-i.invariant.0 in
    (start.requires.0, lengths.0, lengths.1)

pub loop-i-preserved : goal.loop-i-preserved
loop-i-preserved c =
    let at = c.loop-i in
    let start = c in
    let m = c.new-m.ensures ∙ c.number_at.ensures in
    let k = shaped 32 start.args.shape in
    (next_so_far k start.args.references.now at.i (omega arith) start.requires.1 m c.with_reference.ensures.2 at.invariant.0, omega arith)

pub returns : goal.returns
returns c =
    let at = c.loop-i in
    let args = c.args in
    let k = shaped 32 args.shape in
    let s = args.references.now in
    let all = take_all at.i (numbers s) (rw length-numbers (omega arith)) in
    (at.invariant.0.firsts ∙ ap (first_references k) all, at.invariant.0.lasts ∙ ap (with_references k (empty_row k)) all)
