-- A turn makes the next reference in both runs; at the end none is left.
use Rattle.std.proofs.Common.{◌≡◌, sym, ◌∙◌, arith, ◌+◌, ◌-◌, ◌/◌, [], ◌∷◌, length}
use Rattle.cache.specs.Shape.{shaped}
use Rattle.runs.specs.Running.{held, both, with_both}
use Rattle.runs.proofs.BothLaws.{counts_after, lost-by, with_both-is, both_turn, both_end}
use Rattle.runs.proofs.both_runs.refer_both.Goals as goal

pub loop-i-preserved : goal.loop-i-preserved
loop-i-preserved c =
    let k = shaped 32 c.args.shape in
    let n = length c.args.references.now / 2 in
    let m = c.reference_at-m.result.0 in
    let now = both (held c.loop-i.undisturbed) (held c.loop-i.disturbed) c.loop-i.so_far in
    let next = both (held c.refer-before.new.cache) (held c.refer-after.new.cache) c.with_lost-so_far.result in
    let e : next ≡ with_both k now m =
    with_both-is k now m c.refer-before.ensures.0 c.refer-after.ensures.0
    (c.with_lost-so_far.ensures ∙ lost-by c.loop-i.so_far (sym c.refer-before.ensures.1) (sym c.refer-after.ensures.1)) in (
      counts_after k (m ∷ []) now next (n - c.loop-i.i) (n - (c.loop-i.i + 1)) e (omega (arith, c.loop-i-test.true)) c.loop-i.invariant.0,
      both_turn k c.args.references.now c.loop-i.i now c.loop-i-test.true c.reference_at-m.ensures e ∙ c.loop-i.invariant.1,
    )

pub returns : goal.returns
returns c =
    let now = both (held c.loop-i.undisturbed) (held c.loop-i.disturbed) c.loop-i.so_far in
    both_end (shaped 32 c.args.shape) c.args.references.now c.loop-i.i now c.loop-i-test.false ∙ c.loop-i.invariant.1
