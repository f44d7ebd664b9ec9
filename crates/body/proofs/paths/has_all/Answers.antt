-- `paths::has_all` meets its contract: each block passed is in the set. Assumes nothing.
use mathlib.Core.Path.{◌≡◌, sym, ap, ◌∙◌}
use native.Mathlib.Omega.{arith}
use Rattle.body.specs.Jumps.{has_below}
use Rattle.cache.proofs.Members.{in_word, out_word}
use Rattle.body.proofs.BlockSets.{below_more, below-not}
use Rattle.body.proofs.paths.has_all.Goals as goal

pub returns-then-set-b-eq0 : goal.returns-then-set-b-eq0
returns-then-set-b-eq0 c =
    let at = c.loop-b in
    let start = c in
    sym (below-not start.args.set start.args.count at.b (omega arith) (out_word 32 start.args.set at.b (omega arith) c.if-set-b-eq0.true))

pub loop-b-preserved : goal.loop-b-preserved
loop-b-preserved c =
    let at = c.loop-b in
    let start = c in (
      omega arith,
      below_more start.args.set at.b (in_word 32 start.args.set at.b (omega arith) c.if-set-b-eq0.false) at.invariant.1,
    )

pub returns : goal.returns
returns c =
    let at = c.loop-b in
    let end : at.b ≡ c.args.count = omega arith in
    sym (ap (has_below c.args.set) (sym end) ∙ at.invariant.1)
