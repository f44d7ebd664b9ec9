-- `before::refer_first` meets its contract: after i turns the first i references are done. Assumes nothing.
use mathlib.Core.Path.{◌∙◌}
use native.Mathlib.Omega.{arith}
use Rattle.cache.specs.References.{numbers}
use Rattle.cache.proofs.NumberLaws.{length-numbers}
use Rattle.search.proofs.DoneRows.{refer_turn}
use Rattle.search.proofs.before.refer_first.Goals as goal

pub loop-i-preserved : goal.loop-i-preserved
loop-i-preserved c =
    let at = c.loop-i in
    let args = c.args in
    let all = length-numbers args.references.now in (
      c.refer_row.auto.row ∙ at.invariant.0,
      refer_turn args.shape (numbers args.references.now) args.row.now at.i (omega (arith, all, c.requires.0, c.loop-i-test.true)) at.invariant.0 at.invariant.1
          c.refer_row.ensures,
    )
