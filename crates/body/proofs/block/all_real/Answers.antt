-- `block::all_real` meets its contract. The loop's invariant: the test of the references from here on gives what the whole gives.
use mathlib.Core.Path.{◌≡◌, ◌∙◌}
use Prim.Native.Nat.{◌+◌, ◌*◌}
use native.Mathlib.Omega.{arith}
use borrow.Author.Rules.{rules}
use Rattle.body.proofs.WalksBlock.{real_turn, real_fails, real-end}
use Rattle.body.proofs.block.all_real.Goals as goal

pub returns-then-number_at : goal.returns-then-number_at
returns-then-number_at c =
    let at = c.loop-i in
    real_fails c.args.references.now (2 * at.i) (omega arith) c.number_at.ensures (omega arith) ∙ at.invariant

pub loop-i-preserved : goal.loop-i-preserved
loop-i-preserved c =
    let at = c.loop-i in
    let next : 2 * (at.i + 1) ≡ 2 * at.i + 2 = omega arith in
    let turn = real_turn c.args.references.now (2 * at.i) (omega arith) c.number_at.ensures (search rules) (λ e. omega arith) in
    rw next (turn ∙ at.invariant)

pub returns : goal.returns
returns c = real-end c.args.references.now (2 * c.loop-i.i) (omega arith) ∙ c.loop-i.invariant
