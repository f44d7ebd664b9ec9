-- `predecessors::leading_to` meets its contract: the blocks found so far are those below b. Assumes nothing.
-- The idea: the set is built from bit 0 on, one bit a turn.
use mathlib.Core.Path.{◌≡◌, ap, ◌∙◌}
use mathlib.Core.Bool.{Bool}
use Prim.Native.Nat.{ℕ}
use native.Mathlib.Omega.{arith}
use lib.ListN.{get_or}
use borrow.Author.Rules.{rules}
use Rattle.cache.specs.Sets.{bits, in_set}
use Rattle.cache.proofs.Bits.{bits-set, bits_skip}
use Rattle.cache.proofs.Members.{in_word, out_word}
use Rattle.body.specs.Turned.{leading_to}
use Rattle.body.proofs.predecessors.leading_to.Goals as goal
use Rattle.body.proofs.predecessors.leading_to.Goals.{else-sets-b-ne0, then-sets-b-ne0}

pub loop-b-init : goal.loop-b-init
unfolding bits
loop-b-init c = search rules

pub loop-b-preserved : goal.loop-b-preserved
loop-b-preserved c =
    let at = c.loop-b in
    let start = c in
    let args = start.args in
    let test : ℕ → Bool = λ b. in_set (get_or args.sets.now b 0) args.s in (
      omega arith,
      (elim c.if-sets-b-ne0.branch [ then-sets-b-ne0 w ↦ bits-set 32 at.b test (omega arith) at.invariant.1 (in_word 32 (get_or args.sets.now at.b 0) args.s (omega arith) w.if-sets-b-ne0.true) w.set-is | else-sets-b-ne0 w ↦ bits_skip at.b test at.invariant.1 (out_word 32 (get_or args.sets.now at.b 0) args.s (omega arith) w.if-sets-b-ne0.false) w.set-is ]),
    )

pub returns : goal.returns
returns c =
    let at = c.loop-b in
    let args = c.args in
    let end : at.b ≡ args.blocks = omega arith in
    at.invariant.1 ∙ ap (λ k. leading_to args.sets.now k args.s) end
