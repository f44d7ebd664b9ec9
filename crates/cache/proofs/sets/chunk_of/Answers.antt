-- `sets::chunk_of` meets its contract: a bit is set where the test answers so. Assumes nothing.
use mathlib.Core.Path.{◌≡◌, sym, ap, ◌∙◌}
use Prim.Native.Nat.{ℕ}
use lib.ListN.{get_or}
use native.Mathlib.Omega.{arith}
use borrow.Author.Rules.{rules}
use Rattle.cache.specs.Sets.{at_places, bits}
use Rattle.cache.proofs.Bits.{bits-joined, bits-kept}
use Rattle.cache.proofs.Cells.{place_test}
use Rattle.cache.proofs.sets.chunk_of.Goals as goal
use Rattle.cache.proofs.sets.chunk_of.Goals.{then-passes, else-passes}

pub loop-c-init : goal.loop-c-init
unfolding bits
loop-c-init g c = (omega arith, λ P t. search rules)

pub loop-c-preserved : goal.loop-c-preserved
loop-c-preserved g c = (
  omega arith,
  λ P t.
      let row = c.args.row.now in
      let other = c.args.other.now in
      let at = c.loop-c in
      let answer = place_test P row other at.c (omega arith) (omega arith) (t (get_or row at.c 0) (get_or other at.c 0) _ (search rules) (search rules) c.passes.ensures) in
      elim c.if-passes.branch [
        | then-passes w ↦ bits-joined 32 at.c (at_places P row other) (omega arith) (at.invariant.1 P t) (sym answer ∙ w.if-passes.true) w.set-is
        | else-passes w ↦ bits-kept at.c (at_places P row other) (at.invariant.1 P t) (sym answer ∙ w.if-passes.false) w.set-is
      ],
)

pub returns : goal.returns
returns g c = λ P t.
    let end : c.loop-c.c ≡ 16 = omega arith in
    c.loop-c.invariant.1 P t ∙ ap (λ (k : ℕ). bits k (at_places P c.args.row.now c.args.other.now)) end
