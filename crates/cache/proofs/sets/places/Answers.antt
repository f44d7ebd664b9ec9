-- `sets::places` meets its contract. A row of one chunk needs no loop. Assumes nothing.
use mathlib.Core.Path.{◌≡◌, refl, ap, ◌∙◌}
use Prim.Native.Nat.{ℕ, ◌+◌, ◌*◌}
use native.Mathlib.Omega.{arith}
use borrow.Author.Rules.{rules}
use lib.ListN.{length}
use Rattle.cache.specs.Sets.{bits, at_places}
use Rattle.cache.proofs.Masks.{bits_chunk}
use Rattle.cache.proofs.Cells.{places_chunk}
use Rattle.cache.proofs.sets.places.Goals as goal

pub loop-h-init : goal.loop-h-init
unfolding bits
loop-h-init g c = (omega arith, λ P t. search rules)

pub loop-h-preserved : goal.loop-h-preserved
loop-h-preserved g c = (
  omega arith,
  λ P t.
      let at = c.loop-h in
      let row = c.args.row.now in
      let other = c.args.other.now in
      let next : 16 * at.h + 16 ≡ 16 * (at.h + 1) = omega arith in
      bits_chunk 32 (16 * at.h) 16 (at_places P row other) _ (omega arith) (λ i b. places_chunk P (16 * at.h) 16 i row other b) (at.invariant.1 P t)
      (c.chunk_of-in-loop-h.ensures P t) refl ∙ ap (λ (k : ℕ). bits k (at_places P row other)) next,
)

pub returns : goal.returns
returns g c = λ P t.
    let at = c.loop-h in
    let end : 16 * at.h ≡ length c.args.row.now = omega arith in
    at.invariant.1 P t ∙ ap (λ (k : ℕ). bits k (at_places P c.args.row.now c.args.other.now)) end
