-- `masks::unmasked_blocks` meets its contract: the unmasked blocks found so far are those below b. Assumes nothing.
-- The idea: the set is built from bit 0 on, one bit a turn, by the flags byte with which the block begins.
use mathlib.Core.Path.{◌≡◌, sym, ap, subst, ◌∙◌}
use Prim.Native.Nat.{◌<◌}
use native.Mathlib.Omega.{arith}
use lib.ListN.{length}
use borrow.Author.Rules.{rules}
use borrow.Author.Tests.{eq-eqb, ne_eqb}
use Rattle.cache.specs.Sets.{bits}
use Rattle.cache.proofs.Bits.{bits-set, bits_skip}
use Rattle.model.specs.Tasks.{block}
use Rattle.model.specs.Computed.{unmasked}
use Rattle.body.proofs.JumpLaws.{WalkedTask, kept_task}
use Rattle.body.proofs.masks.unmasked_blocks.Goals as goal
use Rattle.body.proofs.masks.unmasked_blocks.Goals.{After-kept_walk-walked, else-body-walked-eq0, then-body-walked-eq0}

-- the task of the body
facts : (c : After-kept_walk-walked) → let w = c.kept_walk-walked.result in WalkedTask c.args.body.now w.blocks w.starts
facts c = kept_task c.kept_walk-walked.result c.kept_walk-walked.ensures

pub loop-b-init : goal.loop-b-init
unfolding bits
loop-b-init c = search rules

pub offset_bounds-walked-b : goal.offset_bounds-walked-b
offset_bounds-walked-b c = let f = facts (goal.at.offset_bounds-walked-b c).After-kept_walk-walked in omega (arith, f.long, f.bounds.few)

pub bounds-walked-b : goal.bounds-walked-b
bounds-walked-b c = let f = facts (goal.at.bounds-walked-b c).After-kept_walk-walked in omega (arith, f.long, f.bounds.few)

pub bounds-body-walked : goal.bounds-body-walked
bounds-body-walked c =
    let f = facts (goal.at.bounds-body-walked c).After-kept_walk-walked in
    omega (arith, (f.parts c.loop-b.b (omega (arith, f.long))).successors-within)

pub overflow_cast-set : goal.overflow_cast-set
overflow_cast-set c = let f = facts (goal.at.overflow_cast-set c).After-kept_walk-walked in omega (arith, f.long, f.bounds.few)

pub overflow_shl-set : goal.overflow_shl-set
overflow_shl-set c = let f = facts (goal.at.overflow_shl-set c).After-kept_walk-walked in omega (arith, f.long, f.bounds.few)

pub loop-b-preserved : goal.loop-b-preserved
loop-b-preserved c =
    let at = c.loop-b in
    let f = facts (goal.at.loop-b-preserved c).After-kept_walk-walked in
    let b = at.b in
    let l : b < length f.its = omega (arith, f.long) in
    let flags = (f.parts b l).flags in
    let set : at.set ≡ bits b (unmasked f.its) = rw f.same at at.invariant.1 in (
      omega arith,
      rw f.same
          ((elim c.if-body-walked-eq0.branch [ then-body-walked-eq0 w ↦ bits-set 32 b (unmasked f.its) (omega (arith, f.bounds.few)) set (eq-eqb (block f.its b).flags 0 (sym flags ∙ w.if-body-walked-eq0.true)) w.set-is | else-body-walked-eq0 w ↦ bits_skip b (unmasked f.its) set (ne_eqb (block f.its b).flags 0 (λ e. w.if-body-walked-eq0.false (flags ∙ e))) w.set-is ])),
    )

pub returns : goal.returns
returns c =
    let at = c.loop-b in
    let f = facts (goal.at.returns c).After-kept_walk-walked in
    let end : at.b ≡ length f.its = omega (arith, f.long) in
    rw f.same (rw f.same at at.invariant.1 ∙ ap (λ k. bits k (unmasked f.its)) end)
