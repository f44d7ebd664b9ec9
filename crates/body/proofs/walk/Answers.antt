-- `walk` meets its contract. The loop's invariant: the blocks passed are those that the body decodes to, before what the bytes still to
-- come decode to, and their starts are filled in.
use mathlib.Core.Path.{refl, sym, ◌∙◌}
use native.Mathlib.Omega.{arith}
use lib.ListN.{length-set}
use Rattle.body.proofs.Walks.{passed_start, passed_turn, passed-broken, passed_trailing, not-kept, all-walked, decode-short, decode-none, decode-many, decode_odd}
use Rattle.body.proofs.walk.Goals as goal

pub returns-then-body-lt2-clause-kept : goal.returns-then-body-lt2-clause-kept
returns-then-body-lt2-clause-kept c =
    let s = c.args.body.now in
    sym (not-kept s (decode-short s (omega arith)))

pub returns-then-blocks-lt1-clause-kept : goal.returns-then-blocks-lt1-clause-kept
returns-then-blocks-lt1-clause-kept c =
    let s = c.args.body.now in
    sym (not-kept s (decode-none s (omega arith) (omega arith)))

pub returns-then-blocks-gt-BLOCKS-clause-kept : goal.returns-then-blocks-gt-BLOCKS-clause-kept
returns-then-blocks-gt-BLOCKS-clause-kept c =
    let s = c.args.body.now in
    sym (not-kept s (decode-many s (omega arith) (omega arith) (omega arith)))

pub returns-then-body-ne0-clause-kept : goal.returns-then-body-ne0-clause-kept
returns-then-body-ne0-clause-kept c =
    let s = c.args.body.now in
    sym (not-kept s (decode_odd s (omega arith) (omega arith) (omega arith) (λ e. omega arith)))

pub loop-b-init : goal.loop-b-init
loop-b-init c =
    let s = c.args.body.now in
    (omega arith, refl, passed_start s (omega arith) (omega arith) (omega arith) (omega arith) (omega arith))

pub returns-in_err-at-clause-kept : goal.returns-in_err-at-clause-kept
returns-in_err-at-clause-kept c =
    let at = c.loop-b in
    let s = c.args.body.now in
    rw c.from_residual.ensures (sym (not-kept s (passed-broken at.invariant.2 (omega arith) (sym c.block_end.ensures ∙ c.in_err-at.was))))

pub loop-b-preserved : goal.loop-b-preserved
loop-b-preserved c =
    let at = c.loop-b in
    let end = sym c.block_end.ensures ∙ c.in_ok-at.was in
    (omega arith, simp length-set at.invariant.1, passed_turn at.invariant.2 (omega arith) (omega arith) end (omega arith))

pub returns-then-at-body-clause-kept : goal.returns-then-at-body-clause-kept
returns-then-at-body-clause-kept c =
    let s = c.args.body.now in
    sym (not-kept s (passed_trailing c.loop-b.invariant.2 (omega arith) (omega arith)))

pub invariant_of-result : goal.invariant_of-result
invariant_of-result c = record { walked = all-walked c.loop-b.invariant.2 (omega arith) (omega arith) (omega arith) }

pub returns-clause-kept : goal.returns-clause-kept
returns-clause-kept c = sym (all-walked {all = c.loop-b.b} c.loop-b.invariant.2 (omega arith) refl (omega arith)).0
