-- `ends::ends_of` meets its contract. The loop's invariant: the sum and the lengths left are the sum of all, and the ends up to the begin of body j are there.
-- Assumes nothing.
use mathlib.Core.Path.{refl, sym, ap, ◌∙◌}
use Prim.Native.Nat.{◌+◌}
use native.Mathlib.Omega.{arith}
use lib.ListN.{length}
use lib.Seq.{take_all}
use borrow.Author.Tests.{eq-eqb}
use Rattle.project.specs.Ends.{nine}
use Rattle.project.specs.Writing.{total}
use Rattle.project.proofs.ContentsLaws.{nine_turn}
use Rattle.writer.specs.Pieces.{sums}
use Rattle.writer.proofs.PutLaws.{total-step, total-end}
use Rattle.writer.proofs.EndsLaws.{length-sums, sums_first, sums_start, sums_turn, answer_fit}
use Rattle.writer.proofs.ends.ends_of.Goals as goal

pub loop-j-init : goal.loop-j-init
loop-j-init c =
    let ls = c.args.lengths.now in
    (omega arith, omega arith, omega arith, sym (sums_first 0 ls), sums_start ls)

pub loop-j-preserved : goal.loop-j-preserved
loop-j-preserved c =
    let at = c.loop-j in
    let args = c.args in
    let ls = args.lengths.now in
    let next = sums_turn ls at.j (omega arith) at.invariant.3 refl in (
      omega arith,
      omega arith,
      omega (arith, total-step ls at.j (omega arith)),
      next,
      nine_turn (sums 0 ls) (at.j + 1) (rw (length-sums 0 ls) (omega arith)) (omega arith) at.invariant.4 next,
    )

pub returns : goal.returns
returns c =
    let at = c.loop-j in
    let args = c.args in
    let ls = args.lengths.now in
    let all = sums 0 ls in
    answer_fit args.bodies.now ls (eq-eqb (total ls) (length args.bodies.now) (omega (arith, total-end ls at.j (omega arith), c.if-sum-bodies.false)))
    (at.invariant.4 ∙ ap nine (take_all (at.j + 1) all (rw (length-sums 0 ls) (omega arith))))
