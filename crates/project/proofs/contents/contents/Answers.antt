-- `contents::contents` meets its contract. The loop's invariant: before task j the ends up to the begin of its body are there, and what is left of the contents
-- fits just where the whole does. Assumes nothing.
use mathlib.Core.Path.{sym, ap, ◌∙◌}
use Prim.Native.Nat.{◌+◌}
use native.Mathlib.Omega.{arith}
use Rattle.project.specs.File.{edition, bodies_start}
use Rattle.project.specs.Ends.{ends_from}
use Rattle.project.proofs.ContentsLaws.{length-ends, ends_turn, nine_turn, fit_turn, fit_wrong, offset_by, size-by, answer-none, too_short}
use Rattle.project.proofs.contents.contents.Goals as goal

pub returns-then-file-at : goal.returns-then-file-at
returns-then-file-at c =
    let args = c.args in
    answer-none args.file.now args.t (too_short args.file.now args.t (omega (arith, c.if-file-at.true, c.contents_start-start.ensures.0)))

pub returns-then-number_at-at : goal.returns-then-number_at-at
returns-then-number_at-at c =
    let at = c.loop-j in
    let args = c.args in
    let s = args.file.now in
    let wrong = fit_wrong s args.t at.j at.at (omega arith) (λ e. c.if-number_at-at.true (c.number_at.ensures ∙ offset_by s at.j c.contents_start-start.ensures.0 ∙ e)) in
    answer-none s args.t (sym at.invariant.4 ∙ wrong)

pub loop-j-preserved : goal.loop-j-preserved
loop-j-preserved c =
    let at = c.loop-j in
    let args = c.args in
    let s = args.file.now in
    let from = bodies_start (edition s) args.t in
    let all = ends_from s args.t 0 from in
    let start = c.contents_start-start.ensures.0 in
    let offset = sym (c.number_at.ensures ∙ offset_by s at.j start) ∙ c.if-number_at-at.false in
    let size = ap (λ k. at.at + k) (c.number_at-in-loop-j.ensures ∙ size-by s at.j start) in
    let next = ends_turn s args.t from at.j (omega arith) at.invariant.2 size in (
      omega arith,
      omega arith,
      next,
      nine_turn all (at.j + 1) (rw (length-ends s args.t 0 from) (omega arith)) (omega arith) at.invariant.3 next,
      fit_turn s args.t at.j at.at (omega arith) offset size ∙ at.invariant.4,
    )
