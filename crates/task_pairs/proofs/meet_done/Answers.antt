-- `meet_done` meets its contract: after i turns the numbers are right with the points after the first i references, or become so when the next is met.
-- Assumes nothing.
use mathlib.Core.Path.{◌≡◌, refl, sym, ap, ◌∙◌}
use mathlib.Core.Bool.{not, false≢true}
use Prim.Native.Nat.{ℕ, ◌+◌, ◌*◌, ◌-◌, ◌/◌, ◌<◌}
use native.Mathlib.Omega.{arith}
use lib.Dec.{ltb}
use lib.ListN.{length, take, drop}
use Rattle.cache.specs.Shape.{shaped}
use Rattle.cache.proofs.NumberLaws.{length-numbers}
use Rattle.points.specs.Points.{hits_next}
use Rattle.points.proofs.DoneRows.{one-done, all_done_lem}
use Rattle.pairs.specs.Pairs.{live_rows}
use Rattle.block_rows.specs.BlockRows.{cache_of, references_of}
use Rattle.task_pairs.proofs.PassedOver.{SoFar, none_so_far, all_so_far, top_met, right-next, passed-next}
use Rattle.task_pairs.proofs.meet_done.Goals as goal
use Rattle.task_pairs.proofs.meet_done.Goals.{then-rising+then-top, else-rising, else-rising-via-then-rising+else-top, else-rising-via-else-rising}

pub loop-i-init : goal.loop-i-init
loop-i-init c =
    let points = c.args.points.now in
    let block = points.block in (
      c.requires.0,
      c.requires.1,
      refl,
      none_so_far points.ends points.ends.tasks (cache_of block) (references_of block) c.args.row.now (live_rows points.lives)
          c.args.numbers.now (ltb 0 (length block.references.now / 2)) (ap (ltb 0) (length-numbers block.references.now)),
    )

pub loop-i-preserved : goal.loop-i-preserved
loop-i-preserved c =
    let at = c.loop-i in
    let args = c.args in
    let points = args.points.now in
    let block = points.block in
    let ends = points.ends in
    let w = block.w in
    let k = cache_of block in
    let ms = references_of block in
    let ls = live_rows points.lives in
    let low : at.i < length ms = omega (arith, length-numbers block.references.now, c.loop-i-test.true) in
    let row = c.refer_row.new.row in
    let wide = c.refer_row.auto.row ∙ at.invariant.0 in
    let size : w * (at.i + 1) + w - w * (at.i + 1) ≡ w = omega arith in
    let done = one-done k ms args.row.now at.i low at.invariant.2 c.refer_row.ensures in
    let left = ap (λ (n : ℕ). take n (drop (w * (at.i + 1)) points.rests.now)) size ∙ points.are.left.each (at.i + 1) (omega (arith, low)) in
    let top = c.hits_next-top.result in
    let top-is : hits_next k row ms (at.i + 1) ≡ top = ap (λ (n : ℕ). hits_next (shaped n block.shape) row ms (at.i + 1)) (sym wide) ∙ sym c.hits_next-top.ensures in
    let next : (length c.if-rising.numbers ≡ 8) × SoFar ends ends.tasks k ms args.row.now ls (not top) (at.i + 1) args.numbers.now c.if-rising.numbers
    = elim c.if-rising.branch [
      | then-rising+then-top v ↦ rw v.numbers-is (
        v.meet_point.auto.numbers ∙ at.invariant.1,
        right-next ends ends.tasks k ms args.row.now ls c.requires.0 block.real at.i done top top-is
            (top_met ends ends.tasks k ms args.row.now ls at.i v.if-rising.true done left at.invariant.3 v.meet_point.ensures),
      )
      | else-rising v ↦ rw v.numbers-is (
        at.invariant.1,
        passed-next ends ends.tasks k ms args.row.now ls c.requires.0 block.real at.i done args.numbers.now at.numbers at.rising top top-is low
            (λ p q. elim v.else-rising.branch [
              | else-rising-via-then-rising+else-top u ↦ false≢true (sym u.if-top.false ∙ q)
              | else-rising-via-else-rising u ↦ false≢true (sym u.if-rising.false ∙ p)
            ]) at.invariant.3,
      )
    ] in
    (wide, next.0, done, next.1)

pub returns : goal.returns
returns c =
    let at = c.loop-i in
    let points = c.args.points.now in
    let block = points.block in
    let k = cache_of block in
    let ms = references_of block in
    let end : at.i ≡ length block.references.now / 2 = omega arith in (
      all_done_lem k ms c.args.row.now at.i (end ∙ sym (length-numbers block.references.now)) at.invariant.2,
      rw (← end)
          (all_so_far points.ends points.ends.tasks k ms c.args.row.now (live_rows points.lives) at.i
          at.rising (omega (arith, end, length-numbers block.references.now)) at.invariant.3),
    )
