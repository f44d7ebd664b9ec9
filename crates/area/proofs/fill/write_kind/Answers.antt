-- `fill::write_kind` meets its contract: after b turns the first b counts are written. Assumes nothing.
use mathlib.Core.Path.{◌≡◌, refl, ◌∙◌}
use Prim.Native.Nat.{◌+◌}
use native.Mathlib.Omega.{arith}
use lib.ListN.{length-set}
use lib.Seq.{take_all}
use Rattle.rows.proofs.Parts.{copy_turn, copy_end}
use Rattle.area.proofs.fill.write_kind.Goals as goal

pub loop-b-init : goal.loop-b-init
loop-b-init c = (omega arith, c.requires.0, refl)

pub bounds-counts-b : goal.bounds-counts-b
bounds-counts-b c = omega (arith, c.requires.1.many)

pub overflow_cast-part : goal.overflow_cast-part
overflow_cast-part c = omega (arith, c.requires.1.few c.loop-b.b (omega arith))

pub loop-b-preserved : goal.loop-b-preserved
loop-b-preserved c =
    let at = c.loop-b in
    let counts = c.args.counts.now in
    let from : 0 + at.b ≡ at.b = omega arith in
    (omega arith, simp length-set (omega arith), rw from at (copy_turn at.part counts 0 at.b (omega arith) (omega (arith, c.requires.1.many)) at.invariant.2))

pub returns : goal.returns
returns c =
    let at = c.loop-b in
    let args = c.args in
    copy_end 24 at.part args.counts.now at.b (omega arith) (omega arith) at.invariant.2 ∙ take_all 24 args.counts.now (omega (arith, c.requires.1.many))
