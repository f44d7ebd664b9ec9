-- `rows::chunk_at` meets its contract: after i turns the first i numbers are copied. Assumes nothing.
use mathlib.Core.Path.{refl}
use native.Mathlib.Omega.{arith}
use lib.ListN.{drop, length-set, length-replicate}
use Rattle.rows.proofs.Parts.{copy_turn, copy_end}
use Rattle.rows.proofs.chunk_at.Goals as goal

pub loop-i-init : goal.loop-i-init
loop-i-init g c = (omega arith, length-replicate g.row.N 0, refl)

pub loop-i-preserved : goal.loop-i-preserved
loop-i-preserved g c =
    let at = c.loop-i in
    let args = c.args in (
      omega arith,
      simp length-set (omega arith),
      copy_turn at.row args.part.now args.at at.i (omega arith) (omega arith) at.invariant.2,
    )

pub returns : goal.returns
returns g c =
    let at = c.loop-i in
    let args = c.args in
    copy_end g.row.N at.row (drop args.at args.part.now) at.i (omega arith) (omega arith) at.invariant.2
