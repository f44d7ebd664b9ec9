-- `rows::store_chunk` meets its contract: after i turns the first i numbers are stored. Assumes nothing.
use mathlib.Core.Path.{◌≡◌, refl, ap, ◌∙◌}
use Prim.Native.Nat.{◌+◌}
use native.Mathlib.Omega.{arith}
use borrow.Author.Rules.{rules}
use native.Mathlib.Numerals.{add-one}
use lib.ListN.{length, get_or, set, length-set}
use lib.Seq.{paste-zero, paste-suc}
use Rattle.rows.proofs.Parts.{pasted}
use Rattle.rows.proofs.store_chunk.Goals as goal

pub loop-i-init : goal.loop-i-init
loop-i-init g c = (omega arith, refl, paste-zero c.args.part.now c.args.at c.args.row)

pub loop-i-preserved : goal.loop-i-preserved
loop-i-preserved g c =
    let at = c.loop-i in
    let args = c.args in
    let wide : length args.row ≡ g.row.N = search rules in (
      omega arith,
      simp length-set (omega arith),
      ap (λ l. set l (args.at + at.i) (get_or args.row at.i 0)) at.invariant.2
          ∙ rw add-one (paste-suc args.part.now args.at args.row at.i 0 (omega arith) (omega arith)),
    )

pub returns : goal.returns
returns g c =
    let args = c.args in
    let wide : length args.row ≡ g.row.N = search rules in
    pasted args.part.now args.at args.row c.loop-i.i (omega arith) c.loop-i.invariant.2
