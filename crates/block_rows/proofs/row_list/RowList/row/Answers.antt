-- `RowList::row` meets its contract: the row was lent as a part from w k to w k + w. Assumes nothing.
use mathlib.Core.Path.{◌≡◌, sym, ap, ◌∙◌}
use Prim.Native.Nat.{ℕ, ◌+◌, ◌*◌, ◌-◌}
use native.Mathlib.Omega.{arith}
use lib.ListN.{take, drop}
use Rattle.rows.proofs.Parts.{rows_at}
use Rattle.block_rows.proofs.row_list.RowList.row.Goals as goal

pub returns : goal.returns
returns c =
    let list = c.args.self.now in
    let w = list.w in
    let at = w * c.args.k in
    let long : at + w - at ≡ w = omega arith in
    let cut = ap (λ (n : ℕ). take n (drop at list.rows.now)) long in
    (cut, cut ∙ sym (rows_at w list.count c.args.k list.rows.now c.requires))
