-- `table` meets its contract: check 1, those of the first bytes, and then what the bodies give. Assumes nothing.
use mathlib.Core.Path.{◌≡◌, refl, sym, ◌∙◌}
use native.Mathlib.Omega.{arith}
use lib.ListN.{length}
use Rattle.project.proofs.Checklists.{refused_by}
use Rattle.reader.proofs.ReadLaws.{head_refused}
use Rattle.table.proofs.Answers.{not_read}
use Rattle.table.proofs.table.Goals as goal
use Rattle.table.proofs.table.Goals.{Else-table-ne64}

-- the lengths are right
lengths : (c : Else-table-ne64) → let args = c.args in (length args.area.now ≡ 24832) × (length args.table.now ≡ 64)
lengths c = (omega arith, omega arith)

pub returns-in_err-head : goal.returns-in_err-head
returns-in_err-head c =
    let args = c.args in
    let long = lengths (goal.at.returns-in_err-head c).Else-table-ne64 in
    let reading = sym (head_refused 1 args.file.now (sym c.head.ensures ∙ c.in_err-head.was)) in
    let out = not_read 16 args.file.now args.area.now args.table.now long.0 long.1 reading (refused_by c.from_residual.ensures) in
    (out.0, out.1, refl)
