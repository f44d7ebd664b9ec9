-- `table_of_bodies` meets its contract: the checks of the bodies, and then the table of an accepted file. Assumes nothing.
use mathlib.Core.Path.{refl, sym, ap, ◌∙◌}
use Prim.Native.Nat.{ℕ}
use native.Mathlib.Omega.{arith}
use lib.ListN.{length-replicate}
use Rattle.project.specs.Bodies.{accepted}
use Rattle.project.proofs.Accepted.{accepted-passed, file-holds}
use Rattle.project.proofs.Checklists.{refused_by}
use Rattle.table.proofs.Answers.{not_read, as_filled}
use Rattle.table.proofs.table_of_bodies.Goals as goal

pub fill_table-requires : goal.fill_table-requires
fill_table-requires c =
    let start = c in
    let e = sym c.read_bodies.ensures ∙ c.in_ok-accepted.was in
    let (q, en, et) = accepted-passed start.args.file.now _ e in (
      ap accepted e,
      c.file_shape.ensures,
      file-holds 16 (omega arith) start.args.file.now q c.file_shape.ensures,
      record { chunks = refl; narrow = omega arith },
      c.byte_count.ensures.0 ∙ et,
      start.requires.1,
      length-replicate {A = ℕ} 4224 0,
      start.requires.2,
    )

pub returns-in_err-accepted : goal.returns-in_err-accepted
returns-in_err-accepted c =
    let start = c in
    let args = start.args in
    let out = not_read 16 args.file.now args.area.now args.table.now start.requires.1 start.requires.2 (sym c.read_bodies.ensures ∙ c.in_err-accepted.was) (refused_by c.from_residual.ensures) in
    (out.0, out.1, start.requires.1)

pub returns : goal.returns
returns c =
    let start = c in
    let args = start.args in
    let filled = c.fill_table.ensures in
    let (q, en, et) = accepted-passed args.file.now _ (sym c.read_bodies.ensures ∙ c.in_ok-accepted.was) in
    let out = as_filled 16 args.file.now args.area.now args.table.now start.requires.1 start.requires.2 q c.file_shape.ensures filled.0 filled.1 in
    (out.0, out.1, filled.2)
