-- `run_of_bodies` meets its contract: the checks after the first are made in their order, and then the run is written. Assumes nothing.
use mathlib.Core.Path.{refl, sym, ap, ◌∙◌}
use native.Mathlib.Omega.{arith}
use Rattle.project.specs.Bodies.{accepted}
use Rattle.project.proofs.Accepted.{accepted-passed, file-holds}
use Rattle.project.proofs.Checklists.{refused_by}
use Rattle.costliest.proofs.Answers.{answer_as, refused_as, asked_passed, not_read, asked_fails, two_left}
use Rattle.costliest.proofs.run_of_bodies.Goals as goal

pub file_shape-requires : goal.file_shape-requires
file_shape-requires c = ap accepted (sym c.read_bodies.ensures ∙ c.in_ok-accepted.was)

pub run_of_two-requires : goal.run_of_two-requires
run_of_two-requires c =
    let start = c in
    let args = start.args in
    let e = sym c.read_bodies.ensures ∙ c.in_ok-accepted.was in
    let is = accepted-passed args.file.now _ e in
    let asked = asked_passed c.byte_count.result args.i args.j args.sheet.now (sym c.check_asked.ensures ∙ c.in_ok-check_asked.was) in (
      ap accepted e,
      c.file_shape.ensures,
      file-holds 16 (omega arith) args.file.now is.0 c.file_shape.ensures,
      record { chunks = refl; narrow = omega arith },
      rw (sym (c.byte_count.ensures.0 ∙ is.2)) asked.0,
      asked.1,
      start.requires.1,
      start.requires.2,
    )

pub returns-in_err-accepted : goal.returns-in_err-accepted
returns-in_err-accepted c =
    let start = c in
    let args = start.args in
    let fails = not_read 16 args.file.now args.i args.j args.first.now args.second.now args.sheet.now start.requires.1 start.requires.2 (sym c.read_bodies.ensures ∙ c.in_err-accepted.was) in
    (refused_as args.file.now args.i args.j args.sheet.now fails (refused_by c.from_residual.ensures), start.requires.1, start.requires.2)

pub returns-in_err-check_asked : goal.returns-in_err-check_asked
returns-in_err-check_asked c =
    let start = c in
    let args = start.args in
    let is = accepted-passed args.file.now _ (sym c.read_bodies.ensures ∙ c.in_ok-accepted.was) in
    let fails = asked_fails 16 args.file.now args.i args.j args.first.now args.second.now args.sheet.now start.requires.1 start.requires.2 is.0 (c.byte_count.ensures.0 ∙ is.2) (sym c.check_asked.ensures ∙ c.in_err-check_asked.was) in
    (refused_as args.file.now args.i args.j args.sheet.now fails (refused_by c.from_residual-in_err-check_asked.ensures), start.requires.1, start.requires.2)

pub returns : goal.returns
returns c =
    let start = c in
    let args = start.args in
    let is = accepted-passed args.file.now _ (sym c.read_bodies.ensures ∙ c.in_ok-accepted.was) in
    let left = two_left 16 args.file.now args.i args.j args.first.now args.second.now args.sheet.now start.requires.1 start.requires.2 is.0 (c.byte_count.ensures.0 ∙ is.2) (sym c.check_asked.ensures ∙ c.in_ok-check_asked.was) in
    let answered = c.run_of_two.ensures in
    (answer_as args.file.now args.i args.j args.sheet.now _ c.run_of_two.result left answered.0, answered.1, answered.2)
