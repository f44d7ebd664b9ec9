-- `costliest_run` meets its contract: the lengths of the areas and the first bytes are checked, and then the rest. Assumes nothing.
use mathlib.Core.Path.{◌≡◌, refl, sym, ap, ◌∙◌}
use Rattle.std.specs.Prelude.{Err}
use Rattle.project.specs.declared.answers.Refusal.{Refusal}
use lib.ListN.{length}
use Rattle.project.proofs.Checklists.{refused_by}
use Rattle.reader.proofs.ReadLaws.{head_refused}
use Rattle.costliest.proofs.Answers.{refused_as, other-first, other_second, not_read}
use Rattle.costliest.proofs.costliest_run.Goals as goal
use Rattle.costliest.proofs.costliest_run.Goals.{Else-second-ne-AREA_LENGTH, then-first-ne-AREA_LENGTH-via-else-first-ne-AREA_LENGTH+then-second-ne-AREA_LENGTH, then-first-ne-AREA_LENGTH-via-then-first-ne-AREA_LENGTH}

pub returns-then-first-ne-AREA_LENGTH : goal.returns-then-first-ne-AREA_LENGTH
returns-then-first-ne-AREA_LENGTH c =
    let args = c.args in
    elim c.then-first-ne-AREA_LENGTH.branch [
      | then-first-ne-AREA_LENGTH-via-then-first-ne-AREA_LENGTH w ↦
          let fails = other-first 16 args.file.now args.i args.j args.first.now args.second.now args.sheet.now w.if-first-ne-AREA_LENGTH.true in
          (refused_as args.file.now args.i args.j args.sheet.now fails (ap (λ (r : Refusal). Err r) c.into.ensures), refl, refl)
      | then-first-ne-AREA_LENGTH-via-else-first-ne-AREA_LENGTH+then-second-ne-AREA_LENGTH w ↦
          let fails =
          other_second 16 args.file.now args.i args.j args.first.now args.second.now args.sheet.now w.if-first-ne-AREA_LENGTH.false w.if-second-ne-AREA_LENGTH.true in
          (refused_as args.file.now args.i args.j args.sheet.now fails (ap (λ (r : Refusal). Err r) c.into.ensures), refl, refl)
    ]

lengths : (c : Else-second-ne-AREA_LENGTH) → let args = c.args in (length args.first.now ≡ 24832) × (length args.second.now ≡ 24832)
lengths c = (c.if-first-ne-AREA_LENGTH.false, c.if-second-ne-AREA_LENGTH.false)

pub run_of_bodies-requires : goal.run_of_bodies-requires
run_of_bodies-requires c =
    let long = lengths (goal.at.run_of_bodies-requires c).Else-second-ne-AREA_LENGTH in
    (sym c.head.ensures ∙ c.in_ok-head.was, long.0, long.1)

pub returns-in_err-head : goal.returns-in_err-head
returns-in_err-head c =
    let args = c.args in
    let long = lengths (goal.at.returns-in_err-head c).Else-second-ne-AREA_LENGTH in
    let reading = sym (head_refused 1 args.file.now (sym c.head.ensures ∙ c.in_err-head.was)) in
    (refused_as args.file.now args.i args.j args.sheet.now (not_read 16 args.file.now args.i args.j args.first.now args.second.now args.sheet.now long.0 long.1 reading) (refused_by c.from_residual.ensures), refl, refl)

pub shape_of-first : goal.shape_of-first
shape_of-first c = c.run_of_bodies.ensures.1 ∙ sym (lengths (goal.at.shape_of-first c).Else-second-ne-AREA_LENGTH).0

pub shape_of-second : goal.shape_of-second
shape_of-second c = c.run_of_bodies.ensures.2 ∙ sym (lengths (goal.at.shape_of-second c).Else-second-ne-AREA_LENGTH).1

pub returns : goal.returns
returns c =
    let long = lengths (goal.at.returns c).Else-second-ne-AREA_LENGTH in
    let answered = c.run_of_bodies.ensures in
    (answered.0, answered.1 ∙ sym long.0, answered.2 ∙ sym long.1)
