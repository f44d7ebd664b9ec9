-- `states::states` meets its contract: after a check but the first the area is cleared. Assumes nothing.
use mathlib.Core.Path.{sym, ◌∙◌}
use Rattle.states.proofs.Fillings.{wrong-length, left-zeros, left-states}
use Rattle.states.proofs.states.states.Goals as goal

pub returns-then-area-ne-AREA_LENGTH : goal.returns-then-area-ne-AREA_LENGTH
returns-then-area-ne-AREA_LENGTH c = wrong-length 16 c.args.file.now c.args.task c.args.area.now c.into.ensures c.if-area-ne-AREA_LENGTH.true

pub returns-then-is_err : goal.returns-then-is_err
returns-then-is_err c =
    left-zeros 16 c.args.file.now c.args.task c.args.area.now c.if-area-ne-AREA_LENGTH.false c.fill-filled.ensures (sym c.is_err.ensures.value ∙ c.if-is_err.true) (c.fill.ensures.after (λ y h. h))

pub returns-else-is_err : goal.returns-else-is_err
returns-else-is_err c =
    left-states 16 c.args.file.now c.args.task c.args.area.now c.if-area-ne-AREA_LENGTH.false c.fill-filled.ensures (sym c.is_err.ensures.value ∙ c.if-is_err.false)
