-- `states::fill_body` meets its contract: rows that fit are sorted in their place. Assumes nothing.
use mathlib.Core.Path.{◌∙◌}
use Rattle.states.proofs.Bodies.{body_distinct, body-filled}
use Rattle.states.proofs.states.fill_body.Goals as goal

pub sort_area-requires : goal.sort_area-requires
sort_area-requires c =
    let rows = c in
    body_distinct rows.task_rows.ensures rows.requires.2 c.if-task_rows.false

pub returns : goal.returns
returns c =
    let rows = c in
    let sorted = c.sort_area in
    body-filled rows.task_rows.ensures rows.requires.2 c.if-task_rows.false (sorted.auto.area ∙ rows.task_rows.ensures.long) sorted.ensures
