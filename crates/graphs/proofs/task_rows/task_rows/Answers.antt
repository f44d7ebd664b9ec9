-- `task_rows::task_rows` meets its contract: all rows that are gathered along the two graphs of the body's task are its states. Assumes nothing.
use mathlib.Core.Path.{refl}
use Rattle.cache.specs.Shape.{shaped}
use Rattle.body.specs.Decode.{decode, task_of}
use Rattle.graphs.proofs.Gathered.{kept-bounds, area_told}
use Rattle.graphs.proofs.task_rows.task_rows.Goals as goal

pub returns : goal.returns
returns c =
    let args = c.args in
    rw c.is_err.ensures.value
    (area_told (shaped args.w args.shape) (task_of (decode args.body.now)) (kept-bounds args.body.now c.requires.0) refl refl c.task_kinds.ensures)
