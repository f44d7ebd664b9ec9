-- `states::fill` meets its contract: each way out is that of the first check that fails, or of none. Assumes nothing.
use mathlib.Core.Path.{refl, sym, ap, ◌∙◌}
use native.Mathlib.Omega.{arith}
use Rattle.project.specs.Bodies.{accepted}
use Rattle.project.proofs.Accepted.{accepted-passed, file-holds}
use Rattle.project.proofs.Checklists.{refused_by}
use Rattle.states.proofs.Fillings.{unread}
use Rattle.states.proofs.states.fill.Goals as goal

pub returns-in_err-accepted : goal.returns-in_err-accepted
returns-in_err-accepted c = unread 16 c.args.file.now c.args.task c.requires (sym c.read.ensures ∙ c.in_err-accepted.was) (refused_by c.from_residual.ensures)

pub fill_task-requires : goal.fill_task-requires
fill_task-requires c =
    let e = sym c.read.ensures ∙ c.in_ok-accepted.was in
    let is = accepted-passed c.args.file.now _ e in
    let shape = c.file_shape.ensures in
    (ap accepted e, shape, file-holds 16 (omega arith) c.args.file.now is.0 shape, record { chunks = refl; narrow = omega arith }, omega (arith, is.2), c.requires)
