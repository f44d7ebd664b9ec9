-- `place` meets its contract: the contents of an accepted file say where each body stands. Assumes nothing.
use mathlib.Core.Path.{sym, ◌∙◌}
use native.Mathlib.Omega.{arith}
use Rattle.reader.proofs.ReadLaws.{place-there, place-above}
use Rattle.reader.proofs.place.Goals as goal

pub returns-in-Ok : goal.returns-in-Ok
returns-in-Ok c =
    place-there 1 c.args.file.now c.args.task (sym c.read.ensures ∙ c.in-Ok.is)
    (omega (arith, c.if-task-byte_count.true, c.byte_count.ensures)) c.entry.ensures.0 c.entry.ensures.1

pub returns-in_default : goal.returns-in_default
returns-in_default c =
    place-above 1 c.args.file.now c.args.task (sym c.read.ensures ∙ c.in-Ok.is) (omega (arith, c.if-task-byte_count.false, c.byte_count.ensures))
