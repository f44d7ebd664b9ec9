-- `replay` meets its contract: a head at fault is the answer, and a head that passed leaves the bodies. Assumes nothing.
use mathlib.Core.Path.{sym, ◌∙◌}
use Rattle.reader.proofs.ReadLaws.{head_refused}
use Rattle.replay.proofs.CallLaws.{call_refused}
use Rattle.replay.proofs.replay.Goals as goal

pub returns-in-Err : goal.returns-in-Err
returns-in-Err c = call_refused c.args.file.now c.args.sheet.now (sym (head_refused 1 c.args.file.now (sym c.head.ensures ∙ c.in-Err.is)))
