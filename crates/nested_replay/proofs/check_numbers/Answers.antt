-- `check_numbers` meets its contract: 12 and 20 are the numbers of what the first number at fault is against. Assumes nothing.
use mathlib.Core.Path.{refl}
use Rattle.nested_replay.proofs.CallLaws.{numbers_by}
use Rattle.nested_replay.proofs.check_numbers.Goals as goal

pub returns-in-Ok : goal.returns-in-Ok
returns-in-Ok c = numbers_by c.args.tasks c.args.sheet.now c.in-Ok.ensures refl
