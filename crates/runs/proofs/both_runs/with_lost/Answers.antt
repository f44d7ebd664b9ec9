-- `both_runs::with_lost` meets its contract: both answers taken apart. Assumes nothing.
use native.Mathlib.Omega.{arith}
use mathlib.Core.Path.{refl}
use Rattle.runs.proofs.BothLaws.{lost-by}
use Rattle.runs.proofs.both_runs.with_lost.Goals as goal

pub returns-then-disturbed : goal.returns-then-disturbed
returns-then-disturbed c = omega (arith, lost-by c.args.lost c.if-undisturbed.true c.if-disturbed.true)

pub returns-else-disturbed : goal.returns-else-disturbed
returns-else-disturbed c = omega (arith, lost-by c.args.lost c.if-undisturbed.true c.if-disturbed.false)

pub returns-else-undisturbed : goal.returns-else-undisturbed
returns-else-undisturbed c = omega (arith, lost-by c.args.lost {d = c.args.disturbed} c.if-undisturbed.false refl)
