-- `kind_start` meets its contract: live rows begin after the reaching rows. Assumes nothing beyond its `requires`.
use native.Mathlib.Omega.{arith}
use Rattle.area.proofs.row.kind_start.Goals as goal

pub returns-then-live : goal.returns-then-live
returns-then-live c = (rw c.if-live.true, omega arith)

pub returns : goal.returns
returns c = (rw c.if-live.false, omega arith)
