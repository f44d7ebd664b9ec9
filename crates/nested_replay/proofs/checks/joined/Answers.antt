-- `checks::joined` meets its contract: what is told of the other part, with the points of both. Assumes nothing.
use mathlib.Core.Path.{refl}
use Rattle.nested_replay.proofs.checks.joined.Goals as goal

pub returns-in_err-next : goal.returns-in_err-next
returns-in_err-next c = rw c.in_err-next.was c.from_residual.ensures

pub returns-then-first : goal.returns-then-first
returns-then-first c = rw (c.in_ok-next.was, c.if-first.true) refl

pub returns-else-first : goal.returns-else-first
returns-else-first c = rw (c.in_ok-next.was, c.if-first.false) refl
