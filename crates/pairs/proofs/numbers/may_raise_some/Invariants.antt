-- `numbers::may_raise_some` meets its contract: the row may raise the number of no task passed. Assumes nothing.
use mathlib.Core.Path.{◌≡◌}
use mathlib.Core.Bool.{false}
use Rattle.pairs.specs.Pairs.{may_raise_some}
use Rattle.pairs.proofs.numbers.may_raise_some.Given as goal

abbrev pub invariant-loop-j : goal.invariant-loop-j
invariant-loop-j l = may_raise_some l.row l.held l.ends l.numbers l.j ≡ false
