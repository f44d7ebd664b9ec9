-- `sort::stands_before` meets its contract: what is left of the rows compares as the whole does. Assumes nothing.
use mathlib.Core.Path.{◌≡◌}
use lib.ListN.{length, drop}
use Rattle.model.specs.Order.{before}
use Rattle.sort.proofs.stands_before.Given as goal

abbrev pub invariant-loop-x : goal.invariant-loop-x
invariant-loop-x l = before (drop (length l.yielded) l.row) (drop (length l.yielded) l.other) ≡ before l.row l.other
