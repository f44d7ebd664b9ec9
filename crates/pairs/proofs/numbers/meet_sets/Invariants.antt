-- `numbers::meet_sets` meets its contract: after j turns the numbers of the tasks below j are what the row makes of them. Assumes nothing.
use mathlib.Core.Path.{◌≡◌}
use lib.ListN.{length}
use Rattle.pairs.specs.Pairs.{useful_most, Met}
use Rattle.pairs.proofs.numbers.meet_sets.Given as goal

abbrev pub invariant-loop-j : goal.invariant-loop-j
invariant-loop-j l = (length l.numbers ≡ 8) × Met (useful_most l.useful.row.now l.useful.sets.now) l.ends l.j l.initial.numbers l.numbers
