-- The times so far, with those of the records left, are those of the list.
use mathlib.Core.Path.{◌≡◌}
use lib.ListN.{drop}
use Rattle.responses.specs.Plan.{times_with, times_of}
use Rattle.responses.proofs.times_of.Given as goal

abbrev pub invariant-loop-i : goal.invariant-loop-i
invariant-loop-i l = times_with l.times l.i (drop l.i l.first) ≡ times_of l.list
