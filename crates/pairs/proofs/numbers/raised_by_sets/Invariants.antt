-- `numbers::raised_by_sets` meets its contract: the number so far and the useful sets that are left give the most. Assumes nothing.
use mathlib.Core.Path.{◌≡◌}
use Prim.Native.Nat.{max}
use lib.ListN.{drop}
use Rattle.pairs.specs.Pairs.{sets_most}
use Rattle.pairs.proofs.numbers.raised_by_sets.Given as goal

abbrev pub invariant-loop-set : goal.invariant-loop-set
invariant-loop-set l = max l.most (sets_most (drop l.set-index l.useful) l.sets) ≡ max l.number (sets_most l.useful l.sets)
