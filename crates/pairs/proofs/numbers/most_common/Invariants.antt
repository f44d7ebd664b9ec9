-- `numbers::most_common` meets its contract: the most so far and what is left give the most. Assumes nothing.
use mathlib.Core.Path.{◌≡◌}
use Prim.Native.Nat.{max}
use lib.ListN.{drop}
use Rattle.pairs.specs.Pairs.{most_common}
use Rattle.pairs.proofs.numbers.most_common.Given as goal

abbrev pub invariant-loop-other : goal.invariant-loop-other
invariant-loop-other l = max l.most (most_common l.set (drop l.other-index l.sets)) ≡ most_common l.set l.sets
