-- `numbers::largest` meets its contract: the most so far and what is left give the most. Assumes nothing.
use mathlib.Core.Path.{◌≡◌}
use Prim.Native.Nat.{max}
use lib.ListN.{drop}
use Rattle.pairs.specs.Pairs.{largest_of}
use Rattle.pairs.proofs.numbers.largest.Given as goal

abbrev pub invariant-loop-set : goal.invariant-loop-set
invariant-loop-set l = max l.most (largest_of (drop l.set-index l.sets)) ≡ largest_of l.sets
