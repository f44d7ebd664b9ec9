-- `block::rises_below` meets its contract. The loop's invariant: the test from the last successor passed on gives what the whole gives.
use mathlib.Core.Path.{◌≡◌}
use mathlib.Core.List.{◌∷◌}
use lib.ListN.{drop}
use Rattle.body.specs.Decode.{rises_below}
use Rattle.body.proofs.block.rises_below.Given as goal

abbrev pub invariant-loop-next : goal.invariant-loop-next
invariant-loop-next l = rises_below l.blocks (l.last ∷ drop l.next-index l.others) ≡ rises_below l.blocks l.successors
