-- `block::all_real` meets its contract. The loop's invariant: the test of the references from here on gives what the whole gives.
use mathlib.Core.Path.{◌≡◌}
use Prim.Native.Nat.{◌*◌}
use lib.ListN.{drop}
use Rattle.cache.specs.References.{numbers}
use Rattle.body.specs.Decode.{all_real}
use Rattle.body.proofs.block.all_real.Given as goal

abbrev pub invariant-loop-i : goal.invariant-loop-i
invariant-loop-i l = all_real (numbers (drop (2 * l.i) l.references)) ≡ all_real (numbers l.references)
