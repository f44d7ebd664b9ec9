-- `walk` meets its contract. The loop's invariant: the blocks passed are those that the body decodes to, before what the bytes still to
-- come decode to, and their starts are filled in.
use mathlib.Core.Path.{◌≡◌}
use Prim.Native.Nat.{◌≤◌, ◌-◌}
use lib.ListN.{length}
use Rattle.body.proofs.Walks.{Passed}
use Rattle.body.proofs.walk.Given as goal

abbrev pub invariant-loop-b : goal.invariant-loop-b
invariant-loop-b l = (l.b ≤ l.all) × (length l.starts ≡ 24) × Passed l.body l.blocks l.b l.at l.starts

abbrev pub decreases-loop-b : goal.decreases-loop-b
decreases-loop-b l = l.all - l.b
