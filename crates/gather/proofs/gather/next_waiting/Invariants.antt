-- `gather::next_waiting` meets its contract: the blocks that were passed do not wait. Assumes nothing.
use Prim.Native.Nat.{ℕ, ◌≤◌, ◌<◌}
use lib.ListN.{get_or}
use Rattle.gather.proofs.gather.next_waiting.Given as goal

abbrev pub invariant-loop-b : goal.invariant-loop-b
invariant-loop-b l = (l.b ≤ 24) × ((c : ℕ) → c < l.b → get_or l.counts c 0 ≤ get_or l.done c 0)
