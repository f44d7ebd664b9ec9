-- `round::offer_rows` meets its contract: after k turns all that the first k rows become is offered. Assumes nothing.
use mathlib.Core.List.{List, []}
use Prim.Native.Nat.{ℕ, ◌≤◌}
use lib.ListN.{length, get_or}
use Rattle.model.specs.Computed.{State}
use Rattle.rows.specs.Overlay.{overlay}
use Rattle.rows.specs.Rows.{rows_of}
use Rattle.uncovered.specs.Offers.{up_to, offers_on, of_rank}
use Rattle.uncovered.specs.Taken.{Took}
use Rattle.uncovered.proofs.round.offer_rows.Given as goal

-- what the row numbered i becomes
abbrev pub becomes : ℕ → List ℕ → ℕ → List ℕ → ℕ → ℕ → List ℕ → ℕ → List State
becomes rank part count over set blocks entering i = of_rank rank (offers_on (length over) set (overlay (get_or (rows_of (length over) count part) i []) over) entering blocks)

abbrev pub invariant-loop-k : goal.invariant-loop-k
invariant-loop-k l =
    (l.k ≤ l.count) × Took (length l.over) (up_to (becomes l.rank l.part l.count l.over l.set l.blocks l.entering) l.k) l.initial.rows l.initial.counts l.rows l.counts
