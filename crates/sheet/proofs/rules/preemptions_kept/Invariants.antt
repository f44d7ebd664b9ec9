-- `rules::preemptions_kept` meets its contract: what is left of the numbers keeps the rules just where the whole does. Assumes nothing.
use mathlib.Core.Path.{◌≡◌}
use Prim.Native.Nat.{◌-◌, ◌≤◌}
use lib.ListN.{length, drop}
use Rattle.sheet.specs.Parsed.{preemptions_from, kept_list}
use Rattle.sheet.proofs.rules.preemptions_kept.Given as goal

abbrev pub invariant-loop-k : goal.invariant-loop-k
invariant-loop-k l =
    (l.k ≤ l.all) × (l.at ≤ length l.sheet) × (kept_list (preemptions_from l.tasks l.p l.long (l.all - l.k) l.low l.low_done (drop l.at l.sheet)) ≡ kept_list (preemptions_from l.tasks l.p l.long l.all 0 0 (drop l.from l.sheet)))

abbrev pub decreases-loop-k : goal.decreases-loop-k
decreases-loop-k l = l.all - l.k
