-- `tasks::first_at_fault` meets its contract: the bodies passed are not at fault. Assumes nothing.
use mathlib.Core.Path.{◌≡◌}
use mathlib.Core.Bool.{Bool}
use mathlib.Core.List.{List, map}
use Prim.Native.Nat.{ℕ, ◌≤◌, ◌-◌}
use Rattle.project.specs.Checklist.{lowest}
use Rattle.project.specs.Ends.{between}
use Rattle.reader.specs.Tests.{Tests}
use Rattle.reader.proofs.tasks.first_at_fault.Given as goal

abbrev pub invariant-loop-j : goal.invariant-loop-j
invariant-loop-j g l =
    (l.j ≤ l.count)
    × ((test : List ℕ → Bool) → Tests g.F.Fn l.at_fault test → lowest l.check l.j (map test (between l.bytes l.ends (l.count - l.j) l.j)) ≡ lowest l.check 0 (map test (between l.bytes l.ends l.count 0)))

abbrev pub decreases-loop-j : goal.decreases-loop-j
decreases-loop-j g l = l.count - l.j
