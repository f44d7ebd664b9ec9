-- `rounds::nothing_new` meets its contract: after b turns no row of the first b blocks is new. Assumes nothing.
use mathlib.Core.Path.{◌≡◌}
use mathlib.Core.Bool.{true}
use Prim.Native.Nat.{◌≤◌}
use Rattle.gather.specs.Memory.{held_rows}
use Rattle.uncovered.specs.Taken.{none_new}
use Rattle.uncovered.proofs.rounds.nothing_new.Given as goal

abbrev pub invariant-loop-b : goal.invariant-loop-b
invariant-loop-b l = (l.b ≤ 24) × (none_new l.b (held_rows l.w l.old l.held) (held_rows l.w l.rows l.counts) ≡ true)
