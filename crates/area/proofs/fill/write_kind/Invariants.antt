-- `fill::write_kind` meets its contract: after b turns the first b counts are written. Assumes nothing.
use mathlib.Core.Path.{◌≡◌}
use Prim.Native.Nat.{◌≤◌}
use lib.ListN.{length, take}
use Rattle.area.proofs.fill.write_kind.Given as goal

abbrev pub invariant-loop-b : goal.invariant-loop-b
invariant-loop-b l = (l.b ≤ 24) × (length l.part ≡ 24) × (take l.b l.part ≡ take l.b l.counts)
