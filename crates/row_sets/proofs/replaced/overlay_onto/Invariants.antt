-- `replaced::overlay_onto` meets its contract: after c turns the row is overlaid by the first c places. Assumes nothing.
use mathlib.Core.Path.{◌≡◌}
use Prim.Native.Nat.{◌≤◌}
use lib.ListN.{length, take}
use Rattle.rows.specs.Overlay.{overlay}
use Rattle.row_sets.proofs.replaced.overlay_onto.Given as goal

abbrev pub invariant-loop-c : goal.invariant-loop-c
invariant-loop-c l = (l.c ≤ length l.over) × (length l.row ≡ length l.over) × (l.row ≡ overlay l.initial.row (take l.c l.over))
