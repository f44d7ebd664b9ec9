-- `rows::overlay_chunk` meets its contract: after c turns the row is overlaid by the first c places. Assumes nothing.
use mathlib.Core.Path.{◌≡◌}
use Prim.Native.Nat.{◌≤◌}
use lib.ListN.{length, take}
use Rattle.rows.specs.Overlay.{overlay}
use Rattle.rows.proofs.overlay_chunk.Given as goal

abbrev pub invariant-loop-c : goal.invariant-loop-c
invariant-loop-c l = (l.c ≤ 16) × (length l.held ≡ 16) × (l.held ≡ overlay l.initial.held (take l.c l.over))
