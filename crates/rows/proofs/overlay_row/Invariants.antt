-- `rows::overlay_row` meets its contract: after h turns the first h chunks are overlaid. Assumes nothing.
use mathlib.Core.Path.{◌≡◌}
use Prim.Native.Nat.{◌*◌, ◌/◌, ◌≤◌}
use lib.ListN.{length, take}
use Rattle.rows.specs.Overlay.{overlay}
use Rattle.rows.proofs.overlay_row.Given as goal

abbrev pub invariant-loop-h : goal.invariant-loop-h
invariant-loop-h l = (l.h ≤ length l.row / 16) × (length l.out ≡ length l.row) × (take (16 * l.h) l.out ≡ take (16 * l.h) (overlay l.row l.over))
