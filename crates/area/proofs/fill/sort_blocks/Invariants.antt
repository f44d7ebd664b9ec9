-- `fill::sort_blocks` meets its contract: after b turns the parts of the first b blocks are sorted. Assumes nothing.
use mathlib.Core.Path.{◌≡◌}
use Prim.Native.Nat.{◌≤◌}
use lib.ListN.{length}
use Rattle.rows.specs.Rows.{kind_length}
use Rattle.area.proofs.Blocks.{blocks_done}
use Rattle.area.proofs.fill.sort_blocks.Given as goal

abbrev pub invariant-loop-b : goal.invariant-loop-b
invariant-loop-b l = (l.b ≤ 24) × (length l.rows ≡ kind_length l.w) × (l.rows ≡ blocks_done l.w l.initial.rows l.counts l.b)
