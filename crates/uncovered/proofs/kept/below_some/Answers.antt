-- `kept::below_some` meets its contract: the row is within one of the rows that are left just where it is within one of all. Assumes nothing.
use mathlib.Core.Path.{sym, ◌∙◌}
use Prim.Native.Nat.{◌+◌, ◌*◌, ◌≤◌}
use native.Mathlib.Omega.{arith}
use lib.ListN.{length, drop, length-take, length-drop}
use Rattle.rows.proofs.Parts.{row_within}
use Rattle.uncovered.proofs.Search.{below_start, below_turn, below_end}
use Rattle.uncovered.proofs.kept.below_some.Goals as goal
use Rattle.uncovered.proofs.kept.below_some.Goals.{In-loop-k}

-- where the row numbered k ends
inside : (c : In-loop-k) → let w = length c.args.row.now in (w * c.loop-k.k + w ≤ 32 * w) × (w ≤ 32)
inside c = (omega (arith, row_within (length c.args.row.now) c.loop-k.k 32 (omega arith)), c.requires.1.narrow)

pub loop-k-init : goal.loop-k-init
loop-k-init c = (omega arith, below_start (length c.args.row.now) c.args.count c.args.part.now c.args.row.now)

pub overflow_mul-at : goal.overflow_mul-at
overflow_mul-at c = omega (arith, inside c)

pub overflow_add-at : goal.overflow_add-at
overflow_add-at c = omega (arith, inside c)

pub offset_bounds-part-at : goal.offset_bounds-part-at
offset_bounds-part-at c = omega (arith, inside c)

pub slice_bounds-within_row-end : goal.slice_bounds-within_row-end
slice_bounds-within_row-end c = omega (arith, inside c)

pub within_row-requires : goal.within_row-requires
within_row-requires c = (c.requires.1, simp (length-take, length-drop) (omega (arith, inside (goal.at.within_row-requires c).In-loop-k)))

pub returns-then-within_row : goal.returns-then-within_row
returns-then-within_row c = sym (below_turn (length c.args.row.now) c.args.count c.loop-k.k c.args.part.now c.args.row.now (omega arith) (sym c.if-within_row.true ∙ c.within_row.ensures)) ∙ c.loop-k.invariant.1

pub loop-k-preserved : goal.loop-k-preserved
loop-k-preserved c = (omega arith, sym (below_turn (length c.args.row.now) c.args.count c.loop-k.k c.args.part.now c.args.row.now (omega arith) (sym c.if-within_row.false ∙ c.within_row.ensures)) ∙ c.loop-k.invariant.1)

pub returns : goal.returns
returns c = sym (below_end (length c.args.row.now) c.args.count c.loop-k.k (drop (length c.args.row.now * c.loop-k.k) c.args.part.now) c.args.row.now (omega arith)) ∙ c.loop-k.invariant.1
