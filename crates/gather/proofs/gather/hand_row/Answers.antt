-- `gather::hand_row` meets its contract: the row is overlaid as it leaves its block, in a room of its own, and handed on. Assumes nothing.
use mathlib.Core.Path.{◌≡◌, sym, ap, ◌∙◌}
use mathlib.Core.List.{List, []}
use Prim.Native.Nat.{ℕ, ◌+◌, ◌*◌, ◌≤◌}
use native.Mathlib.Omega.{arith}
use lib.ListN.{length, get_or, replicate}
use Rattle.rows.specs.Overlay.{overlay}
use Rattle.rows.proofs.Parts.{lent_front, front_long}
use Rattle.gather.specs.Graph.{row_at}
use Rattle.gather.specs.Memory.{held_rows}
use Rattle.gather.proofs.Handing.{within-memory, within-rows, memory_for, handed_as, left_is, left-row}
use Rattle.gather.proofs.gather.hand_row.Goals as goal
use Rattle.gather.proofs.gather.hand_row.Goals.{After-overlay_row, Start}

-- where the row and the row at b end
inside : (c : Start) → let w = c.args.w in (32 * w * c.args.b + w * c.args.k + w ≤ 24 * (32 * w)) × (w * c.args.b + w ≤ 24 * w) × (w ≤ 32)
inside c =
    let few = c.requires.5.few c.args.b c.requires.0 in
    (within-memory c.args.w c.args.b c.args.k c.requires.0 (omega (arith, few)), within-rows c.args.w c.args.b c.requires.0, c.requires.5.width.narrow)

-- the row as it leaves its block
abbrev left_of : Start → List ℕ
left_of c = overlay (get_or (held_rows c.args.w c.args.rows.now c.args.counts.now c.args.b) c.args.k []) (row_at c.args.w c.args.leaving.now c.args.b)

made : (c : After-overlay_row) →
    let left = overlay (get_or (held_rows c.args.w c.args.rows.now c.args.counts.now c.args.b) c.args.k []) (row_at c.args.w c.args.leaving.now c.args.b) in
    (c.overlay_row.new.out ≡ left) × (length left ≡ c.args.w)
made c =
    let start = c in
    let args = start.args in
    let told = c.overlay_row.ensures in (
      left_is args.w args.rows.now args.counts.now args.leaving.now args.b args.k start.requires.5 start.requires.3 start.requires.0 start.requires.1 told,
      left-row args.w args.rows.now args.counts.now args.leaving.now args.b args.k start.requires.5 start.requires.3 start.requires.0 start.requires.1 told,
    )

pub overflow_mul-at-2 : goal.overflow_mul-at-2
overflow_mul-at-2 c = omega (arith, inside (goal.at.overflow_mul-at-2 c).Start)

pub overflow_mul-at-3 : goal.overflow_mul-at-3
overflow_mul-at-3 c = omega (arith, inside (goal.at.overflow_mul-at-3 c).Start)

pub overflow_add-at : goal.overflow_add-at
overflow_add-at c = omega (arith, inside (goal.at.overflow_add-at c).Start)

pub overflow_mul-over : goal.overflow_mul-over
overflow_mul-over c = omega (arith, inside (goal.at.overflow_mul-over c).Start)

pub overflow_add-at-2 : goal.overflow_add-at-2
overflow_add-at-2 c = omega (arith, inside (goal.at.overflow_add-at-2 c).Start)

pub offset_bounds-rows-at : goal.offset_bounds-rows-at
offset_bounds-rows-at c = omega (arith, inside (goal.at.offset_bounds-rows-at c).Start)

pub overflow_add-over : goal.overflow_add-over
overflow_add-over c = omega (arith, inside (goal.at.overflow_add-over c).Start)

pub offset_bounds-leaving-over : goal.offset_bounds-leaving-over
offset_bounds-leaving-over c = omega (arith, inside (goal.at.offset_bounds-leaving-over c).Start)

pub hand_on-requires : goal.hand_on-requires
hand_on-requires c =
    let start = c in
    let long = front_long c.args.w (replicate 32 0) (left_of (goal.at.hand_on-requires c).Start) (made (goal.at.hand_on-requires c).After-overlay_row).0 (made (goal.at.hand_on-requires c).After-overlay_row).1 in
    (start.requires.2, start.requires.4 ∙ ap (λ (n : ℕ). 24 * n) (sym long), memory_for long start.requires.5)

pub returns : goal.returns
returns c =
    let args = c.args in
    handed_as args.w args.set _ (left_of (goal.at.returns c).Start) args.blocks args.entering.now args.rows.now args.counts.now
    (lent_front c.args.w (replicate 32 0) (left_of (goal.at.returns c).Start) (made (goal.at.returns c).After-overlay_row).0 (made (goal.at.returns c).After-overlay_row).1) (made (goal.at.returns c).After-overlay_row).1 c.hand_on.ensures
