-- `left::left_rows` meets its contract: after k turns the first k rows are overlaid. Assumes nothing.
use mathlib.Core.List.{◌++◌}
use Rattle.rows.proofs.Overlays.{length-overlay}
use Rattle.points.proofs.Rests.{left_more}
use native.Mathlib.Omega.{arith}
use mathlib.Core.Path.{◌≡◌, sym, ap, ◌∙◌}
use Prim.Native.Nat.{ℕ, ◌+◌, ◌*◌, ◌-◌, ◌≤◌}
use lib.ListN.{length, take, drop}
use Rattle.rows.proofs.Parts.{row_within, replaced_length, lent_back, lent_long}
use Rattle.points.proofs.left.left_rows.Goals as goal
use Rattle.points.proofs.left.left_rows.Goals.{In-loop-k}

-- where the row numbered k ends
inside : (c : In-loop-k) → let w = length c.args.rest.now in (w * c.loop-k.k + w ≤ w * 32) × (w ≤ 32)
inside c = (row_within (length c.args.rest.now) c.loop-k.k 32 (omega (arith, c.requires.1)), c.requires.0.narrow)

pub overflow_mul-at : goal.overflow_mul-at
overflow_mul-at c = omega (arith, inside (c))

pub overflow_add-at : goal.overflow_add-at
overflow_add-at c = omega (arith, inside (c))

pub offset_bounds-live-at : goal.offset_bounds-live-at
offset_bounds-live-at c = omega (arith, inside (c))

pub slice_bounds-overlay_row-end : goal.slice_bounds-overlay_row-end
slice_bounds-overlay_row-end c = omega (arith, inside (c))

pub overflow_add-at-in-loop-k : goal.overflow_add-at-in-loop-k
overflow_add-at-in-loop-k c = omega (arith, inside (goal.at.overflow_add-at-in-loop-k c).In-loop-k)

pub offset_bounds-out-at : goal.offset_bounds-out-at
offset_bounds-out-at c = omega (arith, inside (goal.at.offset_bounds-out-at c).In-loop-k)

pub slice_bounds-overlay_row-end-in-loop-k : goal.slice_bounds-overlay_row-end-in-loop-k
slice_bounds-overlay_row-end-in-loop-k c = omega (arith, inside (goal.at.slice_bounds-overlay_row-end-in-loop-k c).In-loop-k)

pub overlay_row-requires : goal.overlay_row-requires
overlay_row-requires c =
    let start = c in
    let w = length start.args.rest.now in
    let live = lent_long w c.loop-k.k 32 start.args.live.now (omega (arith, start.requires.1)) start.requires.2 in
    let out = lent_long w c.loop-k.k 32 c.loop-k.out (omega (arith, start.requires.1)) c.loop-k.invariant.1 in
    (rw live start.requires.0.chunks, sym live, out ∙ sym live)

pub loop-k-preserved : goal.loop-k-preserved
loop-k-preserved c =
    let start = c in
    let at = c.loop-k in
    let w = length start.args.rest.now in
    let row = c.overlay_row.new.out in
    let live = lent_long w at.k 32 start.args.live.now (omega (arith, start.requires.1)) start.requires.2 in
    let ends = inside (goal.at.loop-k-preserved c).In-loop-k in
    let wide = ap length c.overlay_row.ensures ∙ length-overlay (take (w * at.k + w - w * at.k) (drop (w * at.k) start.args.live.now)) start.args.rest.now ∙ live in
    let fits : w * at.k + w ≤ length at.out = omega (arith, ends, at.invariant.1) in (
      omega (arith, c.loop-k-test.true),
      ap length (lent_back (w * at.k) w at.out row) ∙ replaced_length at.out row (w * at.k) w fits wide ∙ at.invariant.1,
      left_more w at.k start.args.rest.now start.args.live.now at.out {row = row} fits wide c.overlay_row.ensures
          (lent_back (w * at.k) w at.out row ∙ ap (λ (n : ℕ). take (w * at.k) at.out ++ (row ++ drop (w * at.k + n) at.out)) (sym wide)) at.invariant.2,
    )

pub returns : goal.returns
returns c =
    let start = c in
    let at = c.loop-k in
    let end : at.k ≡ start.args.lived = omega arith in
    (at.invariant.1, rw (← end) at.invariant.2)
