-- `lanes::lay_lanes` meets its contract: after l turns the first l rows are laid. Assumes nothing.
use mathlib.Core.Path.{◌≡◌, sym, ap, ◌∙◌}
use Prim.Native.Nat.{ℕ, ◌+◌, ◌*◌, ◌≤◌, ◌<◌}
use native.Mathlib.Omega.{arith}
use Rattle.rows.proofs.Parts.{row_within, lent_long}
use Rattle.row_sets.proofs.LaneLaws.{laid_more, rows_laid}
use Rattle.row_sets.proofs.lanes.lay_lanes.Goals as goal
use Rattle.row_sets.proofs.lanes.lay_lanes.Goals.{In-loop-l}

-- where the row numbered l ends
inside : (c : In-loop-l) → let w = c.args.w in (w * c.loop-l.l + w ≤ 32 * w) × (w ≤ 32)
inside c =
    let start = c in
    (omega (arith, row_within start.args.w c.loop-l.l 32 (omega arith)), start.requires.1)

pub loop-l-init : goal.loop-l-init
loop-l-init c = (omega arith, c.requires.3, (λ k d h i. absurd (omega arith)))

pub overflow_mul-at : goal.overflow_mul-at
overflow_mul-at c = omega (arith, inside c)

pub overflow_add-at : goal.overflow_add-at
overflow_add-at c = omega (arith, inside c)

pub offset_bounds-rows-at : goal.offset_bounds-rows-at
offset_bounds-rows-at c = omega (arith, inside c)

pub lay_lane-requires : goal.lay_lane-requires
lay_lane-requires c =
    let start = c in
    let at = c.loop-l in
    let wide = lent_long start.args.w at.l 32 start.args.rows.now (omega arith) start.requires.2 in
    (omega arith, rw wide start.requires.1, at.invariant.1 ∙ ap (λ (n : ℕ). 32 * n) (sym wide))

pub loop-l-preserved : goal.loop-l-preserved
loop-l-preserved c =
    let start = c in
    let at = c.loop-l in
    let rows = start.args.rows.now in
    let w = start.args.w in
    let few : at.l < 32 = omega arith in
    let laid = c.lay_lane.ensures in (
      omega arith,
      laid.0 ∙ ap (λ (n : ℕ). 32 * n) (lent_long w at.l 32 rows few start.requires.2),
      laid_more w at.l rows few start.requires.2 at.lanes c.lay_lane.new.lanes laid.1 laid.2 at.invariant.2,
    )

pub returns : goal.returns
returns c =
    let start = c in
    let at = c.loop-l in
    let end : at.l ≡ start.args.count = omega arith in
    (at.invariant.1, rows_laid start.args.w start.args.count start.args.rows.now at.lanes start.requires.0 start.requires.2 at.invariant.1 (rw (← end) at.invariant.2))
