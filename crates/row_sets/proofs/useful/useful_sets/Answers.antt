-- `useful::useful_sets` meets its contract: after c turns each set is that of the first c cache blocks. Assumes nothing.
use mathlib.Core.Path.{◌≡◌, refl, sym, ap, ◌∙◌}
use Prim.Native.Nat.{ℕ, ◌+◌, ◌<◌}
use native.Mathlib.Omega.{arith}
use mathlib.Core.List.{List}
use lib.ListN.{length, get_or, length-replicate, get_or-replicate}
use Rattle.cache.specs.References.{nothing}
use Rattle.cache.specs.Sets.{useful, bits}
use Rattle.cache.proofs.Cells.{cell_held}
use Rattle.rows.specs.Overlay.{overlay}
use Rattle.row_sets.specs.Lanes.{lane_row}
use Rattle.row_sets.proofs.LaneSets.{lane_part, lane_kept, lane_marked}
use Rattle.rows.proofs.Parts.{lent_long}
use Rattle.row_sets.proofs.useful.useful_sets.Goals as goal
use Rattle.row_sets.proofs.useful.useful_sets.Goals.{else-m, then-m}

pub loop-c-init : goal.loop-c-init
unfolding bits
loop-c-init c =
    let e = c.requires.4 in
    (omega arith, ap length e ∙ length-replicate {A = ℕ} 32 0, λ l h. ap (λ (s : List ℕ). get_or s l 0) e ∙ get_or-replicate {A = ℕ} 32 l 0 0 (omega (arith, c.requires.3)))

pub overflow_mul-at : goal.overflow_mul-at
overflow_mul-at c = omega (arith, c.requires.0.narrow)

pub overflow_add-at : goal.overflow_add-at
overflow_add-at c = omega (arith, c.requires.0.narrow)

pub offset_bounds-lanes-at : goal.offset_bounds-lanes-at
offset_bounds-lanes-at c = omega (arith, c.requires.0.narrow)

pub bounds-rest-c : goal.bounds-rest-c
bounds-rest-c c = omega (arith, c.requires.1)

pub overflow_cast-c : goal.overflow_cast-c
overflow_cast-c c = omega (arith, c.requires.0.narrow)

pub overflow_shl-c : goal.overflow_shl-c
overflow_shl-c c = omega (arith, c.requires.0.narrow)

pub mark_lane-requires : goal.mark_lane-requires
mark_lane-requires c =
    let start = c in
    let at = c.loop-c in
    (lent_long 32 at.c (length start.args.row.now) start.args.lanes.now (omega arith) (omega (arith, start.requires.2)), start.requires.3, at.invariant.1)

pub loop-c-preserved : goal.loop-c-preserved
unfolding nothing
loop-c-preserved c =
    let at = c.loop-c in
    let start = c in
    let args = start.args in
    let row = args.row.now in
    let rest = args.rest.now in
    let lanes = args.lanes.now in
    let inside : at.c < length row = omega arith in
    let m = cell_held row at.c inside in
    let x = cell_held rest at.c (omega (arith, start.requires.1)) in
    let next : (length c.if-m.sets ≡ 32) × ((l : ℕ) → l < args.lived → get_or c.if-m.sets l 0 ≡ bits (at.c + 1) (useful row (overlay (lane_row (length row) lanes l) rest)))
    = elim c.if-m.branch [
      | then-m v ↦ rw v.sets-is (
        v.mark_lane.ensures.0,
        λ l h. v.mark_lane.ensures.1 l h
            ∙ lane_marked row rest lanes l at.c (get_or at.sets l 0) _ _ _ _ inside (omega (arith, start.requires.0.narrow)) m v.if-m.true x (lane_part lanes at.c l (omega (arith, start.requires.3)) (omega (arith, start.requires.2, start.requires.3))) refl
            (at.invariant.2 l h),
      )
      | else-m v ↦ rw v.sets-is (at.invariant.1, λ l h. lane_kept row rest lanes l at.c (get_or at.sets l 0) (sym m ∙ v.if-m.false) (at.invariant.2 l h))
    ] in
    (omega arith, next.0, next.1)

pub returns : goal.returns
returns c =
    let at = c.loop-c in
    let args = c.args in
    let row = args.row.now in
    let end : at.c ≡ length row = omega arith in
    (at.invariant.1, λ l h. at.invariant.2 l h ∙ ap (λ (k : ℕ). bits k (useful row (overlay (lane_row (length row) args.lanes.now l) args.rest.now))) end)
