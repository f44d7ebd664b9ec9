-- `replaced::join_rows` meets its contract: after k turns the row is one for the first k end rows. Assumes nothing.
use mathlib.Core.Path.{◌≡◌, refl, sym, ap, ◌∙◌}
use Prim.Native.Nat.{ℕ, ◌+◌, ◌*◌, ◌≤◌}
use native.Mathlib.Omega.{arith}
use Rattle.cache.specs.Sets.{bits}
use Rattle.rows.specs.Rows.{rows_of}
use Rattle.rows.proofs.Parts.{row_within, lent_long}
use Rattle.row_sets.specs.Sets.{some_replaces}
use Rattle.row_sets.proofs.OneRow.{one_more}
use Rattle.row_sets.proofs.replaced.join_rows.Goals as goal
use Rattle.row_sets.proofs.replaced.join_rows.Goals.{In-loop-k}

-- where the end row numbered k ends
inside : (c : In-loop-k) → let w = c.args.w in (w * c.loop-k.k + w ≤ 32 * w) × (w ≤ 32)
inside c =
    let start = c in
    (omega (arith, row_within start.args.w c.loop-k.k 32 (omega arith)), start.requires.1.narrow)

pub loop-k-init : goal.loop-k-init
loop-k-init c = (omega arith, c.requires.3)

pub overflow_mul-at : goal.overflow_mul-at
overflow_mul-at c = omega (arith, inside c)

pub overflow_add-at : goal.overflow_add-at
overflow_add-at c = omega (arith, inside c)

pub offset_bounds-ends-at : goal.offset_bounds-ends-at
offset_bounds-ends-at c = omega (arith, inside c)

pub overlay_onto-requires : goal.overlay_onto-requires
overlay_onto-requires c =
    let start = c in
    let at = c.loop-k in
    lent_long start.args.w at.k 32 start.args.ends.now (omega arith) start.requires.2 ∙ sym at.invariant.1.wide

pub loop-k-preserved : goal.loop-k-preserved
loop-k-preserved c =
    let start = c in
    let at = c.loop-k in
    (omega arith, one_more start.args.w at.k start.args.ends.now at.one at.invariant.1 c.overlay_onto.ensures)

pub replaced_sets-requires : goal.replaced_sets-requires
replaced_sets-requires c =
    let start = c in
    let wide = c.loop-k.invariant.1.wide in
    (start.requires.0, rw wide start.requires.1, rw wide start.requires.2, refl)

pub shape_of-one : goal.shape_of-one
shape_of-one c = c.loop-k.invariant.1.wide ∙ sym c.requires.3.wide

pub returns : goal.returns
returns c =
    let start = c in
    let at = c.loop-k in
    let end : at.k ≡ start.args.count = omega arith in
    let wide = at.invariant.1.wide in
    record {
      row = rw (← end) at.invariant.1;
      others = c.replaced_sets.ensures.3 ∙ ap (λ (n : ℕ). bits n (some_replaces (rows_of n start.args.count start.args.ends.now) at.one)) wide;
    }
