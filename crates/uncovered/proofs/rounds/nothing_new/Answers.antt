-- `rounds::nothing_new` meets its contract: after b turns no row of the first b blocks is new. Assumes nothing.
use mathlib.Core.Path.{◌≡◌, refl, sym, ap₂, ◌∙◌}
use mathlib.Core.List.{List}
use Prim.Native.Nat.{ℕ, ◌+◌, ◌*◌, ◌≤◌}
use native.Mathlib.Omega.{arith}
use Rattle.model.specs.Computed.{same_list, sub}
use Rattle.rows.proofs.Parts.{row_within}
use Rattle.gather.specs.Memory.{held_rows}
use Rattle.uncovered.proofs.News.{lent_wide, lent_held, none_more, none_stop}
use Rattle.uncovered.proofs.rounds.nothing_new.Goals as goal
use Rattle.uncovered.proofs.rounds.nothing_new.Goals.{In-loop-b}

-- where the rows of block b end
inside : (c : In-loop-b) → (32 * c.args.w * c.loop-b.b + 32 * c.args.w ≤ 24 * (32 * c.args.w)) × (c.args.w ≤ 32)
inside c = (omega (arith, row_within (32 * c.args.w) c.loop-b.b 24 (omega arith)), c.requires.0.width.narrow)

pub overflow_mul-part : goal.overflow_mul-part
overflow_mul-part c = omega (arith, c.requires.0.width.narrow)

pub loop-b-init : goal.loop-b-init
loop-b-init c = (omega arith, refl)

pub overflow_mul-at : goal.overflow_mul-at
overflow_mul-at c = omega (arith, inside c)

pub overflow_add-at : goal.overflow_add-at
overflow_add-at c = omega (arith, inside c)

pub offset_bounds-old-at : goal.offset_bounds-old-at
offset_bounds-old-at c = omega (arith, inside c)

pub slice_bounds-none_new-end : goal.slice_bounds-none_new-end
slice_bounds-none_new-end c = omega (arith, inside c, c.requires.0.long, c.requires.1.long)

pub offset_bounds-held-b : goal.offset_bounds-held-b
offset_bounds-held-b c = omega (arith, inside (goal.at.offset_bounds-held-b c).In-loop-b)

pub bounds-held-b : goal.bounds-held-b
bounds-held-b c = omega (arith, c.requires.0.many, c.requires.1.many)

pub overflow_add-at-in-loop-b : goal.overflow_add-at-in-loop-b
overflow_add-at-in-loop-b c = omega (arith, inside (goal.at.overflow_add-at-in-loop-b c).In-loop-b)

pub offset_bounds-rows-at : goal.offset_bounds-rows-at
offset_bounds-rows-at c = omega (arith, inside (goal.at.offset_bounds-rows-at c).In-loop-b)

pub slice_bounds-none_new-end-in-loop-b : goal.slice_bounds-none_new-end-in-loop-b
slice_bounds-none_new-end-in-loop-b c = omega (arith, inside (goal.at.slice_bounds-none_new-end-in-loop-b c).In-loop-b, c.requires.0.long, c.requires.1.long)

pub offset_bounds-counts-b : goal.offset_bounds-counts-b
offset_bounds-counts-b c = omega (arith, inside (goal.at.offset_bounds-counts-b c).In-loop-b)

pub bounds-counts-b : goal.bounds-counts-b
bounds-counts-b c = omega (arith, c.requires.0.many, c.requires.1.many)

pub none_new-requires : goal.none_new-requires
none_new-requires c = (c.requires.0.width, c.requires.0.few c.loop-b.b (omega arith), c.requires.1.few c.loop-b.b (omega arith), lent_wide (32 * c.args.w) c.loop-b.b 24 c.args.old.now (omega arith) c.requires.0.long, lent_wide (32 * c.args.w) c.loop-b.b 24 c.args.rows.now (omega arith) c.requires.1.long)

pub returns-then-not-none_new : goal.returns-then-not-none_new
returns-then-not-none_new c =
    sym (none_stop (held_rows c.args.w c.args.old.now c.args.held.now) (held_rows c.args.w c.args.rows.now c.args.counts.now) 24 c.loop-b.b (omega arith)
    (sym (ap₂ (λ (x y : List (List ℕ)). sub same_list x y) (lent_held c.args.w c.args.rows.now c.args.counts.now c.loop-b.b) (lent_held c.args.w c.args.old.now c.args.held.now c.loop-b.b)) ∙ sym c.none_new.ensures ∙ c.if-not-none_new.true))

pub loop-b-preserved : goal.loop-b-preserved
loop-b-preserved c = (
  omega arith,
  none_more (held_rows c.args.w c.args.old.now c.args.held.now) (held_rows c.args.w c.args.rows.now c.args.counts.now) c.loop-b.b c.loop-b.invariant.1
      (sym (ap₂ (λ (x y : List (List ℕ)). sub same_list x y) (lent_held c.args.w c.args.rows.now c.args.counts.now c.loop-b.b) (lent_held c.args.w c.args.old.now c.args.held.now c.loop-b.b)) ∙ sym c.none_new.ensures ∙ c.if-not-none_new.false),
)

pub returns : goal.returns
returns c =
    let end : c.loop-b.b ≡ 24 = omega arith in
    sym (rw end at c.loop-b.invariant.1)
