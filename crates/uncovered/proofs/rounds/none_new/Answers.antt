-- `rounds::none_new` meets its contract: the rows that are left are old ones just where all are. Assumes nothing.
use mathlib.Core.Path.{◌≡◌, sym, ap, ◌∙◌}
use Prim.Native.Nat.{ℕ, ◌+◌, ◌-◌, ◌*◌, ◌≤◌}
use native.Mathlib.Omega.{arith}
use lib.ListN.{length, take, drop}
use Rattle.model.specs.Lists.{mem}
use Rattle.model.specs.Computed.{same_list}
use Rattle.rows.specs.Rows.{rows_of}
use Rattle.rows.proofs.Parts.{row_within}
use Rattle.uncovered.proofs.News.{lent_wide, news_start, news_turn, news_end}
use Rattle.uncovered.proofs.rounds.none_new.Goals as goal
use Rattle.uncovered.proofs.rounds.none_new.Goals.{In-loop-k}

-- where the row numbered k ends
inside : (c : In-loop-k) → let w = c.args.w in (w * c.loop-k.k + w ≤ 32 * w) × (w ≤ 32)
inside c = (omega (arith, row_within c.args.w c.loop-k.k 32 (omega arith)), c.requires.0.narrow)

long : (c : In-loop-k) → length (take (c.args.w * c.loop-k.k + c.args.w - c.args.w * c.loop-k.k) (drop (c.args.w * c.loop-k.k) c.args.part.now)) ≡ c.args.w
long c = lent_wide c.args.w c.loop-k.k 32 c.args.part.now (omega arith) c.requires.4

pub loop-k-init : goal.loop-k-init
loop-k-init c = (omega arith, news_start c.args.w (rows_of c.args.w c.args.many c.args.old.now) c.args.count c.args.part.now)

pub overflow_mul-at : goal.overflow_mul-at
overflow_mul-at c = omega (arith, inside c)

pub overflow_add-at : goal.overflow_add-at
overflow_add-at c = omega (arith, inside c)

pub offset_bounds-part-at : goal.offset_bounds-part-at
offset_bounds-part-at c = omega (arith, inside c)

pub slice_bounds-holds_row-end : goal.slice_bounds-holds_row-end
slice_bounds-holds_row-end c = omega (arith, inside c)

pub holds_row-requires : goal.holds_row-requires
holds_row-requires c = (c.requires.1, omega (arith, long (goal.at.holds_row-requires c).In-loop-k, c.requires.0.chunks), omega (arith, long (goal.at.holds_row-requires c).In-loop-k, c.requires.0.narrow), omega (arith, long (goal.at.holds_row-requires c).In-loop-k, c.requires.3))

pub returns-then-not-holds_row : goal.returns-then-not-holds_row
returns-then-not-holds_row c =
    sym (news_turn c.args.w (rows_of c.args.w c.args.many c.args.old.now) c.args.count c.loop-k.k c.args.part.now (omega arith)
    (sym c.if-not-holds_row.true ∙ c.holds_row.ensures ∙ ap (λ (n : ℕ). mem same_list (take (c.args.w * c.loop-k.k + c.args.w - c.args.w * c.loop-k.k) (drop (c.args.w * c.loop-k.k) c.args.part.now)) (rows_of n c.args.many c.args.old.now)) (long (goal.at.returns-then-not-holds_row c).In-loop-k))) ∙ c.loop-k.invariant.1

pub loop-k-preserved : goal.loop-k-preserved
loop-k-preserved c = (
  omega arith,
  sym (news_turn c.args.w (rows_of c.args.w c.args.many c.args.old.now) c.args.count c.loop-k.k c.args.part.now (omega arith)
      (sym c.if-not-holds_row.false ∙ c.holds_row.ensures ∙ ap (λ (n : ℕ). mem same_list (take (c.args.w * c.loop-k.k + c.args.w - c.args.w * c.loop-k.k) (drop (c.args.w * c.loop-k.k) c.args.part.now)) (rows_of n c.args.many c.args.old.now)) (long (goal.at.loop-k-preserved c).In-loop-k))) ∙ c.loop-k.invariant.1,
)

pub returns : goal.returns
returns c = sym (news_end c.args.w (rows_of c.args.w c.args.many c.args.old.now) c.args.count c.loop-k.k (drop (c.args.w * c.loop-k.k) c.args.part.now) (omega arith)) ∙ c.loop-k.invariant.1
