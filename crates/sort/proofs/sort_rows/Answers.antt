-- `sort::sort_rows` meets its contract: after each turn one row more is sorted among those after it. Assumes nothing.
use Prim.Native.Nat.{◌+◌, ◌-◌, ◌*◌, ◌≤◌}
use native.Mathlib.Nat.{mul-le-mul_left}
use borrow.Author.Rules.{rules}
use Rattle.rows.proofs.Parts.{row_within}
use Rattle.sort.proofs.Sorted.{sort_start, lent_fits, lent_once, sort_turn, sort_end}
use native.Mathlib.Omega.{arith}
use Rattle.sort.proofs.sort_rows.Goals as goal
use Rattle.sort.proofs.sort_rows.Goals.{In-loop-others, Start}

-- the rows end within the part, and so does row k
all-rows : (c : Start) → (c.args.w * c.args.count ≤ 32 * c.args.w) × (c.args.w ≤ 32)
all-rows c =
    let within : c.args.w * c.args.count ≤ c.args.w * 32 = mul-le-mul_left c.args.w (omega arith) in
    (omega arith, c.requires.0.narrow)

row-end : (c : In-loop-others) → let args = c.args in args.w * (args.count - 1 - c.loop-others.others) + args.w ≤ args.w * args.count
row-end c =
    let args = c.args in
    row_within args.w (args.count - 1 - c.loop-others.others) args.count (omega arith)

pub overflow_mul-end : goal.overflow_mul-end
overflow_mul-end c = omega (arith, all-rows (goal.at.overflow_mul-end c).Start)

pub loop-others-init : goal.loop-others-init
loop-others-init c =
    let start = c in
    (omega arith, start.requires.1, sort_start start.args.w start.args.count start.args.part.now (omega (arith, all-rows (goal.at.loop-others-init c).Start)) start.requires.3 (start.args.count - 0) (omega arith))

pub overflow_mul-at : goal.overflow_mul-at
overflow_mul-at c = omega (arith, all-rows (goal.at.overflow_mul-at c).Start, row-end c)

pub offset_bounds-part-at : goal.offset_bounds-part-at
offset_bounds-part-at c = omega (arith, all-rows (goal.at.offset_bounds-part-at c).Start, row-end c)

pub slice_bounds-insert_first-count : goal.slice_bounds-insert_first-count
slice_bounds-insert_first-count c = omega (arith, all-rows (goal.at.slice_bounds-insert_first-count c).Start, row-end c)

pub insert_first-requires : goal.insert_first-requires
insert_first-requires c =
    let at = c.loop-others in
    let start = c in
    let k = start.args.count - 1 - at.others in
    let from = start.args.count - at.others in (
      start.requires.0,
      lent_fits start.args.w start.args.count start.args.part.now (omega (arith, all-rows (goal.at.insert_first-requires c).Start)) start.requires.3 from k (omega arith) (omega arith) at.invariant.2 at.others (omega arith),
      lent_once start.args.w start.args.count start.args.part.now (omega (arith, all-rows (goal.at.insert_first-requires c).Start)) start.requires.3 from k (omega arith) (omega arith) at.invariant.2 at.others (omega arith),
    )

pub loop-others-preserved : goal.loop-others-preserved
loop-others-preserved c =
    let at = c.loop-others in
    let start = c in
    let k = start.args.count - 1 - at.others in
    let from = start.args.count - at.others in (
      omega arith,
      search rules,
      sort_turn start.args.w start.args.count start.args.part.now (omega (arith, all-rows (goal.at.loop-others-preserved c).Start)) start.requires.3 from k (omega arith) (omega arith) at.invariant.2 at.others (omega arith) (start.args.count - (at.others + 1)) (omega arith) c.insert_first.ensures,
    )

pub overflow_mul-w : goal.overflow_mul-w
overflow_mul-w c = omega (arith, all-rows (goal.at.overflow_mul-w c).Start)

pub offset_bounds-part-end : goal.offset_bounds-part-end
offset_bounds-part-end c = omega (arith, all-rows (goal.at.offset_bounds-part-end c).Start)

pub slice_bounds-fill-count : goal.slice_bounds-fill-count
slice_bounds-fill-count c = omega (arith, all-rows (goal.at.slice_bounds-fill-count c).Start)

pub returns : goal.returns
returns c =
    let at = c.loop-others in
    let start = c in
    sort_end start.args.w start.args.count start.args.part.now start.requires.1 (all-rows (goal.at.returns c).Start).0 start.requires.3 (start.args.count - at.others) (omega arith) at.invariant.2 (c.fill.ensures.after (λ y e. search rules))
