-- `numbers::raised_by_row` meets its contract: the number stays where the row, or what the end rows replace, has too few cache blocks to raise it, and
-- is else raised by each useful set. Assumes nothing.
use mathlib.Core.Path.{◌≡◌, ap, ◌∙◌}
use mathlib.Core.List.{List}
use Prim.Native.Nat.{ℕ, max}
use native.Mathlib.Omega.{arith}
use lib.ListN.{length}
use Rattle.rows.specs.Rows.{rows_of}
use Rattle.rows.proofs.Parts.{lent_first}
use Rattle.pairs.specs.Pairs.{sets_most, point_most, useful_most}
use Rattle.pairs.proofs.Bounds.{stays_replaced}
use Rattle.pairs.proofs.UsefulSets.{useful-most, part_bounded, most_of_all, most_of_largest}
use Rattle.pairs.proofs.numbers.raised_by_row.Goals as goal
use Rattle.pairs.proofs.numbers.raised_by_row.Goals.{Start}

-- the end rows
abbrev ends : (c : Start) → List (List ℕ)
ends c = rows_of (length c.args.useful.now.row.now) c.args.count c.args.ends.now

-- the most over the live rows is that over the useful sets
same : (c : Start) → let u = c.args.useful.now in
    max c.args.number (point_most u.row.now c.requires.0.rest c.requires.0.lives (ends c)) ≡ max c.args.number (useful_most u.row.now u.sets.now (ends c))
same c = let u = c.args.useful.now in ap (max c.args.number) (useful-most u.row.now u.held u.sets.now c.requires.0 (ends c))

pub returns-then-useful-number : goal.returns-then-useful-number
returns-then-useful-number c =
    let u = c.args.useful.now in
    omega (arith, most_of_largest u.row.now u.held u.sets.now c.requires.0 c.requires.1.narrow (ends (goal.at.returns-then-useful-number c).Start), u.largest)

pub returns-then-common-number : goal.returns-then-common-number
returns-then-common-number c =
    let at = (goal.at.returns-then-common-number c).Start in
    let is = c.requires.0 in
    stays_replaced c.args.useful.now.row.now is.rest is.lives (ends at) c.args.number is.kept-is c.if-common-number.true c.common.ensures c.requires.4 ∙ same at

pub returns-then-most_common-number : goal.returns-then-most_common-number
returns-then-most_common-number c =
    let u = c.args.useful.now in
    let few = most_of_all u.row.now u.held u.sets.now c.requires.0 (ends (goal.at.returns-then-most_common-number c).Start) c.requires.4 in
    omega (arith, few, c.most_common.ensures)

pub raised_by_sets-requires : goal.raised_by_sets-requires
raised_by_sets-requires c =
    let u = c.args.useful.now in
    let found = c.replaced_sets in
    let part = lent_first c.args.count found.new.sets ∙ found.ensures.1 in
    part_bounded u.row.now u.held u.sets.now c.requires.0 (ends (goal.at.raised_by_sets-requires c).Start) part c.requires.4

pub returns : goal.returns
returns c =
    let found = c.replaced_sets in
    let part = lent_first c.args.count found.new.sets ∙ found.ensures.1 in
    c.raised_by_sets.ensures ∙ ap (λ (vs : List ℕ). max c.args.number (sets_most c.args.useful.now.sets.now vs)) part
