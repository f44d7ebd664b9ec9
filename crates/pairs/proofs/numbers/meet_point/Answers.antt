-- `numbers::meet_point` meets its contract: the useful sets are those of the live rows, and the numbers stay where none may be raised. Assumes nothing.
use mathlib.Core.Path.{◌≡◌, sym, ◌∙◌}
use Prim.Native.Nat.{◌≤◌}
use native.Mathlib.Omega.{arith}
use lib.ListN.{length, take}
use Rattle.row_sets.specs.Sets.{useful_sets}
use Rattle.row_sets.proofs.LaneSets.{lane_sets}
use Rattle.pairs.specs.Pairs.{live_rows}
use Rattle.pairs.proofs.UsefulSets.{lent_sets, lent_useful, met_as_is}
use Rattle.pairs.proofs.Meeting.{met_same}
use Rattle.pairs.proofs.numbers.meet_point.Goals as goal
use Rattle.pairs.proofs.numbers.meet_point.Goals.{After-useful_sets}

-- the sets are those of the live rows
made : (c : After-useful_sets) → let args = c.args in
    take args.lives.now.count c.useful_sets.new.sets ≡ useful_sets args.row.now args.rest.now (live_rows args.lives.now)
made c =
    let args = c.args in
    let lives = args.lives.now in
    let sets = c.useful_sets in
    let few : lives.count ≤ 32 = lives.are.few in
    let wide : lives.w ≡ length args.row.now = omega arith in
    rw wide (lane_sets args.row.now args.rest.now lives.lanes.now sets.new.sets lives.count (omega (arith, sets.ensures.0)) sets.ensures.1)

pub meet_sets-requires : goal.meet_sets-requires
meet_sets-requires c =
    let args = c.args in
    let is = made (goal.at.meet_sets-requires c).After-useful_sets in
    (lent_sets args.row.now args.rest.now (live_rows args.lives.now) args.lives.now.count c.useful_sets.new.sets is c.kept-held.ensures, c.requires.0, c.requires.3)

pub returns-then-may_raise_some : goal.returns-then-may_raise_some
returns-then-may_raise_some c =
    let args = c.args in
    let is = made (goal.at.returns-then-may_raise_some c).After-useful_sets in
    met_same args.ends.now args.ends.now.tasks
    (lent_useful args.row.now args.rest.now (live_rows args.lives.now) args.lives.now.count c.useful_sets.new.sets is) c.meet_sets.ensures

pub returns-else-may_raise_some : goal.returns-else-may_raise_some
returns-else-may_raise_some c =
    let args = c.args in
    met_as_is args.row.now args.rest.now args.ends.now args.numbers.now (live_rows args.lives.now) args.ends.now.tasks
    c.kept-held.ensures (sym c.may_raise_some.ensures ∙ c.if-may_raise_some.false)
