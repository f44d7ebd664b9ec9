-- `at_point::over_ends` meets its contract: after e turns the first e replaced sets are met. Assumes nothing.
use Prim.Native.Nat.{◌^◌, ◌<◌}
use native.Mathlib.Omega.{arith}
use borrow.Author.Rules.{rules}
use Rattle.search.specs.Search.{Raised, AtEnd}
use Rattle.search.proofs.Raising.{raised_none, end-few, end_raised, end_kept, end_more, set_skipped}
use Rattle.search.proofs.at_point.over_ends.Goals as goal
use Rattle.search.proofs.at_point.over_ends.Goals.{else-found-cost, then-found-cost}

pub returns-then-set-old : goal.returns-then-set-old
returns-then-set-old c =
    let args = c.args in
    let fits : args.set < 2 ^ 32 = search rules in
    set_skipped args.point args.live args.set args.sets.now args.old fits c.if-set-old.true

pub loop-e-init : goal.loop-e-init
loop-e-init c = let args = c.args in raised_none (λ x. x.ending) (AtEnd args.point args.live args.set args.sets.now) args.old

pub overflow_add-cost : goal.overflow_add-cost
overflow_add-cost c =
    let args = c.args in
    let fits : args.set < 2 ^ 32 = search rules in
    omega (arith, end-few args.point args.live args.set args.sets.now c.loop-e.e fits c.common-cost.ensures)

pub loop-e-preserved : goal.loop-e-preserved
loop-e-preserved c =
    let at = c.loop-e in
    let args = c.args in
    let count = c.common-cost.ensures in
    let met : Raised (AtEnd args.point args.live args.set args.sets.now at.e) at.found c.if-found-cost.found
    = elim c.if-found-cost.branch [
      | then-found-cost w ↦ end_raised args.point args.live args.set args.sets.now at.e at.found count w.if-found-cost.true w.found-is
      | else-found-cost w ↦ end_kept args.point args.live args.set args.sets.now at.e at.found count (omega arith) w.found-is
    ] in
    end_more args.point args.live args.set args.sets.now at.e at.invariant met
