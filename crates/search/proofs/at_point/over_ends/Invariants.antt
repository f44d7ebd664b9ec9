-- `at_point::over_ends` meets its contract: after e turns the first e replaced sets are met. Assumes nothing.
use Rattle.search.specs.Search.{Raised, Below, AtEnd}
use Rattle.search.proofs.at_point.over_ends.Given as goal

abbrev pub invariant-loop-e : goal.invariant-loop-e
invariant-loop-e l = Raised (Below (λ x. x.ending) l.e (AtEnd l.point l.live l.set l.sets)) l.initial.found l.found
