-- `totals::total_run` and `totals::total_list`, which call each other, meet their contracts. The measure is the depth that is left first, and then what
-- is left of the list.
-- The idea: a list makes the references up to the point of its first run, those of that run, and those of the list that is left. Assumes nothing.
use Rattle.nested_replay.proofs.TotalLaws.{run_measure, list_measure}
use Rattle.nested_replay.proofs.totals.+total_list_total_run.Given as goal

abbrev pub decreases-total_list : goal.decreases-total_list
decreases-total_list l = list_measure l.deep l.left

abbrev pub decreases-total_run : goal.decreases-total_run
decreases-total_run l = run_measure l.deep
