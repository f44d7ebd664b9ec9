-- The proof of the cycle `checks::check_list`, `checks::check_run`: a list is told of by its first point, the run there and the rest, and a run by its
-- path and its list. The measure is the depth that is left first, and then what is left of the list. Assumes nothing.
use Rattle.std.proofs.Common.{◌+◌, ◌*◌}
use Rattle.nested_replay.proofs.checks.+check_list_check_run.Given as goal

abbrev pub decreases-check_list : goal.decreases-check_list
decreases-check_list l = 131072 * l.deep + l.left

abbrev pub decreases-check_run : goal.decreases-check_run
decreases-check_run l = 131072 * l.deep + 65536
