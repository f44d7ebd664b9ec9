-- `rules::list_end` and `rules::run_end`, which call each other, meet their contracts: a run is its head and its list, a list its first run and the rest.
-- The measure is the depth left first, eighteen to a level, and then the runs left of the list: at most sixteen, so that a list lies below its run.
-- Assumes nothing.
use Rattle.std.proofs.Common.{◌+◌, ◌*◌}
use Rattle.nested_sheet.proofs.rules.+list_end_run_end.Given as goal

abbrev pub decreases-list_end : goal.decreases-list_end
decreases-list_end l = 18 * l.deep + l.left

abbrev pub decreases-run_end : goal.decreases-run_end
decreases-run_end l = 18 * l.deep + 17
