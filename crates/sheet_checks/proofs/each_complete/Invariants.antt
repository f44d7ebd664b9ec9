-- `each_complete` meets its contract: the paths that are left are complete just where all are. Assumes nothing.
use Prim.Native.Nat.{◌-◌}
use lib.ListN.{length}
use Rattle.project.specs.Tasks.{tasks_of}
use Rattle.sheet.specs.Parsed.{complete_by}
use Rattle.sheet_checks.proofs.SheetLaws.{EachLeft}
use Rattle.sheet_checks.proofs.each_complete.Given as goal

abbrev pub invariant-loop-at : goal.invariant-loop-at
invariant-loop-at l = EachLeft (complete_by (tasks_of l.file)) l.file l.sheet l.at

abbrev pub decreases-loop-at : goal.decreases-loop-at
decreases-loop-at l = length l.sheet - l.at
