-- `complete::steps_to_end` meets its contract: what is left of the path leads to the end just where the whole path is complete. Assumes nothing.
use mathlib.Core.Path.{◌≡◌}
use Prim.Native.Nat.{◌<◌}
use lib.ListN.{drop}
use Rattle.sheet.specs.Parsed.{leads_by_sets, complete_by_sets}
use Rattle.sheet.proofs.complete.steps_to_end.Given as goal

abbrev pub invariant-loop-step : goal.invariant-loop-step
invariant-loop-step l = (l.b < l.blocks) × (leads_by_sets l.sets l.blocks l.b (drop l.step-index l.steps) ≡ complete_by_sets l.sets l.blocks l.path)
