-- `counts::empty_runs` meets its contract: both rows hold nothing. Assumes nothing.
use mathlib.Core.Path.{ap}
use mathlib.Core.List.{List}
use Prim.Native.Nat.{ℕ}
use Rattle.cache.specs.References.{nothing}
use Rattle.runs.specs.Running.{row_count, both}
use Rattle.replay.proofs.counts.empty_runs.Goals as goal

pub returns : goal.returns
unfolding nothing
returns c = ap (λ (row : List ℕ). both (row_count row 0) (row_count row 0) 0) c.cells-cells.ensures
