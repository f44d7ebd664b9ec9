-- `part::last_point` meets its contract: the number of references is that of the last block. Assumes nothing.
use mathlib.Core.Path.{ap}
use Prim.Native.Nat.{ℕ, ◌-◌}
use lib.ListN.{length}
use Rattle.runs.proofs.part.last_point.Goals as goal

pub returns : goal.returns
returns c = ap (λ (d : ℕ). record { position = length c.args.on.now.path.now - 1; done = d }) c.count_on-done.ensures
