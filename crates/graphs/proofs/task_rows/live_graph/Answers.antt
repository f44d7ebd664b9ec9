-- `task_rows::live_graph` meets its contract: the row that it begins with is empty. Assumes nothing.
use mathlib.Core.Path.{◌≡◌, refl, ap, ◌∙◌}
use Prim.Native.Nat.{◌*◌, ◌-◌}
use native.Mathlib.Omega.{arith}
use lib.ListN.{length, take, drop, replicate, length-replicate}
use Rattle.cache.specs.References.{nothing}
use Rattle.graphs.proofs.Gathered.{nothings, same_graph}
use Rattle.graphs.proofs.task_rows.live_graph.Goals as goal

pub returns : goal.returns
unfolding nothing
returns c =
    let w = c.args.w in
    let row : take (w - 0) (drop 0 c.args.none.now) ≡ replicate w nothing = rw c.requires.1 (nothings w (24 * w) (omega arith)) in
    same_graph (ap length row ∙ length-replicate w nothing) refl refl c.requires.1 row
