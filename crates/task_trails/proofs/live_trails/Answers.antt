-- `live_trails` meets its contract: the graph is made of the sets turned round and of the first references. Assumes nothing.
use mathlib.Core.Path.{refl, ap, ◌∙◌}
use Prim.Native.Nat.{◌*◌}
use native.Mathlib.Omega.{arith}
use lib.ListN.{length, length-replicate}
use Rattle.cache.specs.References.{nothing}
use Rattle.graphs.proofs.Gathered.{nothings}
use Rattle.task_trails.proofs.TaskTrailLaws.{same_trails}
use borrow.Author.Rules.{rules}
use Rattle.task_trails.proofs.live_trails.Goals as goal

pub gather_trails-requires : goal.gather_trails-requires
gather_trails-requires c = (search rules, c.requires.1)

pub returns : goal.returns
returns c =
    let start = c in
    let args = start.args in
    let row = nothings args.w 768 (omega (arith, start.requires.0.width.narrow)) in
    same_trails (ap length row ∙ length-replicate args.w nothing) c.predecessors-before.ensures refl
    (nothings (24 * args.w) 768 (omega (arith, start.requires.0.width.narrow))) row c.gather_trails.ensures
