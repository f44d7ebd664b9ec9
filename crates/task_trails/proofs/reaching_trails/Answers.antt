-- `reaching_trails` meets its contract: the graph is made of the sets and of the last references. Assumes nothing.
use mathlib.Core.Path.{refl}
use Prim.Native.Nat.{◌*◌}
use native.Mathlib.Omega.{arith}
use Rattle.graphs.proofs.Gathered.{nothings, first-row, first-wide}
use Rattle.task_trails.proofs.TaskTrailLaws.{same_trails}
use borrow.Author.Rules.{rules}
use Rattle.task_trails.proofs.reaching_trails.Goals as goal

pub gather_trails-requires : goal.gather_trails-requires
gather_trails-requires c = (search rules, c.requires.1)

pub returns : goal.returns
returns c =
    let start = c in
    let args = start.args in
    same_trails (first-wide args.w args.last.now (omega (arith, start.requires.0.enters))) refl (nothings (24 * args.w) 768 (omega (arith, start.requires.0.width.narrow))) refl (first-row args.w args.last.now)
    c.gather_trails.ensures
