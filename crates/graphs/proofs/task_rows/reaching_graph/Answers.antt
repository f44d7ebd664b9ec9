-- `task_rows::reaching_graph` meets its contract: the row that it begins with is the first of the last references. Assumes nothing.
use mathlib.Core.Path.{refl}
use Rattle.graphs.proofs.Gathered.{first-row, first-wide, same_graph}
use Rattle.graphs.proofs.task_rows.reaching_graph.Goals as goal

pub returns : goal.returns
returns c =
    let args = c.args in
    same_graph (first-wide args.w args.last.now c.requires.0) refl c.requires.1 refl (first-row args.w args.last.now)
