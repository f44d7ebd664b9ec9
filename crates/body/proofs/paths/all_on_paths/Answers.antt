-- `paths::all_on_paths` meets its contract: a block is on a complete path where it is in both sets. Assumes nothing.
use mathlib.Core.Path.{◌∙◌}
use native.Mathlib.Omega.{arith}
use Rattle.body.proofs.Turning.{turned-below}
use Rattle.body.proofs.Closures.{all-by-sets}
use Rattle.body.proofs.paths.all_on_paths.Goals as goal

pub closure-to_end-requires : goal.closure-to_end-requires
closure-to_end-requires c =
    let start = c in
    (omega arith, rw c.predecessors.ensures (turned-below start.args.sets start.args.count (omega arith)))

pub returns : goal.returns
returns c =
    let start = c in
    λ t h l j. c.has_all.ensures
    ∙ all-by-sets t h start.args.sets _ start.args.count _ _ l j c.predecessors.ensures c.closure-from_entry.ensures c.closure-to_end.ensures
