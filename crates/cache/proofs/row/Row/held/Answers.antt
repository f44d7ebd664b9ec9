-- `Row::held` meets its contract: what is read is what the cache block holds. Assumes nothing.
use mathlib.Core.Path.{ap, ◌∙◌}
use Prim.Native.Nat.{◌<◌}
use borrow.Author.Rules.{rules}
use lib.ListN.{length}
use Rattle.cache.specs.Cache.{held}
use Rattle.cache.proofs.Cells.{cell_held}
use Rattle.cache.proofs.row.Row.held.Goals as goal

pub returns : goal.returns
returns c =
    let index = c in
    let cells = index.args.cells.now in
    let inside : index.index-at.result < length cells = search rules in
    cell_held cells index.index-at.result inside ∙ ap (held cells) index.index-at.ensures
