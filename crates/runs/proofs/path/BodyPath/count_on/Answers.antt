-- `path::BodyPath::count_on` meets its contract: two bytes for each reference. Assumes nothing.
use mathlib.Core.Path.{ap, sym, ◌∙◌}
use lib.ListN.{length}
use Rattle.cache.proofs.NumberLaws.{length-numbers}
use Rattle.runs.proofs.path.BodyPath.count_on.Goals as goal

pub returns : goal.returns
returns c = let got = c.references_on in sym (length-numbers got.result.now) ∙ ap length got.ensures
