-- `checks::point_unmasked` meets its contract: the number with the block's bit alone meets the set. Assumes nothing.
use mathlib.Core.Path.{ap, ◌∙◌}
use mathlib.Core.Bool.{not}
use native.Mathlib.Omega.{arith}
use lib.Bits.{bit_and}
use lib.Dec.{eqb}
use Rattle.cache.specs.Sets.{in_set}
use Rattle.cache.proofs.Masks.{one_at}
use Rattle.nested_replay.proofs.checks.point_unmasked.Goals as goal

pub returns : goal.returns
returns c =
    let set = c.args.set in
    ap (λ b. not (eqb (bit_and set b) 0)) (one_at 32 c.from-block.result (omega arith)) ∙ ap (in_set set) c.from-block.ensures
