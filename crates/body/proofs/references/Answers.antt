-- `references` meets its contract.
use mathlib.Core.Path.{ap}
use Prim.Native.Nat.{ℕ, ◌+◌, ◌*◌}
use Rattle.body.proofs.WalksParts.{part_is}
use Rattle.body.proofs.references.Goals as goal

pub returns : goal.returns
returns c =
    let args = c.args in
    let start = ap (λ (n : ℕ). args.at + 3 + n) c.from.ensures in
    part_is args.body.now start (ap (λ (n : ℕ). 2 * n) c.from-2.ensures)
