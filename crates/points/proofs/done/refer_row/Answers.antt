-- `done::refer_row` meets its contract: the reference goes to a place of the row. Assumes nothing.
use mathlib.Core.Path.{◌≡◌, sym, ap, ap₂, ◌∙◌}
use Prim.Native.Nat.{◌<◌}
use native.Mathlib.Nat.{mod-lt}
use native.Mathlib.Omega.{arith}
use lib.ListN.{length, get_or, set}
use Rattle.cache.specs.References.{numbers}
use Rattle.cache.specs.Shape.{shaped}
use Rattle.cache.proofs.NumberLaws.{get_d_numbers}
use Rattle.points.proofs.done.refer_row.Goals as goal
use Rattle.points.proofs.done.refer_row.Goals.{After-cache_block}

-- the reference goes to a place of the row
placed : (c : After-cache_block) → c.cache_block.result.0 < length c.args.row.now
placed c =
    let start = c in
    omega (arith, c.cache_block.ensures, mod-lt c.new-m.result.0 start.requires.1.some, start.requires.1.room)

pub with_reference-requires : goal.with_reference-requires
with_reference-requires c = placed c

pub returns : goal.returns
returns c =
    let found = c in
    let start = found in
    let s = start.args.references.now in
    let i = start.args.i in
    let m : found.new-m.result.0 ≡ get_or (numbers s) i 0
    = found.new-m.ensures ∙ found.number_at.ensures ∙ sym (get_d_numbers s i (omega (arith, start.requires.0))) in
    c.with_reference.ensures
    ∙ ap₂ (set start.args.row.now) (found.cache_block.ensures ∙ ap (shaped (length start.args.row.now) start.args.shape).place m) m
