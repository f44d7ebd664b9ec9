-- `done::hits_next` meets its contract: what the row holds where the mapping takes the reference is compared with it. Assumes nothing.
use mathlib.Core.Path.{◌≡◌, sym, ap, ap₂, ◌∙◌}
use Prim.Native.Nat.{◌<◌}
use native.Mathlib.Nat.{mod-lt}
use native.Mathlib.Omega.{arith}
use lib.Dec.{eqb}
use lib.ListN.{length, get_or}
use borrow.Author.Tests.{lt-ltb, le-ltb}
use Rattle.cache.specs.References.{numbers}
use Rattle.cache.specs.Cache.{held}
use Rattle.cache.specs.Shape.{shaped}
use Rattle.cache.proofs.NumberLaws.{length-numbers, get_d_numbers}
use Rattle.points.proofs.done.hits_next.Goals as goal
use Rattle.points.proofs.done.hits_next.Goals.{After-cache_block}

-- the reference goes to a place of the row
placed : (c : After-cache_block) → c.cache_block.result.0 < length c.args.row.now
placed c =
    let start = c in
    omega (arith, c.cache_block.ensures, mod-lt c.new-m.result.0 start.requires.some, start.requires.room)

pub returns-then-references-d : goal.returns-then-references-d
returns-then-references-d c =
    let args = c.args in
    sym (rw (le-ltb args.d (length (numbers args.references.now)) (omega (arith, c.if-references-d.true, length-numbers args.references.now))))

pub held-requires : goal.held-requires
held-requires c = placed c

pub returns : goal.returns
returns c =
    let found = c in
    let start = found in
    let s = start.args.references.now in
    let d = start.args.d in
    let test = found in
    let low : d < length (numbers s) = omega (arith, test.if-references-d.false, length-numbers s) in
    let m : found.new-m.result.0 ≡ get_or (numbers s) d 0
    = found.new-m.ensures ∙ found.number_at.ensures ∙ sym (get_d_numbers s d (omega (arith, test.if-references-d.false))) in
    rw (lt-ltb d (length (numbers s)) low)
    (ap₂ eqb (c.held.ensures ∙ ap (held start.args.row.now) (found.cache_block.ensures ∙ ap (shaped (length start.args.row.now) start.args.shape).place m)) (c.number.ensures ∙ m))
