-- `BlockReferences::with_reference` meets its contract: the place of a memory block is below n, so it is a cell of both rows. Assumes nothing.
use mathlib.Core.Path.{ap, ap₂, ◌∙◌}
use Prim.Native.Nat.{ℕ, ◌<◌}
use native.Mathlib.Omega.{arith}
use native.Mathlib.Nat.{mod-lt}
use lib.ListN.{set}
use Rattle.cache.specs.Cache.{held}
use Rattle.cache.specs.Firsts.{first_of}
use Rattle.cache.specs.Shape.{shaped}
use Rattle.cache.proofs.SoFarLaws.{one_more}
use Rattle.cache.proofs.references.BlockReferences.with_reference.Goals as goal
use Rattle.cache.proofs.references.BlockReferences.with_reference.Goals.{After-cache_block-c}

-- the cache block that was found is a cell of both rows
inside : (c : After-cache_block-c) → c.cache_block-c.result.0 < 32
inside c = omega (arith, c.cache_block-c.ensures, c.requires.0.room, mod-lt c.args.m.0 c.requires.0.some)

pub first_of-kept-requires : goal.first_of-kept-requires
first_of-kept-requires c =
    let found = c in
    omega (arith, inside (goal.at.first_of-kept-requires c).After-cache_block-c, found.requires.1)

pub with_reference-requires : goal.with_reference-requires
with_reference-requires c =
    let found = c in
    omega (arith, inside (goal.at.with_reference-requires c).After-cache_block-c, found.requires.1)

pub with_reference-requires-2 : goal.with_reference-requires-2
with_reference-requires-2 c =
    let found = c in
    omega (arith, inside (goal.at.with_reference-requires-2 c).After-cache_block-c, found.requires.2)

pub returns : goal.returns
returns c =
    let found = c in
    let args = found.args in
    let k = shaped 32 args.shape in
    let m = args.m.0 in
    let cells = args.first.now in
    let place = found.cache_block-c.ensures in
    let first = c.with_reference.ensures
    ∙ ap₂ (set cells) place (c.first_of-kept.ensures ∙ ap (λ (at : ℕ). first_of (held cells at) m) place) in
    let last = c.with_reference-2.ensures ∙ ap (λ (at : ℕ). set args.last.now at m) place in
    (first, last, one_more k m first last)
