-- `replay_cache::referred` meets its contract: the place of a memory block is a cell of the row, and a miss is a cell that holds another. Assumes nothing.
use mathlib.Core.Path.{◌≡◌, refl, ap, ◌∙◌}
use Prim.Native.Nat.{ℕ, ◌<◌}
use native.Mathlib.Nat.{mod-lt}
use native.Mathlib.Omega.{arith}
use lib.ListN.{length, set}
use Rattle.cache.specs.Cache.{held, with_reference}
use Rattle.cache.specs.Shape.{shaped}
use Rattle.runs.proofs.CacheLaws.{reference_missed, reference_hit}
use Rattle.runs.proofs.replay_cache.referred.Goals as goal
use Rattle.runs.proofs.replay_cache.referred.Goals.{After-cache_block-c, After-held-old, After-with_reference}

-- the cache block that was found is a cell of the row
placed : (c : After-cache_block-c) → c.cache_block-c.result.0 < length c.args.cells.now
placed c = omega (arith, c.cache_block-c.ensures, mod-lt c.args.m.0 c.requires.0.some, c.requires.0.room, c.requires.2)

-- what the place held, and the row after the reference
was : (c : After-held-old) → let args = c.args in c.held-old.result ≡ held args.cells.now ((shaped 32 args.shape).place args.m.0)
was c = c.held-old.ensures ∙ ap (held c.args.cells.now) c.cache_block-c.ensures

next : (c : After-with_reference)
    → let args = c.args in
    c.with_reference.new.cells ≡ with_reference (shaped 32 args.shape) args.cells.now args.m.0
next c =
    let args = c.args in
    c.with_reference.ensures ∙ ap (λ (at : ℕ). set args.cells.now at args.m.0) c.cache_block-c.ensures

pub held-old-requires : goal.held-old-requires
held-old-requires c = placed (goal.at.held-old-requires c).After-cache_block-c

pub with_reference-requires : goal.with_reference-requires
with_reference-requires c = placed (goal.at.with_reference-requires c).After-cache_block-c

pub returns-then-old-v : goal.returns-then-old-v
returns-then-old-v c =
    let row = c in
    let args = row.args in
    reference_hit (shaped 32 args.shape) args.m.0 args.misses args.cells.now (was (goal.at.returns-then-old-v c).After-held-old) c.number-v.ensures (next (goal.at.returns-then-old-v c).After-with_reference) c.if-old-v.true refl

pub returns-else-old-v : goal.returns-else-old-v
returns-else-old-v c =
    let row = c in
    let args = row.args in
    reference_missed (shaped 32 args.shape) args.m.0 args.misses args.cells.now (was (goal.at.returns-else-old-v c).After-held-old) c.number-v.ensures (next (goal.at.returns-else-old-v c).After-with_reference) c.if-old-v.false refl
