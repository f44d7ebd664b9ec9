-- `block::over_point` meets its contract: the live rows of the point are made, and the rows before the block are met with them. Assumes nothing.
use mathlib.Core.Path.{◌≡◌, refl, sym, ap, subst, ◌∙◌}
use mathlib.Core.List.{List}
use Prim.Native.Nat.{ℕ, ◌+◌, ◌*◌, ◌-◌}
use native.Mathlib.Omega.{arith}
use lib.ListN.{length, take, drop, replicate}
use Rattle.cache.proofs.NumberLaws.{length-numbers}
use Rattle.rows.specs.Rows.{rows_of}
use Rattle.rows.proofs.Parts.{lent_front, lent_long}
use Rattle.points.specs.Points.{left_rows, rest_of}
use Rattle.block_rows.specs.BlockRows.{cache_of, references_of, rows_by, listed}
use Rattle.search.specs.Search.{Raised, OfBefore}
use Rattle.search.proofs.BlockLaws.{rest_lent, left_is}
use Rattle.search.proofs.block.over_point.Goals as goal

pub returns : goal.returns
returns c =
    let args = c.args in
    let block = args.block.now in
    let live = args.rows.now.live in
    let k = cache_of block in
    let ms = references_of block in
    let w = block.w in
    let made = c.left_rows in
    let low = c.requires.0 in
    let wide : length (take (w * args.done + w - w * args.done) (drop (w * args.done) args.rests.now)) ≡ w
    = lent_long w args.done 17 args.rests.now (omega (arith, block.is.few)) c.requires.3.long in
    let room = lent_front (32 * w) (replicate 1024 0) made.new.out refl (made.ensures.0 ∙ ap (λ (n : ℕ). 32 * n) wide) in
    let rest = rest_lent k ms args.rests.now args.done c.requires.3 (omega (arith, length-numbers block.references.now)) in
    let is = left_is w live.count live.rows.now rest wide room made.ensures.1
    ∙ ap (λ (n : ℕ). left_rows (rest_of k ms args.done) (rows_of n live.count live.rows.now)) (sym c.requires.2) in
    subst (λ (ls : List (List ℕ)). Raised (OfBefore k ms block.number args.done block.before block.blocks (rows_by args.reaching.now) ls (listed args.rows.now.ends)) args.old
    c.over_before.result)
    is c.over_before.ensures
