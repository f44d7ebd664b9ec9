-- `before::over_done` meets its contract: the references that are done are made in a copy of the row. Assumes nothing.
use mathlib.Core.Path.{◌≡◌, ap, subst, ◌∙◌}
use mathlib.Core.List.{List}
use Prim.Native.Nat.{ℕ, ◌-◌}
use borrow.Rule.Slice.PartMut.{put_mid}
use lib.ListN.{length, take, replicate}
use Rattle.cache.specs.Cache.{with_references}
use Rattle.cache.specs.Shape.{shaped}
use Rattle.cache.proofs.Rows.{length-with_references}
use Rattle.rows.proofs.Parts.{lent_front}
use Rattle.block_rows.specs.BlockRows.{cache_of, references_of, listed}
use Rattle.search.specs.Search.{Raised, OfRow}
use Rattle.search.proofs.DoneRows.{done_made}
use Rattle.search.proofs.before.over_done.Goals as goal

pub returns : goal.returns
returns c =
    let args = c.args in
    let block = args.block.now in
    let k = cache_of block in
    let w = block.w in
    let d = args.point.done in
    let ms = references_of block in
    let row = args.row.now in
    let wide = c.requires.1 in
    let done = with_references k row (take d ms) in
    let copy = lent_front w (replicate 32 0) row c.copy_row.ensures wide in
    let made : c.refer_first.new.row ≡ done
    = done_made block.shape ms d row copy c.refer_first.ensures ∙ ap (λ (n : ℕ). with_references (shaped n block.shape) row (take d ms)) wide in
    let long : length done ≡ w = length-with_references k (take d ms) row wide in
    subst (λ (r : List ℕ). Raised (OfRow args.point r (listed args.rows.now.live) (listed args.rows.now.ends)) args.old c.over_row.result)
    (lent_front w (put_mid 0 (w - 0) (replicate 32 0) c.copy_row.new.out) done made long) c.over_row.ensures
