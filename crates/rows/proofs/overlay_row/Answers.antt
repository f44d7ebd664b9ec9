-- `rows::overlay_row` meets its contract: after h turns the first h chunks are overlaid. Assumes nothing.
use mathlib.Core.Path.{refl, sym, ◌∙◌}
use Prim.Native.Nat.{◌+◌, ◌*◌}
use native.Mathlib.Omega.{arith}
use borrow.Author.Rules.{rules}
use lib.ListN.{length-take, length-drop}
use Rattle.rows.specs.Overlay.{overlay}
use Rattle.rows.proofs.Overlays.{length-overlay}
use Rattle.rows.proofs.Chunks.{put_turn, put-end, overlay_chunk}
use Rattle.rows.proofs.overlay_row.Goals as goal

pub loop-h-init : goal.loop-h-init
loop-h-init c = (omega arith, search rules, refl)

pub overlay_chunk-chunk-requires : goal.overlay_chunk-chunk-requires
overlay_chunk-chunk-requires c = simp (length-take, length-drop) (omega arith)

pub loop-h-preserved : goal.loop-h-preserved
loop-h-preserved c =
    let start = c in
    let at = c.loop-h in
    let row = start.args.row.now in
    let over = start.args.over.now in
    let long = length-overlay row over in
    let next = put_turn 16 (16 * at.h) (16 * (at.h + 1)) at.out (overlay row over) (omega arith) (omega arith) (long ∙ sym at.invariant.1) at.invariant.2
    (overlay_chunk 16 (16 * at.h) row over (sym start.requires.1) c.chunk_at.ensures c.overlay_chunk-chunk.ensures) c.store_chunk.ensures in
    (omega arith, next.0 ∙ long, next.1)

pub returns : goal.returns
returns c =
    let start = c in
    let at = c.loop-h in
    put-end (16 * at.h) at.out (overlay start.args.row.now start.args.over.now) (omega arith) (length-overlay start.args.row.now start.args.over.now ∙ omega arith) at.invariant.2
