-- `round::offer_row` meets its contract: the row is overlaid as it leaves its block, in a room of its own, and offered on. Assumes nothing.
use mathlib.Core.Path.{sym, ap, ◌∙◌}
use Prim.Native.Nat.{ℕ, ◌*◌}
use native.Mathlib.Omega.{arith}
use lib.ListN.{length, replicate}
use Rattle.rows.specs.Overlay.{overlay}
use Rattle.rows.proofs.Overlays.{length-overlay}
use Rattle.rows.proofs.Parts.{lent_front, front_long, front_room}
use Rattle.gather.proofs.Handing.{memory_for}
use Rattle.uncovered.proofs.Taking.{on_as, too_full}
use Rattle.uncovered.proofs.round.offer_row.Goals as goal

pub filled_row-requires : goal.filled_row-requires
filled_row-requires c = c.requires.3.width

pub returns-then-rank-filled_row : goal.returns-then-rank-filled_row
returns-then-rank-filled_row c = too_full (length c.args.row.now) c.args.rank c.args.set c.args.blocks c.args.row.now c.args.over.now c.args.entering.now c.args.rows.now c.args.counts.now (omega (arith, c.filled_row.ensures, c.if-rank-filled_row.true)) c.requires.3

pub slice_bounds-offer_on-end : goal.slice_bounds-offer_on-end
slice_bounds-offer_on-end c = omega (arith, front_room (length c.args.row.now) (replicate 32 0) (overlay c.args.row.now c.args.over.now) c.overlay_row.ensures (length-overlay c.args.row.now c.args.over.now))

pub offer_on-requires : goal.offer_on-requires
offer_on-requires c =
    let long = front_long (length c.args.row.now) (replicate 32 0) (overlay c.args.row.now c.args.over.now) c.overlay_row.ensures (length-overlay c.args.row.now c.args.over.now) in
    (c.requires.0, c.requires.2 ∙ ap (λ (n : ℕ). 24 * n) (sym long), memory_for long c.requires.3)

pub returns : goal.returns
returns c =
    on_as (length c.args.row.now) c.args.rank c.args.set c.args.blocks _ (overlay c.args.row.now c.args.over.now) c.args.entering.now c.args.rows.now c.args.counts.now
    (lent_front (length c.args.row.now) (replicate 32 0) (overlay c.args.row.now c.args.over.now) c.overlay_row.ensures (length-overlay c.args.row.now c.args.over.now))
    (length-overlay c.args.row.now c.args.over.now) c.offer_on.ensures
