-- `round::offer_to` meets its contract: the row is overlaid in a room of its own and offered. Assumes nothing.
use native.Mathlib.Omega.{arith}
use lib.ListN.{length, replicate}
use Rattle.rows.specs.Overlay.{overlay}
use Rattle.rows.proofs.Overlays.{length-overlay}
use Rattle.rows.proofs.Parts.{lent_front, front_long, front_room}
use Rattle.gather.proofs.Handing.{memory_for}
use Rattle.uncovered.proofs.Taking.{taken_as}
use Rattle.uncovered.proofs.round.offer_to.Goals as goal

pub slice_bounds-offer-end : goal.slice_bounds-offer-end
slice_bounds-offer-end c = omega (arith, front_room (length c.args.left.now) (replicate 32 0) (overlay c.args.left.now c.args.over.now) c.overlay_row.ensures (length-overlay c.args.left.now c.args.over.now))

pub offer-requires : goal.offer-requires
offer-requires c = (c.requires.0, memory_for (front_long (length c.args.left.now) (replicate 32 0) (overlay c.args.left.now c.args.over.now) c.overlay_row.ensures (length-overlay c.args.left.now c.args.over.now)) c.requires.2)

pub returns : goal.returns
returns c =
    taken_as (length c.args.left.now) c.args.rank c.args.s _ (overlay c.args.left.now c.args.over.now) c.args.rows.now c.args.counts.now
    (lent_front (length c.args.left.now) (replicate 32 0) (overlay c.args.left.now c.args.over.now) c.overlay_row.ensures (length-overlay c.args.left.now c.args.over.now))
    (length-overlay c.args.left.now c.args.over.now) c.offer.ensures
