-- `gather::hand_to` meets its contract: the row is overlaid in a room of its own and appended. Assumes nothing.
use lib.ListN.{length, replicate}
use Rattle.rows.specs.Overlay.{overlay}
use Rattle.rows.proofs.Overlays.{length-overlay}
use Rattle.rows.proofs.Parts.{lent_front, front_long}
use Rattle.gather.proofs.Handing.{memory_for, appended_as}
use Rattle.gather.proofs.gather.hand_to.Goals as goal

pub append_to-requires : goal.append_to-requires
append_to-requires c = let start = c in (start.requires.0, memory_for (front_long (length c.args.left.now) (replicate 32 0) (overlay c.args.left.now c.args.over.now) c.overlay_row.ensures (length-overlay c.args.left.now c.args.over.now)) start.requires.2)

pub returns : goal.returns
returns c =
    let args = c.args in
    appended_as (length args.left.now) args.s _ (overlay args.left.now args.over.now) args.rows.now args.counts.now
    (lent_front (length c.args.left.now) (replicate 32 0) (overlay c.args.left.now c.args.over.now) c.overlay_row.ensures (length-overlay c.args.left.now c.args.over.now)) (length-overlay args.left.now args.over.now) c.append_to.ensures
