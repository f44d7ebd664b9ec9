-- `gather::hand_on` meets its contract: the blocks of the set before the next one have the row that they get. Assumes nothing.
-- The idea: between a block of the set and the next one none is in the set.
use mathlib.Core.Path.{refl, ap}
use Prim.Native.Nat.{◌+◌}
use native.Mathlib.Omega.{arith}
use lib.ListN.{length, length-take, length-drop}
use Rattle.rows.specs.Overlay.{overlay}
use Rattle.rows.proofs.Parts.{row_within}
use Rattle.gather.specs.Memory.{Handed}
use Rattle.gather.proofs.Handing.{part_at, handed-none, handed_past, handed_in, handed_full, handed-all, handed_stop}
use Rattle.gather.proofs.gather.hand_on.Goals as goal
use Rattle.gather.proofs.gather.hand_on.Goals.{At-loop-s}

-- the blocks before the next one have their rows
now-at : (c : At-loop-s)
    → let args = c.args in
    Handed (length args.left.now) args.set args.left.now args.entering.now c.loop-s.s args.rows.now args.counts.now c.loop-s.rows c.loop-s.counts
now-at c =
    let args = c.args in
    let next = c.loop-s.invariant.2 in
    handed_past (length args.left.now) args.set args.left.now args.blocks args.entering.now args.rows.now args.counts.now c.loop-s.invariant.0 c.loop-s.s next.after next.between c.loop-s.invariant.3

pub loop-s-init : goal.loop-s-init
loop-s-init c =
    let start = c in
    let args = start.args in
    (0, omega arith, c.next_in-s.ensures, handed-none (length args.left.now) args.set args.left.now args.blocks args.entering.now args.rows.now args.counts.now start.requires.2)

pub overflow_mul-at : goal.overflow_mul-at
overflow_mul-at c = omega (arith, c.requires.2.width.narrow, row_within (length c.args.left.now) c.loop-s.s 24 (omega arith))

pub overflow_add-at : goal.overflow_add-at
overflow_add-at c = omega (arith, c.requires.2.width.narrow, row_within (length c.args.left.now) c.loop-s.s 24 (omega arith))

pub offset_bounds-entering-at : goal.offset_bounds-entering-at
offset_bounds-entering-at c = omega (arith, c.requires.2.width.narrow, row_within (length c.args.left.now) c.loop-s.s 24 (omega arith))

pub hand_to-requires : goal.hand_to-requires
hand_to-requires c =
    let start = c in
    let at = c.loop-s in
    (omega arith, simp (length-take, length-drop) (omega (arith, row_within (length start.args.left.now) at.s 24 (omega arith))), at.invariant.3.memory)

pub returns-then-hand_to : goal.returns-then-hand_to
returns-then-hand_to c =
    let at = c.loop-s in
    let args = c.args in
    let w = length args.left.now in
    handed_stop w args.set args.left.now args.blocks args.entering.now args.rows.now args.counts.now (handed_full w args.set args.left.now args.blocks args.entering.now args.rows.now args.counts.now at.s (omega arith) (now-at (goal.at.returns-then-hand_to c).At-loop-s)
    (ap (overlay args.left.now) (part_at w at.s args.entering.now)) (at.invariant.2.member (omega arith)) c.hand_to.ensures (omega arith) c.if-hand_to.true)

pub loop-s-smaller : goal.loop-s-smaller
loop-s-smaller c = omega (arith, c.next_in-s-in-loop-s.ensures.after)

pub loop-s-preserved : goal.loop-s-preserved
loop-s-preserved c =
    let at = c.loop-s in
    let args = c.args in
    let w = length args.left.now in (
      at.s + 1,
      omega arith,
      c.next_in-s-in-loop-s.ensures,
      handed_in w args.set args.left.now args.blocks args.entering.now args.rows.now args.counts.now at.s (omega arith) (now-at (goal.at.loop-s-preserved c).At-loop-s)
          (ap (overlay args.left.now) (part_at w at.s args.entering.now)) (at.invariant.2.member (omega arith)) c.hand_to.ensures c.if-hand_to.false,
    )

pub returns : goal.returns
returns c =
    let at = c.loop-s in
    let args = c.args in
    let w = length args.left.now in
    handed-all w args.set args.left.now args.blocks args.entering.now args.rows.now args.counts.now args.blocks refl (handed_past w args.set args.left.now args.blocks args.entering.now args.rows.now args.counts.now at.invariant.0 args.blocks at.invariant.1 (λ b l h. at.invariant.2.between b l (omega arith)) at.invariant.3)
