-- `gather_trails::note` meets its contract: the blocks below the turn are noted. Assumes nothing.
use Prim.Native.Nat.{◌+◌, ◌*◌, ◌<◌}
use native.Mathlib.Numerals.{add-one}
use native.Mathlib.Omega.{arith}
use lib.ListN.{get_or, length-set}
use Rattle.trails.proofs.NoteLaws.{begin_noting, noting_skip, noting_turn, end_noting}
use Rattle.trails.proofs.gather_trails.note.Goals as goal
use Rattle.trails.proofs.gather_trails.note.Goals.{Then-k-counts, else-k-counts, then-k-counts}

pub loop-s-init : goal.loop-s-init
loop-s-init c = (omega arith, begin_noting _ _ _ _ _ c.requires.2)

-- the place of the new row
place : (c : Then-k-counts) → 32 * c.loop-s.s + get_or c.args.before c.loop-s.s 0 < 768
place c = omega (arith, c.if-k-counts.true, c.loop-s-test.true, c.requires.5 c.loop-s.s c.loop-s-test.true)

pub overflow_add-at : goal.overflow_add-at
overflow_add-at c = omega (arith, place c)

pub offset_bounds-trails-at : goal.offset_bounds-trails-at
offset_bounds-trails-at c = omega (arith, place c)

pub bounds-trails-at : goal.bounds-trails-at
bounds-trails-at c = omega (arith, place c, c.loop-s.invariant.1.places.long)

pub overflow_add-trails : goal.overflow_add-trails
overflow_add-trails c = omega (arith, place c)

pub offset_bounds-trails-at-then-k-counts : goal.offset_bounds-trails-at-then-k-counts
offset_bounds-trails-at-then-k-counts c = omega (arith, place c)

pub bounds-trails-at-then-k-counts : goal.bounds-trails-at-then-k-counts
bounds-trails-at-then-k-counts c = simp length-set (omega (arith, place c, c.loop-s.invariant.1.places.long))

pub loop-s-preserved : goal.loop-s-preserved
loop-s-preserved c =
    let start = c in
    let args = start.args in
    let at = c.loop-s in
    let inside = c.loop-s-test.true in
    let long = get_or args.trails.now (768 + args.from) 0 + 1 in (
      omega (arith, inside),
      elim c.if-k-counts.branch [
        | then-k-counts w ↦ rw w.trails-is (noting_turn args.from long at.s args.before args.counts.now args.trails.now at.trails inside start.requires.4 start.requires.5 at.invariant.1 w.if-k-counts.true start.requires.0)
        | else-k-counts w ↦ rw w.trails-is (noting_skip args.from long at.s args.before args.counts.now args.trails.now at.trails inside start.requires.4 start.requires.5 at.invariant.1 w.if-k-counts.false)
      ],
    )

pub returns : goal.returns
returns c =
    let start = c in
    let at = c.loop-s in
    end_noting start.args.from _ at.s start.args.before start.args.counts.now start.args.trails.now at.trails c.loop-s-test.false (add-one _) at.invariant.1
