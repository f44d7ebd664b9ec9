-- `gather_trails::gather_trails` meets its contract: it gathers as `gather` does, and each row that is new is noted after its turn. Assumes nothing.
use mathlib.Core.Path.{refl, sym, ap, ◌∙◌}
use mathlib.Core.Bool.{true≢false}
use Prim.Native.Nat.{◌+◌, ◌*◌, ◌<◌}
use native.Mathlib.Omega.{arith}
use lib.ListN.{length, get_or, set}
use Rattle.gather.specs.Gathered.{graph_of}
use Rattle.gather.proofs.Gathering.{Gathering, rest_less, cleared, begin_gathering, begin_waiting, next_turn, end_full, end_through}
use Rattle.trails.proofs.TrailLaws.{no_trails-long, begin_trails, next_trails, trail_few}
use Rattle.trails.proofs.gather_trails.gather_trails.Goals as goal
use Rattle.trails.proofs.gather_trails.gather_trails.Goals.{Else-hand_row}

pub clear-requires : goal.clear-requires
clear-requires c = c.requires.0.many

pub append_to-requires : goal.append_to-requires
append_to-requires c =
    let start = c in
    (omega (arith, start.requires.0.inside, start.requires.0.few), cleared (length start.args.row.now) start.args.rows.now _ start.requires.0.width start.requires.0.long c.clear.ensures)

pub bounds-trails-first : goal.bounds-trails-first
bounds-trails-first c =
    let start = c in
    omega (arith, start.requires.0.inside, start.requires.0.few, ap length start.requires.1, no_trails-long)

pub loop-b-init : goal.loop-b-init
loop-b-init c =
    let start = c in
    let args = start.args in
    let g = (graph_of (length args.row.now) args.blocks args.sets.now args.leaving.now args.entering.now args.first args.row.now) in
    let zeros = c.clear.ensures in
    let appended = c.append_to.ensures in (
      begin_gathering g start.requires.0.few start.requires.0.inside zeros appended,
      begin_waiting g start.requires.0.few start.requires.0.inside zeros appended,
      rw start.requires.1 (begin_trails g start.requires.0.few start.requires.0.inside zeros appended),
    )

pub hand_row-requires : goal.hand_row-requires
hand_row-requires c =
    let start = c in
    let at = c.loop-b in
    let inside = c.loop-b-test.true in
    (inside, at.invariant.1.waits inside, start.requires.0.few, start.requires.0.leaves, start.requires.0.enters, at.invariant.0.memory)

pub shape_of-trails-then-hand_row : goal.shape_of-trails-then-hand_row
shape_of-trails-then-hand_row c = c.loop-b.invariant.2.places.long ∙ sym (ap length c.requires.1 ∙ no_trails-long)

pub returns-then-hand_row : goal.returns-then-hand_row
returns-then-hand_row c =
    let start = c in
    let args = start.args in
    let at = c.loop-b in
    let inside = c.loop-b-test.true in
    record {
      gathered = end_full (graph_of (length args.row.now) args.blocks args.sets.now args.leaving.now args.entering.now args.first args.row.now) at.rows at.counts at.done start.requires.0.few start.requires.0.inside at.invariant.0 at.b inside (at.invariant.1.waits inside) refl
          (c.hand_row.ensures.stopped c.if-hand_row.true);
      long = at.invariant.2.places.long;
      trailed = λ e. absurd (true≢false e);
    }

-- one row of b is handed on
after : (c : Else-hand_row)
    → let args = c.args in
    let at = c.loop-b in
    Gathering (graph_of (length args.row.now) args.blocks args.sets.now args.leaving.now args.entering.now args.first args.row.now) c.hand_row.new.rows c.hand_row.new.counts (set at.done at.b (get_or at.done at.b 0 + 1))
after c =
    let start = c in
    let args = start.args in
    let at = c.loop-b in
    let inside = c.loop-b-test.true in
    next_turn (graph_of (length args.row.now) args.blocks args.sets.now args.leaving.now args.entering.now args.first args.row.now) at.rows at.counts at.done start.requires.0.few start.requires.0.inside at.invariant.0 at.b inside (at.invariant.1.waits inside) refl
    (c.hand_row.ensures.all c.if-hand_row.false)

-- the place of that row
place : (c : Else-hand_row) → 32 * c.loop-b.b + get_or c.loop-b.done c.loop-b.b 0 < 768
place c =
    let at = c.loop-b in
    let inside = c.loop-b-test.true in
    omega (arith, at.invariant.1.waits inside, at.invariant.0.memory.few at.b inside)

pub overflow_add-b : goal.overflow_add-b
overflow_add-b c = omega (arith, place c)

pub note-requires : goal.note-requires
note-requires c =
    let e = c in
    let args = e.args in
    let at = e.loop-b in
    let inside = e.loop-b-test.true in
    let few = trail_few (graph_of (length args.row.now) args.blocks args.sets.now args.leaving.now args.entering.now args.first args.row.now) at.rows at.counts at.trails at.invariant.2 at.b (get_or at.done at.b 0) inside (at.invariant.1.waits inside) in
    (place (goal.at.note-requires c).Else-hand_row, (after (goal.at.note-requires c).Else-hand_row).memory.many, at.invariant.2.places, omega (arith, few), at.invariant.0.memory.few, (after (goal.at.note-requires c).Else-hand_row).memory.few)

pub overflow_add-done : goal.overflow_add-done
overflow_add-done c = omega (arith, place (goal.at.overflow_add-done c).Else-hand_row)

pub next_waiting-b-requires : goal.next_waiting-b-requires
next_waiting-b-requires c =
    let e = c in
    ((after (goal.at.next_waiting-b-requires c).Else-hand_row).memory.many, (after (goal.at.next_waiting-b-requires c).Else-hand_row).tally, e.loop-b-test.true)

pub loop-b-smaller : goal.loop-b-smaller
loop-b-smaller c =
    let e = c in
    let at = e.loop-b in
    let inside = e.loop-b-test.true in
    rest_less at.done at.b (omega (arith, at.invariant.0.tally, inside)) (omega (arith, at.invariant.1.waits inside, at.invariant.0.memory.few at.b inside))

pub loop-b-preserved : goal.loop-b-preserved
loop-b-preserved c =
    let e = c in
    let start = e in
    let args = start.args in
    let at = e.loop-b in
    let inside = e.loop-b-test.true in (
      after (goal.at.loop-b-preserved c).Else-hand_row,
      c.next_waiting-b.ensures,
      next_trails (graph_of (length args.row.now) args.blocks args.sets.now args.leaving.now args.entering.now args.first args.row.now) at.rows at.counts at.trails start.requires.0.few at.b (get_or at.done at.b 0) inside (at.invariant.1.waits inside) at.invariant.2 refl
          (e.hand_row.ensures.all e.if-hand_row.false) c.note.ensures,
    )

pub shape_of-trails : goal.shape_of-trails
shape_of-trails c = c.loop-b.invariant.2.places.long ∙ sym (ap length c.requires.1 ∙ no_trails-long)

pub returns : goal.returns
returns c =
    let start = c in
    let args = start.args in
    let at = c.loop-b in
    record {
      gathered = end_through (graph_of (length args.row.now) args.blocks args.sets.now args.leaving.now args.entering.now args.first args.row.now) at.rows at.counts at.done start.requires.0.few start.requires.0.inside at.invariant.0 (at.invariant.1.none c.loop-b-test.false);
      long = at.invariant.2.places.long;
      trailed = λ e. at.invariant.2;
    }
