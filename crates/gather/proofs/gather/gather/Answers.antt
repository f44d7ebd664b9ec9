-- `gather::gather` meets its contract: while rows are gathered all in memory are rows that blocks get, and at the end they are all. Assumes nothing.
use mathlib.Core.Path.{refl, sym, ◌∙◌}
use Prim.Native.Nat.{◌+◌}
use native.Mathlib.Omega.{arith}
use lib.ListN.{length, get_or, set}
use Rattle.gather.specs.Gathered.{graph_meant}
use Rattle.gather.proofs.Gathering.{Gathering, rest_less, cleared, begin_gathering, begin_waiting, next_turn, end_full, end_through}
use Rattle.gather.proofs.gather.gather.Goals as goal
use Rattle.gather.proofs.gather.gather.Goals.{Else-hand_row}

pub clear-requires : goal.clear-requires
clear-requires c = c.requires.many

pub append_to-requires : goal.append_to-requires
append_to-requires c =
    let start = c in
    (omega (arith, start.requires.inside, start.requires.few), cleared (length start.args.graph.row.now) start.args.rows.now _ start.requires.width start.requires.long c.clear.ensures)

pub loop-b-init : goal.loop-b-init
loop-b-init c =
    let start = c in
    let args = start.args in
    let g = (graph_meant args.graph) in
    let zeros = c.clear.ensures in
    let appended = c.append_to.ensures in
    (begin_gathering g start.requires.few start.requires.inside zeros appended, begin_waiting g start.requires.few start.requires.inside zeros appended)

pub offset_bounds-done-b : goal.offset_bounds-done-b
offset_bounds-done-b c = omega (arith, c.loop-b-test.true)

pub bounds-done-b : goal.bounds-done-b
bounds-done-b c = c.loop-b-test.true

pub offset_bounds-graph-b : goal.offset_bounds-graph-b
offset_bounds-graph-b c = omega (arith, c.loop-b-test.true)

pub bounds-graph-b : goal.bounds-graph-b
bounds-graph-b c = omega (arith, c.loop-b-test.true, c.requires.each)

pub hand_row-requires : goal.hand_row-requires
hand_row-requires c =
    let start = c in
    let at = c.loop-b in
    let inside = c.loop-b-test.true in
    (inside, at.invariant.1.waits inside, start.requires.few, start.requires.leaves, start.requires.enters, at.invariant.0.memory)

pub shape_of-rows-then-hand_row : goal.shape_of-rows-then-hand_row
shape_of-rows-then-hand_row c = (c.hand_row.ensures.stopped c.if-hand_row.true).handed.memory.long ∙ sym c.requires.long

pub shape_of-counts-then-hand_row : goal.shape_of-counts-then-hand_row
shape_of-counts-then-hand_row c = (c.hand_row.ensures.stopped c.if-hand_row.true).handed.memory.many ∙ sym c.requires.many

pub returns-then-hand_row : goal.returns-then-hand_row
returns-then-hand_row c =
    let start = c in
    let args = start.args in
    let at = c.loop-b in
    let inside = c.loop-b-test.true in
    end_full (graph_meant args.graph) at.rows at.counts at.done start.requires.few start.requires.inside at.invariant.0 at.b inside (at.invariant.1.waits inside) refl
    (c.hand_row.ensures.stopped c.if-hand_row.true)

pub overflow_add-done : goal.overflow_add-done
overflow_add-done c = let at = c.loop-b in let inside = c.loop-b-test.true in omega (arith, at.invariant.1.waits inside, at.invariant.0.memory.few at.b inside)

pub offset_bounds-done-b-in-loop-b : goal.offset_bounds-done-b-in-loop-b
offset_bounds-done-b-in-loop-b c = omega (arith, c.loop-b-test.true)

pub bounds-done-b-in-loop-b : goal.bounds-done-b-in-loop-b
bounds-done-b-in-loop-b c = c.loop-b-test.true

-- one row of b is handed on
after : (c : Else-hand_row)
    → let args = c.args in
    let at = c.loop-b in
    Gathering (graph_meant args.graph) c.hand_row.new.rows c.hand_row.new.counts (set at.done at.b (get_or at.done at.b 0 + 1))
after c =
    let start = c in
    let args = start.args in
    let at = c.loop-b in
    let inside = c.loop-b-test.true in
    next_turn (graph_meant args.graph) at.rows at.counts at.done start.requires.few start.requires.inside at.invariant.0 at.b inside (at.invariant.1.waits inside) refl
    (c.hand_row.ensures.all c.if-hand_row.false)

pub slice_bounds-next_waiting-end : goal.slice_bounds-next_waiting-end
slice_bounds-next_waiting-end c = sym (after (goal.at.slice_bounds-next_waiting-end c).Else-hand_row).tally

pub next_waiting-b-requires : goal.next_waiting-b-requires
next_waiting-b-requires c = ((after (goal.at.next_waiting-b-requires c).Else-hand_row).memory.many, (after (goal.at.next_waiting-b-requires c).Else-hand_row).tally, c.loop-b-test.true)

pub loop-b-smaller : goal.loop-b-smaller
loop-b-smaller c =
    let at = c.loop-b in
    let inside = c.loop-b-test.true in
    rest_less at.done at.b (omega (arith, at.invariant.0.tally, inside)) (omega (arith, at.invariant.1.waits inside, at.invariant.0.memory.few at.b inside))

pub loop-b-preserved : goal.loop-b-preserved
loop-b-preserved c = (after (goal.at.loop-b-preserved c).Else-hand_row, c.next_waiting-b.ensures)

pub shape_of-rows : goal.shape_of-rows
shape_of-rows c = c.loop-b.invariant.0.memory.long ∙ sym c.requires.long

pub shape_of-counts : goal.shape_of-counts
shape_of-counts c = c.loop-b.invariant.0.memory.many ∙ sym c.requires.many

pub returns : goal.returns
returns c =
    let start = c in
    let args = start.args in
    let at = c.loop-b in
    end_through (graph_meant args.graph) at.rows at.counts at.done start.requires.few start.requires.inside at.invariant.0 (at.invariant.1.none c.loop-b-test.false)
