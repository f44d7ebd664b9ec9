-- `round::round` meets its contract: after n turns all rows are offered that hold more than the places of a row less n memory blocks. Assumes nothing.
use mathlib.Core.Path.{ap}
use Prim.Native.Nat.{◌+◌}
use native.Mathlib.Omega.{arith}
use lib.ListN.{length}
use Rattle.std.specs.Result.{is_err}
use Rattle.std.proofs.lemmas.Result.{err_from_is_err_and}
use Rattle.gather.specs.Memory.{held_rows}
use Rattle.gather.specs.Gathered.{graph_meant}
use Rattle.gather.proofs.Gathering.{cleared}
use Rattle.uncovered.proofs.Taking.{took_none, turn_more, turn_full, turn_end, input_for, round_taken}
use Rattle.uncovered.proofs.round.round.Invariants.{ranked}
use Rattle.uncovered.proofs.round.round.Goals as goal

pub clear-requires : goal.clear-requires
clear-requires c = c.requires.0.many

pub overflow_add-n-end : goal.overflow_add-n-end
overflow_add-n-end c = omega (arith, c.requires.0.width.narrow)

pub loop-n-init : goal.loop-n-init
loop-n-init c = (omega arith, took_none (length c.args.graph.row.now) _ _ (cleared (length c.args.graph.row.now) _ _ c.requires.0.width c.requires.0.long c.clear.ensures))

pub offer_rank-requires : goal.offer_rank-requires
offer_rank-requires c = (input_for c.requires.0 c.loop-n.invariant.1.memory.long c.loop-n.invariant.1.memory.many, c.requires.1, c.loop-n.invariant.1.memory)

pub returns-in_err-offer_rank : goal.returns-in_err-offer_rank
returns-in_err-offer_rank c =
    rw (err_from_is_err_and c.from_residual.result c.from_residual.ensures.1).1 (round_taken (graph_meant c.args.graph) (held_rows (length c.args.graph.row.now) c.args.old.now c.args.held.now) _ _ c.clear.ensures
    (turn_full (length c.args.graph.row.now) _ _ (ranked c.args.graph c.args.old.now c.args.held.now) c.loop-n.n c.loop-n.invariant.1 c.offer_rank.ensures (length c.args.graph.row.now + 1) (omega arith) (ap is_err c.in_err-offer_rank.was)))

pub loop-n-preserved : goal.loop-n-preserved
loop-n-preserved c = (omega arith, turn_more (length c.args.graph.row.now) _ _ (ranked c.args.graph c.args.old.now c.args.held.now) c.loop-n.n c.loop-n.invariant.1 c.offer_rank.ensures (ap is_err c.in_ok-offer_rank.was))

pub returns : goal.returns
returns c =
    round_taken (graph_meant c.args.graph) (held_rows (length c.args.graph.row.now) c.args.old.now c.args.held.now) _ _ c.clear.ensures
    (turn_end (length c.args.graph.row.now) _ _ (ranked c.args.graph c.args.old.now c.args.held.now) c.loop-n.n c.loop-n.invariant.1 (length c.args.graph.row.now + 1) (omega arith))
