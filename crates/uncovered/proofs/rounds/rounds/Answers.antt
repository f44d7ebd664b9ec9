-- `rounds::rounds` meets its contract: after k turns each block has the uncovered rows of at most k handings on. Assumes nothing.
use mathlib.Core.Path.{refl, sym, ap, ◌∙◌}
use Prim.Native.Nat.{ℕ, ◌%◌}
use native.Mathlib.Omega.{arith}
use lib.ListN.{length, length-replicate}
use Rattle.std.specs.Result.{is_err}
use Rattle.std.proofs.lemmas.Result.{err_from_is_err_and}
use Rattle.gather.specs.Gathered.{graph_meant}
use Rattle.gather.proofs.Gathering.{cleared}
use Rattle.uncovered.proofs.Taking.{input_for}
use Rattle.uncovered.proofs.Rounding.{after_first, after_more, end_full, end_same, end-rounds, kind_chunks}
use Rattle.uncovered.proofs.rounds.rounds.Goals as goal

pub clear-requires : goal.clear-requires
clear-requires c = c.requires.0.many

pub append_to-requires : goal.append_to-requires
append_to-requires c = (omega (arith, c.requires.0.inside, c.requires.0.few), cleared (length c.args.graph.row.now) c.args.rows.now _ c.requires.0.width c.requires.0.long c.clear.ensures)

pub overflow_add-k-end : goal.overflow_add-k-end
overflow_add-k-end c = omega (arith, c.requires.0.width.narrow)

pub overflow_mul-k-end : goal.overflow_mul-k-end
overflow_mul-k-end c = omega (arith, c.requires.0.width.narrow)

pub loop-k-init : goal.loop-k-init
loop-k-init c = (omega arith, c.requires.1, length-replicate {A = ℕ} 24 0, after_first (graph_meant c.args.graph) c.requires.0.few c.requires.0.inside refl c.clear.ensures c.append_to.ensures)

pub slice_bounds-round-end : goal.slice_bounds-round-end
slice_bounds-round-end c = sym c.loop-k.invariant.2

pub round-requires : goal.round-requires
round-requires c = (input_for c.requires.0 c.loop-k.invariant.1 c.loop-k.invariant.2, c.loop-k.invariant.3.memory)

pub returns-in_err-round : goal.returns-in_err-round
returns-in_err-round c =
    rw (err_from_is_err_and c.from_residual.result c.from_residual.ensures.1).1 (record { memory = c.loop-k.invariant.3.memory; rounds = end_full (graph_meant c.args.graph) c.requires.0.few c.requires.0.inside refl c.loop-k.k c.loop-k.invariant.3 c.round.ensures (ap is_err c.in_err-round.was) (omega arith) })

pub slice_bounds-nothing_new-end : goal.slice_bounds-nothing_new-end
slice_bounds-nothing_new-end c = sym c.round.ensures.memory.many

pub nothing_new-requires : goal.nothing_new-requires
nothing_new-requires c = (c.loop-k.invariant.3.memory, c.round.ensures.memory)

pub shape_of-room-then-nothing_new : goal.shape_of-room-then-nothing_new
shape_of-room-then-nothing_new c = c.round.ensures.memory.long ∙ sym c.requires.1

pub returns-then-nothing_new : goal.returns-then-nothing_new
returns-then-nothing_new c = record { memory = c.loop-k.invariant.3.memory; rounds = end_same (graph_meant c.args.graph) c.requires.0.few c.requires.0.inside refl c.loop-k.k c.loop-k.invariant.3 c.round.ensures (ap is_err c.in_ok-round.was) (sym c.nothing_new.ensures ∙ c.if-nothing_new.true) (omega arith) }

pub copy_row-requires : goal.copy_row-requires
copy_row-requires c = (ap (λ (n : ℕ). n % 16) c.round.ensures.memory.long ∙ kind_chunks (length c.args.graph.row.now) c.requires.0.width.chunks, c.loop-k.invariant.3.memory.long ∙ sym c.round.ensures.memory.long)

pub slice_bounds-copy_from_slice-end : goal.slice_bounds-copy_from_slice-end
slice_bounds-copy_from_slice-end c = sym c.round.ensures.memory.many

pub copy_from_slice-requires : goal.copy_from_slice-requires
copy_from_slice-requires c = c.loop-k.invariant.3.memory.many ∙ sym c.round.ensures.memory.many

pub loop-k-preserved : goal.loop-k-preserved
loop-k-preserved c = (omega arith, c.round.ensures.memory.long, c.round.ensures.memory.many, after_more (graph_meant c.args.graph) c.requires.0.few c.requires.0.inside refl c.loop-k.k c.loop-k.invariant.3 c.round.ensures (ap is_err c.in_ok-round.was) c.copy_row.ensures c.copy_from_slice.ensures.after)

pub returns : goal.returns
returns c = record { memory = c.loop-k.invariant.3.memory; rounds = end-rounds (graph_meant c.args.graph) c.requires.0.few c.requires.0.inside refl c.loop-k.k (omega arith) c.loop-k.invariant.3 }
