-- `prepare::prepare` meets its contract: the rows of the blocks so far, and nothings. Assumes nothing.
-- The idea: each turn puts the two rows of one block, cut off after w places, after those of the blocks before it.
use mathlib.Core.Path.{sym, ap, ◌∙◌}
use Prim.Native.Nat.{◌*◌}
use native.Mathlib.Omega.{arith}
use lib.ListN.{length, take, length-replicate}
use Rattle.cache.specs.References.{nothing, numbers}
use Rattle.cache.specs.Cache.{empty_row, with_references, first_references}
use Rattle.cache.specs.Shape.{shaped}
use Rattle.model.specs.Tasks.{block}
use Rattle.model.proofs.Narrower.{narrower_first, narrower_last}
use Rattle.body.specs.Decode.{decode, task_of}
use Rattle.body.proofs.Decoded.{decoded-real}
use Rattle.body.proofs.JumpLaws.{WalkedTask, its_task}
use Rattle.graphs.proofs.Listed.{last-long, first-long, block-real}
use Rattle.graphs.proofs.Prepared.{rows_start, rows_turn, rows_end}
use Rattle.graphs.proofs.prepare.prepare.Invariants.{firsts, lasts}
use Rattle.graphs.proofs.prepare.prepare.Goals as goal
use Rattle.graphs.proofs.prepare.prepare.Goals.{Start}

-- the task of the body
facts : (c : Start) → let w = c.args.walk.now in WalkedTask w.body.now w.blocks w.starts
facts c = its_task c.args.walk.now

pub loop-b-init : goal.loop-b-init
loop-b-init c =
    let start = c in
    let w = start.args.w in
    let k = shaped w start.args.shape in (
      omega arith,
      ap length start.requires.2 ∙ length-replicate (24 * w) nothing,
      ap length start.requires.3 ∙ length-replicate (24 * w) nothing,
      rows_start w (firsts k) (first-long k) (task_of (decode start.args.walk.now.body.now)) start.requires.2,
      rows_start w (lasts k) (last-long k) (task_of (decode start.args.walk.now.body.now)) start.requires.3,
    )

pub offset_bounds-walk-b : goal.offset_bounds-walk-b
offset_bounds-walk-b c = let f = facts (goal.at.offset_bounds-walk-b c).Start in omega (arith, f.long, f.bounds.few)

pub bounds-walk-b : goal.bounds-walk-b
bounds-walk-b c = let f = facts (goal.at.bounds-walk-b c).Start in omega (arith, f.long, f.bounds.few)

pub references-requires : goal.references-requires
references-requires c =
    let f = facts (goal.at.references-requires c).Start in
    (f.parts c.loop-b.b (omega (arith, f.long))).references-within

pub gather-rows-requires : goal.gather-rows-requires
gather-rows-requires c =
    let start = c in
    let f = facts (goal.at.gather-rows-requires c).Start in
    let b = c.loop-b.b in (
      record { some = start.requires.0.some; room = omega (arith, start.requires.0.room, start.requires.1.narrow) },
      rw (ap numbers c.references.ensures ∙ (f.parts b (omega (arith, f.long))).references) (block-real f.its (decoded-real _ _ f.decodes) b),
    )

pub cells-requires : goal.cells-requires
cells-requires c = tt

pub keep_row-requires : goal.keep_row-requires
keep_row-requires c =
    let start = c in
    let f = facts (goal.at.keep_row-requires c).Start in
    (start.requires.1, omega (arith, f.long, f.bounds.few), c.loop-b.invariant.1)

pub cells-requires-in-loop-b : goal.cells-requires-in-loop-b
cells-requires-in-loop-b c = tt

pub keep_row-requires-in-loop-b : goal.keep_row-requires-in-loop-b
keep_row-requires-in-loop-b c =
    let start = c in
    let f = facts (goal.at.keep_row-requires-in-loop-b c).Start in
    (start.requires.1, omega (arith, f.long, f.bounds.few), c.loop-b.invariant.2)

pub overflow_step-b : goal.overflow_step-b
overflow_step-b c = let f = facts (goal.at.overflow_step-b c).Start in omega (arith, f.long, f.bounds.few)

pub loop-b-preserved : goal.loop-b-preserved
loop-b-preserved c =
    let start = c in
    let args = start.args in
    let w = args.w in
    let at = c.loop-b in
    let f = facts (goal.at.loop-b-preserved c).Start in
    let test = c.loop-b-test.true in
    let refs = ap numbers c.references.ensures ∙ (f.parts at.b (omega (arith, f.long, test))).references in
    let gathered = c.gather-rows.ensures in
    let made = (block f.its at.b).references in
    let n = args.shape.blocks in
    let v = shaped 32 args.shape in
    let k = shaped w args.shape in (
      omega (arith, test),
      c.keep_row.auto.rows ∙ at.invariant.1,
      c.keep_row-in-loop-b.auto.rows ∙ at.invariant.2,
      rw f.same (rows_turn w (firsts k) (first-long k) f.its at.b (omega (arith, f.long, test)) f.bounds.few (rw f.same at at.invariant.3)
          (ap (take w) (c.cells.ensures ∙ gathered.0 ∙ ap (first_references v) refs) ∙ narrower_first n w 32 start.requires.0.some start.requires.0.room start.requires.1.narrow made)
          c.keep_row.ensures),
      rw f.same (rows_turn w (lasts k) (last-long k) f.its at.b (omega (arith, f.long, test)) f.bounds.few (rw f.same at at.invariant.4)
          (ap (take w) (c.cells-in-loop-b.ensures ∙ gathered.1 ∙ ap (with_references v (empty_row v)) refs) ∙ narrower_last n w 32 start.requires.0.some start.requires.0.room start.requires.1.narrow made)
          c.keep_row-in-loop-b.ensures),
    )

pub shape_of-first : goal.shape_of-first
shape_of-first c = let start = c in c.loop-b.invariant.1 ∙ sym (ap length start.requires.2 ∙ length-replicate (24 * start.args.w) nothing)

pub shape_of-last : goal.shape_of-last
shape_of-last c = let start = c in c.loop-b.invariant.2 ∙ sym (ap length start.requires.3 ∙ length-replicate (24 * start.args.w) nothing)

pub returns : goal.returns
returns c =
    let start = c in
    let w = start.args.w in
    let k = shaped w start.args.shape in
    let at = c.loop-b in
    let f = facts (goal.at.returns c).Start in (
      rw f.same (rows_end w (firsts k) (first-long k) f.its at.b (omega (arith, f.long)) (rw f.same at at.invariant.3)),
      rw f.same (rows_end w (lasts k) (last-long k) f.its at.b (omega (arith, f.long)) (rw f.same at at.invariant.4)),
    )
