-- `numbers::task_numbers` meets its contract: what was gathered are the states of the task, and its points are met by the end rows of each task. Assumes nothing.
use mathlib.Core.Path.{refl}
use Rattle.cache.specs.Shape.{shaped}
use Rattle.body.specs.Decode.{decode, task_of}
use Rattle.rows.specs.Rows.{kind_length}
use Rattle.rows.proofs.Parts.{lent_first, lent_second}
use Rattle.graphs.proofs.Gathered.{kept-bounds}
use Rattle.file_pairs.proofs.NumberLaws.{numbers-few, reaching-memory, live-memory}
use Rattle.file_pairs.proofs.numbers.task_numbers.Goals as goal

pub invariant_of-reaching : goal.invariant_of-reaching
invariant_of-reaching c =
    let ends = c.args.ends.now in
    let area = c.task_rows.new.area in
    let kind = kind_length ends.w in
    record {
      are = reaching-memory (shaped ends.w c.args.shape) (task_of (decode c.args.body.now)) c.task_rows.ensures c.if-task_rows.false (lent_first kind area) (lent_second kind area)
          ends.are.width;
    }

pub invariant_of-live : goal.invariant_of-live
invariant_of-live c =
    let ends = c.args.ends.now in
    let area = c.task_rows.new.area in
    let kind = kind_length ends.w in
    record {
      are = live-memory (shaped ends.w c.args.shape) (task_of (decode c.args.body.now)) c.task_rows.ensures c.if-task_rows.false (lent_first kind area) (lent_second kind area)
          ends.are.width;
    }

pub returns : goal.returns
returns c =
    let ends = c.args.ends.now in
    let area = c.task_rows.new.area in
    let kind = kind_length ends.w in (
      c.task_rows.ensures.long,
      λ ts found. numbers-few (shaped ends.w c.args.shape) (task_of (decode c.args.body.now)) c.task_rows.ensures c.if-task_rows.false
          (lent_first kind area) (lent_second kind area) ts ends refl (kept-bounds c.args.body.now c.requires.0) c.requires.3 found c.meet_task.ensures,
    )
