-- `right_done` meets its contract: 0 is right where the block has no references, and else any number that it has. Assumes nothing.
use mathlib.Core.Path.{refl}
use Rattle.body.specs.Decode.{decode, task_of}
use Rattle.runs.specs.Parts.{references_at}
use Rattle.sheet_checks.proofs.PointLaws.{none_done, some-done}
use Rattle.sheet_checks.proofs.right_done.Goals as goal

pub returns-then-done-eq0 : goal.returns-then-done-eq0
returns-then-done-eq0 c =
    let args = c.args in
    none_done (references_at (task_of (decode args.on.now.body.now)) args.on.now.path.now args.position) c.count_on-all.ensures c.if-done-eq0.true refl

pub returns-else-done-eq0 : goal.returns-else-done-eq0
returns-else-done-eq0 c =
    let args = c.args in
    some-done (references_at (task_of (decode args.on.now.body.now)) args.on.now.path.now args.position) c.count_on-all.ensures c.if-done-eq0.false refl
