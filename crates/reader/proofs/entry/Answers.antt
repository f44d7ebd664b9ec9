-- `entry` meets its contract: the contents of an accepted file lie in it and say where each body stands. Assumes nothing.
use mathlib.Core.Path.{◌∙◌}
use native.Mathlib.Omega.{arith}
use Rattle.project.proofs.ContentsLaws.{offset_by, size-by}
use Rattle.reader.proofs.ReadLaws.{InFile}
use Rattle.reader.proofs.TaskBodies.{task-body}
use Rattle.reader.proofs.entry.Goals as goal
use Rattle.reader.proofs.entry.Goals.{Start}

-- the task is one of an accepted file
inside : (c : Start) → InFile c.args.file.now c.args.task
inside c = (task-body c.args.file.now c.requires.0 c.args.task c.requires.1).in_file

pub number_at-requires : goal.number_at-requires
number_at-requires c = omega (arith, (inside (goal.at.number_at-requires c).Start).entry, c.contents_start.ensures.0)

pub number_at-requires-2 : goal.number_at-requires-2
number_at-requires-2 c = omega (arith, (inside (goal.at.number_at-requires-2 c).Start).entry, c.contents_start.ensures.0)

pub returns : goal.returns
returns c =
    let start = c in
    let s = start.args.file.now in
    let j = start.args.task in
    let at = c.contents_start.ensures.0 in
    let from = c.count.ensures.0 ∙ c.number_at.ensures ∙ offset_by s j at in
    let long = c.count-2.ensures.0 ∙ c.number_at-2.ensures ∙ size-by s j at in
    (from, long, omega (arith, from, long, (inside (goal.at.returns c).Start).ending))
