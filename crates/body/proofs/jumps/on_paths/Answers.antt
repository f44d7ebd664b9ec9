-- `jumps::on_paths` meets its contract: the sets of successors decide it. Assumes nothing.
use mathlib.Core.Path.{sym, ap, ◌∙◌}
use native.Mathlib.Omega.{arith}
use Rattle.body.specs.Decode.{decode, task_of}
use Rattle.body.specs.Jumps.{jump_sets}
use Rattle.body.proofs.JumpLaws.{WalkedTask, its_task, jumps-below}
use Rattle.body.proofs.jumps.on_paths.Goals as goal
use Rattle.body.proofs.jumps.on_paths.Goals.{Start}

facts : (c : Start) → let w = c.args.walk.now in WalkedTask w.body.now w.blocks w.starts
facts c = its_task c.args.walk.now

pub all_on_paths-requires : goal.all_on_paths-requires
all_on_paths-requires c =
    let start = c in
    let f = facts (goal.at.all_on_paths-requires c).Start in
    (omega (arith, f.long, f.bounds.some), omega (arith, f.long, f.bounds.few), rw c.jumps.ensures (jumps-below (task_of (decode start.args.walk.now.body.now))))

pub returns : goal.returns
returns c =
    let start = c in
    let f = facts (goal.at.returns c).Start in
    rw f.same (c.all_on_paths.ensures f.its f.bounds (sym f.long) (c.jumps.ensures ∙ ap jump_sets f.same))
