-- `write_preemption` meets its contract: five numbers, and the blocks of the path. Assumes nothing.
use Prim.Native.Nat.{◌-◌}
use native.Mathlib.Omega.{arith}
use lib.ListN.{length, set, length-set}
use Rattle.trails.specs.Trails.{length_at}
use Rattle.run_sheet.specs.Joined.{path_to}
use Rattle.run_sheet.proofs.WriteLaws.{to_long_lem, wrote_to, by_written}
use Rattle.run_sheet.proofs.write_preemption.Goals as goal

pub overflow_cast-out : goal.overflow_cast-out
overflow_cast-out c =
    let path = c.args.preemption.now.path in
    omega (arith, c.requires.0.few, c.requires.1, to_long_lem path.trails.now path.at)

pub returns : goal.returns
returns c =
    let p = c.args.preemption.now in
    let path = p.path in
    let out = c.args.out.now in
    let l = set (set (set (set (set out 0 1) 1 c.args.position) 2 p.done) 3 p.by) 4 (length out - 5) in
    by_written out (path_to path.trails.now path.at) 1 c.args.position p.done p.by c.requires.1
    (wrote_to path.trails.now path.at l 5 (length out) (length_at path.trails.now path.at) (simp length-set (omega arith))
    (omega (arith, c.requires.1, to_long_lem path.trails.now path.at)) c.write_to.ensures)
