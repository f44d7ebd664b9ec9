-- `write_sheet` meets its contract: the task with its path, and after it the preemption or their count, 0. Assumes nothing.
use Prim.Native.Nat.{◌+◌, ◌-◌}
use native.Mathlib.Omega.{arith}
use borrow.Rule.Slice.PartMut.{put_mid}
use Rattle.run_sheet.specs.Joined.{HasTrail}
use Rattle.run_sheet.proofs.WriteLaws.{own_room, by-room, sheet-preempted, sheet-whole}
use Rattle.run_sheet.proofs.write_sheet.Goals as goal

pub write_own-requires : goal.write_own-requires
write_own-requires c =
    let run = c.args.run.now in
    let joins = c.requires.0 in
    let n = c.length_before-before in
    let after = c.length in (
      joins.few,
      joins.on,
      own_room run.before run.on.trails.now run.on.at c.args.sheet.now n.result after.result n.ensures after.ensures
          (omega (arith, n.ensures, after.ensures, joins.few, joins.on.few, c.requires.1)),
    )

pub write_preemption-requires : goal.write_preemption-requires
write_preemption-requires c =
    let joins = c.requires.0 in
    let n = c.length_before-before in
    let after = c.length in
    let path = c.in-Some.preemption.path in
    let ended = c.length-in-Some in
    let a = 2 + n.result + after.result in
    let by : HasTrail path.trails.now path.at = rw c.in-Some.is at joins.by in (
      by,
      by-room path.trails.now path.at (put_mid 0 (a - 0) c.args.sheet.now c.write_own.new.out) a ended.result ended.ensures
          (omega (arith, n.ensures, after.ensures, ended.ensures, joins.few, joins.on.few, by.few, c.requires.1, c.sheet-1.given.1)),
    )

pub returns-in-Some : goal.returns-in-Some
returns-in-Some c =
    let run = c.args.run.now in
    let n = c.length_before-before in
    let after = c.length in
    let ended = c.length-in-Some in
    sheet-preempted run c.args.sheet.now n.result after.result n.ensures after.ensures c.write_own.ensures c.in-Some.preemption ended.result c.in-Some.is ended.ensures
    c.write_preemption.ensures

pub returns-in-None : goal.returns-in-None
returns-in-None c =
    let run = c.args.run.now in
    let joins = c.requires.0 in
    let n = c.length_before-before in
    let after = c.length in
    sheet-whole run c.args.sheet.now n.result after.result n.ensures after.ensures c.write_own.ensures c.in-None.is
    (omega (arith, n.ensures, after.ensures, joins.few, joins.on.few, c.requires.1))
