-- `totals::total_part` meets its contract: the misses of the part, counted from 0, are added to those so far. Assumes nothing.
use Prim.Native.Nat.{◌^◌}
use native.Mathlib.Omega.{arith}
use Rattle.cache.specs.Shape.{shaped}
use Rattle.body.specs.Decode.{decode, task_of}
use Rattle.runs.specs.Parts.{part_of}
use Rattle.nested_replay.proofs.TotalLaws.{part_added, part_fits, part_short}
use Rattle.nested_replay.proofs.totals.total_part.Goals as goal

pub after_part-own-requires : goal.after_part-own-requires
after_part-own-requires c =
    let part = c.args.part.now in
    (c.requires.0, omega (arith, part_short part.on.body.now part.on.starts.now part.on.path.now part.on.there c.requires.1 part.from part.to))

pub overflow_add-result : goal.overflow_add-result
overflow_add-result c =
    let p = c.args.part.now in
    let part = part_of (task_of (decode p.on.body.now)) p.on.path.now p.from p.to in
    omega (arith, c.from.ensures, part_fits (shaped 32 c.args.shape) part c.args.cache.cells c.args.cache.misses (2 ^ 64) c.after_part-own.ensures c.requires.2)

pub returns : goal.returns
returns c =
    let p = c.args.part.now in
    let part = part_of (task_of (decode p.on.body.now)) p.on.path.now p.from p.to in
    rw c.from.ensures (part_added (shaped 32 c.args.shape) part c.args.cache.cells c.args.cache.misses c.after_part-own.ensures)
