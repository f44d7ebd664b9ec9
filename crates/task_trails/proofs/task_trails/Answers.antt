-- `task_trails` meets its contract: the states are gathered with their trails along the two graphs of the body's task. Assumes nothing.
use Prim.Native.Nat.{◌*◌}
use native.Mathlib.Omega.{arith}
use lib.ListN.{replicate}
use Rattle.cache.specs.Shape.{shaped}
use Rattle.body.specs.Decode.{decode, task_of}
use Rattle.rows.proofs.Parts.{lent_front, front_long, front_room}
use Rattle.graphs.specs.Graphs.{first_rows, last_rows}
use Rattle.graphs.proofs.Prepared.{last_full, first_full_lem}
use Rattle.graphs.proofs.Gathered.{nothings, kept-bounds}
use Rattle.task_trails.proofs.TaskTrailLaws.{area_trails}
use Rattle.task_trails.proofs.task_trails.Goals as goal

pub graphs-found-requires : goal.graphs-found-requires
graphs-found-requires c =
    let start = c in
    let none = nothings (24 * start.args.w) 768 (omega (arith, start.requires.2.narrow)) in
    (start.requires.0, start.requires.1, start.requires.2, none, none)

pub slice_bounds-both_trails-end : goal.slice_bounds-both_trails-end
slice_bounds-both_trails-end c =
    let start = c in
    let few = (kept-bounds start.args.body.now start.requires.0).few in
    omega (arith, front_room (24 * start.args.w) (replicate 768 65535) (first_rows (shaped start.args.w start.args.shape) (task_of (decode start.args.body.now))) c.graphs-found.ensures.2 (first_full_lem (shaped start.args.w start.args.shape) (task_of (decode start.args.body.now)) few))

pub slice_bounds-both_trails-end-2 : goal.slice_bounds-both_trails-end-2
slice_bounds-both_trails-end-2 c =
    let start = c in
    let few = (kept-bounds start.args.body.now start.requires.0).few in
    omega (arith, front_room (24 * start.args.w) (replicate 768 65535) (last_rows (shaped start.args.w start.args.shape) (task_of (decode start.args.body.now))) c.graphs-found.ensures.3 (last_full (shaped start.args.w start.args.shape) (task_of (decode start.args.body.now)) few))

pub both_trails-requires : goal.both_trails-requires
both_trails-requires c =
    let start = c in
    let w = start.args.w in
    let k = shaped w start.args.shape in
    let t = task_of (decode start.args.body.now) in
    let bounds = kept-bounds start.args.body.now start.requires.0 in
    let found = c.graphs-found.ensures in (
      start.requires.2,
      omega (arith, bounds.some, found.0),
      omega (arith, bounds.few, found.0),
      front_long (24 * w) (replicate 768 65535) (first_rows k t) found.2 (first_full_lem k t bounds.few),
      front_long (24 * w) (replicate 768 65535) (last_rows k t) found.3 (last_full k t bounds.few),
      start.requires.3,
    )

pub returns : goal.returns
returns c =
    let start = c in
    let w = start.args.w in
    let k = shaped w start.args.shape in
    let t = task_of (decode start.args.body.now) in
    let bounds = kept-bounds start.args.body.now start.requires.0 in
    let found = c.graphs-found.ensures in
    area_trails k t bounds found.0 found.1 (lent_front (24 * w) (replicate 768 65535) (first_rows k t) found.2 (first_full_lem k t bounds.few))
    (lent_front (24 * w) (replicate 768 65535) (last_rows k t) found.3 (last_full k t bounds.few)) c.both_trails.ensures
