-- `task_rows::reaching_rows` meets its contract: what is gathered along the graph of the body's task are its reaching states. Assumes nothing.
use mathlib.Core.Path.{◌≡◌}
use Prim.Native.Nat.{◌*◌}
use native.Mathlib.Omega.{arith}
use lib.ListN.{length, replicate}
use Rattle.cache.specs.Shape.{shaped}
use Rattle.body.specs.Decode.{decode, task_of}
use Rattle.rows.proofs.Parts.{lent_front, front_long, front_room}
use Rattle.gather.specs.Gathered.{GatheredAs}
use Rattle.graphs.specs.Graphs.{last_rows}
use Rattle.graphs.proofs.Prepared.{last_full}
use Rattle.graphs.proofs.Gathered.{nothings, kept-bounds, reach_input, reaching_kind, graph_asks, graph_told}
use borrow.Author.Rules.{rules}
use Rattle.graphs.proofs.task_rows.reaching_rows.Goals as goal

pub graphs-found-requires : goal.graphs-found-requires
graphs-found-requires c =
    let start = c in
    let none = nothings (24 * start.args.w) 768 (omega (arith, start.requires.2.narrow)) in
    (start.requires.0, start.requires.1, start.requires.2, none, none)

pub slice_bounds-reaching_graph-end : goal.slice_bounds-reaching_graph-end
slice_bounds-reaching_graph-end c =
    let start = c in
    let few = (kept-bounds start.args.body.now start.requires.0).few in
    omega (arith, front_room (24 * start.args.w) (replicate 768 65535) (last_rows (shaped start.args.w start.args.shape) (task_of (decode start.args.body.now))) c.graphs-found.ensures.3 (last_full (shaped start.args.w start.args.shape) (task_of (decode start.args.body.now)) few))

pub reaching_graph-graph-requires : goal.reaching_graph-graph-requires
reaching_graph-graph-requires c =
    let start = c in
    let w = start.args.w in
    let k = shaped w start.args.shape in
    let t = task_of (decode start.args.body.now) in
    let bounds = kept-bounds start.args.body.now start.requires.0 in (
      omega (arith, front_long (24 * w) (replicate 768 65535) (last_rows k t) c.graphs-found.ensures.3 (last_full k t bounds.few)),
      nothings (24 * w) 768 (omega (arith, start.requires.2.narrow)),
    )

pub gather-requires : goal.gather-requires
gather-requires c =
    let start = c in
    let w = start.args.w in
    let k = shaped w start.args.shape in
    let t = task_of (decode start.args.body.now) in
    let bounds = kept-bounds start.args.body.now start.requires.0 in
    let found = c.graphs-found.ensures in
    let each : length c.graphs-found.result.sets ≡ 24 = search rules in
    graph_asks c.reaching_graph-graph.result c.reaching_graph-graph.ensures
    (reach_input w _ start.requires.2 (omega (arith, bounds.some, found.0)) (omega (arith, bounds.few, found.0)) each start.requires.3 start.requires.4
    (front_long (24 * w) (replicate 768 65535) (last_rows k t) c.graphs-found.ensures.3 (last_full k t bounds.few)))

pub returns : goal.returns
returns c =
    let start = c in
    let w = start.args.w in
    let k = shaped w start.args.shape in
    let t = task_of (decode start.args.body.now) in
    let bounds = kept-bounds start.args.body.now start.requires.0 in
    let found = c.graphs-found.ensures in
    rw c.is_err.ensures.value (reaching_kind k t bounds found.0 found.1 (lent_front (24 * w) (replicate 768 65535) (last_rows k t) c.graphs-found.ensures.3 (last_full k t bounds.few)) (graph_told GatheredAs c.reaching_graph-graph.result c.reaching_graph-graph.ensures c.gather.ensures))
