-- `task_rows::both_kinds` meets its contract: each kind has its part of the area. Assumes nothing.
-- The idea: where the reaching states are too many, the answer is known without the live ones.
use mathlib.Core.Path.{◌≡◌, refl, ap}
use Prim.Native.Nat.{◌*◌}
use native.Mathlib.Omega.{arith}
use lib.ListN.{length}
use borrow.Author.Rules.{rules}
use Rattle.std.specs.Result.{is_err}
use Rattle.std.proofs.lemmas.Result.{err_from_is_err_and}
use Rattle.graphs.specs.Graphs.{reach_of, live_of}
use Rattle.graphs.proofs.Halves.{both_full, both_all}
use Rattle.graphs.proofs.Gathered.{nothings, first-wide, reach_input, live_input, half_live, graph_asks, graph_told, live_turned}
use Rattle.graphs.proofs.task_rows.both_kinds.Goals as goal

pub reaching_graph-reaching-requires : goal.reaching_graph-reaching-requires
reaching_graph-reaching-requires g c = (omega (arith, c.requires.4), nothings (24 * c.args.w) 768 (omega (arith, c.requires.0.narrow)))

pub along-requires : goal.along-requires
along-requires g c =
    let start = c in
    let args = start.args in
    let each : length args.sets ≡ 24 = search rules in
    graph_asks c.reaching_graph-reaching.result c.reaching_graph-reaching.ensures
    (reach_input args.w args.blocks start.requires.0 start.requires.1 start.requires.2 each
    (first-wide (24 * (32 * args.w)) args.area.now (omega (arith, start.requires.5))) start.requires.6 start.requires.4)

pub returns-in_err-along : goal.returns-in_err-along
returns-in_err-along g c =
    let start = c in
    let args = start.args in
    let full = err_from_is_err_and c.from_residual.result c.from_residual.ensures.1 in
    rw full.1 (both_full g.G.Gathers.leaves g.met.G.Gathers.sizes (reach_of args.w args.blocks args.sets args.last.now) (live_of args.w args.blocks args.sets args.first.now) args.area.now _ start.requires.5
    (graph_told g.G.Gathers.leaves c.reaching_graph-reaching.result c.reaching_graph-reaching.ensures c.along.ensures) (ap is_err c.in_err-along.was) start.requires.7)

pub live_graph-live-requires : goal.live_graph-live-requires
live_graph-live-requires g c = (c.requires.1, nothings (24 * c.args.w) 768 (omega (arith, c.requires.0.narrow)))

pub along-requires-2 : goal.along-requires-2
along-requires-2 g c =
    let start = c in
    let args = start.args in
    let each : length c.predecessors-before.result ≡ 24 = search rules in
    let reached = graph_told g.G.Gathers.leaves c.reaching_graph-reaching.result c.reaching_graph-reaching.ensures c.along.ensures in
    graph_asks c.live_graph-live.result c.live_graph-live.ensures
    (live_input args.w args.blocks start.requires.0 start.requires.1 start.requires.2 each
    (half_live (24 * (32 * args.w)) args.area.now c.along.new.rows start.requires.5 (g.met.G.Gathers.sizes _ _ _ _ reached).0) start.requires.7 start.requires.3)

pub returns : goal.returns
returns g c =
    let start = c in
    let args = start.args in
    both_all g.G.Gathers.leaves g.met.G.Gathers.sizes (reach_of args.w args.blocks args.sets args.last.now) (live_of args.w args.blocks args.sets args.first.now) args.area.now _ start.requires.5
    (graph_told g.G.Gathers.leaves c.reaching_graph-reaching.result c.reaching_graph-reaching.ensures c.along.ensures) (ap is_err c.in_ok-along.was) refl
    (graph_told g.G.Gathers.leaves c.live_graph-live.result
    (live_turned args.w args.blocks args.sets args.first.now c.live_graph-live.result c.predecessors-before.ensures c.live_graph-live.ensures) c.along-2.ensures)
