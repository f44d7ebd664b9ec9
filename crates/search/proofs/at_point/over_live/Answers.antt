-- `at_point::over_live` meets its contract: after l turns the row has met the first l live rows. Assumes nothing.
use mathlib.Core.Path.{◌≡◌}
use native.Mathlib.Omega.{arith}
use lib.ListN.{length}
use Rattle.rows.proofs.Parts.{rows-length}
use Rattle.block_rows.specs.BlockRows.{listed}
use Rattle.search.specs.Search.{AtLive}
use Rattle.search.proofs.Raising.{raised_none, live_more}
use Rattle.search.proofs.at_point.over_live.Goals as goal

pub loop-l-init : goal.loop-l-init
loop-l-init c = let args = c.args in raised_none (λ x. x.live) (AtLive args.point args.row.now (listed args.live.now) args.sets.now) args.old

pub loop-l-preserved : goal.loop-l-preserved
loop-l-preserved c =
    let at = c.loop-l in
    let args = c.args in
    live_more args.point (listed args.live.now) args.row.now args.sets.now at.l c.row.ensures.1 c.useful-set.ensures at.invariant c.over_ends-found.ensures

pub returns : goal.returns
returns c =
    let at = c.loop-l in
    let live = c.args.live.now in
    let end : at.l ≡ length (listed live) = rw (rows-length live.w live.count live.rows.now) (omega arith) in
    rw end at at.invariant
