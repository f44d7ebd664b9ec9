-- `count_in` meets its contract: the count of the kind is the one read. Assumes nothing beyond its `requires`.
use Rattle.area.proofs.RowLaws.{live-count, reaching-count}
use Rattle.area.proofs.row.count_in.Goals as goal

pub returns-then-live : goal.returns-then-live
returns-then-live c =
    let args = c.args in
    live-count args.w args.area.now args.block c.if-live.true c.from.ensures

pub returns : goal.returns
returns c =
    let args = c.args in
    reaching-count args.w args.area.now args.block c.if-live.false c.from-2.ensures
