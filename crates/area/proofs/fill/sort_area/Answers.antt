-- `fill::sort_area` meets its contract: the two kinds of rows and the counts, lent one after the other, are the whole. Assumes nothing.
use Rattle.area.proofs.Blocks.{reaching_distinct, live_distinct, counts_lent, area_sorted}
use Rattle.area.proofs.fill.sort_area.Goals as goal

pub sort_blocks-requires : goal.sort_blocks-requires
sort_blocks-requires c =
    let start = c in
    reaching_distinct start.args.area.now start.args.reaching.now start.args.live.now start.requires.0 start.requires.1 start.requires.2

pub sort_blocks-requires-2 : goal.sort_blocks-requires-2
sort_blocks-requires-2 c =
    let start = c in
    live_distinct start.args.area.now start.args.reaching.now start.args.live.now start.requires.0 start.requires.1 start.requires.2 c.sort_blocks.ensures

pub write_counts-requires : goal.write_counts-requires
write_counts-requires c =
    let start = c in
    (counts_lent start.args.area.now start.args.reaching.now start.args.live.now start.requires.0 start.requires.1 start.requires.2 c.sort_blocks.ensures c.sort_blocks-2.ensures, start.requires.1.counts24, start.requires.2.counts24)

pub returns : goal.returns
returns c =
    let start = c in
    area_sorted start.args.area.now start.args.reaching.now start.args.live.now start.requires.0 start.requires.1 start.requires.2 c.sort_blocks.ensures c.sort_blocks-2.ensures c.write_counts.ensures
