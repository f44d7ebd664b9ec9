-- `fill::write_counts` meets its contract: three parts, lent one after the other, are the whole. Assumes nothing.
use borrow.Author.Rules.{rules}
use Rattle.area.proofs.Blocks.{counts_written}
use Rattle.area.proofs.fill.write_counts.Goals as goal

pub returns : goal.returns
returns c =
    let start = c in
    counts_written start.args.part.now start.args.reaching.now start.args.live.now start.requires.0 start.requires.1.many start.requires.2.many
    c.write_kind.ensures c.write_kind-2.ensures (c.fill.ensures.after (λ y e. search rules))
