-- `block::fewest_done` meets its contract: each answer is the number at the test that decides it. Assumes nothing.
use Rattle.search.proofs.BlockLaws.{fewest_none, fewest_some}
use Rattle.search.proofs.block.fewest_done.Goals as goal

pub returns-then-all-eq0 : goal.returns-then-all-eq0
returns-then-all-eq0 c = fewest_none c.args.all c.if-all-eq0.true

pub returns : goal.returns
returns c = fewest_some c.args.all c.if-all-eq0.false
