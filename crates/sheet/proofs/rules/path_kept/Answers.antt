-- `rules::path_kept` meets its contract: each answer is the test at the bound that decides it. Assumes nothing.
use borrow.Author.Rules.{rules}
use borrow.Author.Tests.{lt-leb, le-leb}
use Rattle.sheet.proofs.rules.path_kept.Goals as goal

pub returns-then-long-lt1 : goal.returns-then-long-lt1
returns-then-long-lt1 c = search (rules, lt-leb, le-leb)

pub returns-then-long-gt-BLOCKS : goal.returns-then-long-gt-BLOCKS
returns-then-long-gt-BLOCKS c = search (rules, lt-leb, le-leb)

pub returns : goal.returns
returns c = search (rules, lt-leb, le-leb)
