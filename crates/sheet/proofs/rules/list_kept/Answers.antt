-- `rules::list_kept` meets its contract: the count decides, or the preemptions do. Assumes nothing.
use native.Mathlib.Omega.{arith}
use Rattle.sheet.proofs.RuleLaws.{count_none, count-many, count-list}
use Rattle.sheet.proofs.rules.list_kept.Goals as goal

pub returns-then-sheet-at : goal.returns-then-sheet-at
returns-then-sheet-at c =
    let a = c.args in
    count_none a.tasks a.p a.long a.sheet.now a.at c.if-sheet-at.true

pub returns-then-all-gt-PREEMPTIONS : goal.returns-then-all-gt-PREEMPTIONS
returns-then-all-gt-PREEMPTIONS c =
    let a = c.args in
    count-many a.tasks a.p a.long a.sheet.now a.at (omega arith) c.from-all.ensures c.if-all-gt-PREEMPTIONS.true

pub returns : goal.returns
returns c =
    let k = c in
    let a = k.args in
    count-list a.tasks a.p a.long a.sheet.now a.at (omega arith) k.from-all.ensures c.if-all-gt-PREEMPTIONS.false c.preemptions_kept.ensures
