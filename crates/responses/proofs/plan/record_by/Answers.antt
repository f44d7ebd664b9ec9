-- `record_by` meets its contract. Assumes nothing.
use native.Mathlib.Omega.{arith}
use borrow.Author.Rules.{rules}
use Rattle.responses.proofs.plan.record_by.Goals as goal

pub answered-requires : goal.answered-requires
answered-requires c =
    let pre = c.requires in
    (search rules, omega (arith, pre.0.few, pre.1), pre.0.low, λ j l. pre.0.each j (omega (arith, pre.1)))
