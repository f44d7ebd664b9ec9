-- `tasks::first_at_fault` meets its contract: the bodies passed are not at fault. Assumes nothing.
use mathlib.Core.Path.{sym, ap, ◌∙◌}
use Prim.Native.Nat.{ℕ}
use native.Mathlib.Omega.{arith}
use Rattle.std.specs.Prelude.{Err}
use Rattle.project.specs.Checklist.{refusal}
use Rattle.reader.proofs.TaskLaws.{lowest_pass, lowest_fail}
use Rattle.reader.proofs.tasks.first_at_fault.Goals as goal

pub returns-then-at_fault : goal.returns-then-at_fault
returns-then-at_fault g c = λ test tests.
    ap (λ (k : ℕ). Err (refusal c.args.check k)) c.task_byte.ensures
    ∙ lowest_fail c.args.bytes.now c.args.ends c.args.count c.loop-j.j (omega arith) c.args.check test (sym (tests _ _ c.at_fault.ensures) ∙ c.if-at_fault.true)
    ∙ c.loop-j.invariant.1 test tests

pub loop-j-preserved : goal.loop-j-preserved
loop-j-preserved g c = (
  omega arith,
  λ test tests.
      lowest_pass c.args.bytes.now c.args.ends c.args.count c.loop-j.j (omega arith) c.args.check test (sym (tests _ _ c.at_fault.ensures) ∙ c.if-at_fault.false)
      ∙ c.loop-j.invariant.1 test tests,
)
