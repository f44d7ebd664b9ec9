-- `set_responses` meets its contract: each turn sets one record. Assumes nothing.
use mathlib.Core.Path.{◌≡◌, ap, ◌∙◌}
use Prim.Native.Nat.{ℕ}
use native.Mathlib.Omega.{arith}
use Rattle.response.specs.Times.{no_record, with_responses}
use Rattle.responses.specs.Plan.{plan_response}
use Rattle.responses.proofs.ListLaws.{set-none, set_turn}
use Rattle.responses.proofs.set_responses.Goals as goal

pub loop-i-init : goal.loop-i-init
loop-i-init c = set-none (plan_response c.args.plan.now) 0 c.args.list.now

pub loop-i-preserved : goal.loop-i-preserved
loop-i-preserved c =
    set_turn (plan_response c.args.plan.now) c.loop-i.i c.args.list.now c.loop-i.list no_record (omega arith) c.loop-i.invariant c.record_by.ensures

pub returns : goal.returns
returns c =
    let end : c.loop-i.i ≡ c.args.plan.now.count = omega arith in
    c.loop-i.invariant ∙ ap (λ (n : ℕ). with_responses (plan_response c.args.plan.now) 0 n c.args.list.now) end
