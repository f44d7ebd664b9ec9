-- `planned` meets its contract: what Table answers decides first, and then check 21. Assumes nothing.
use native.Mathlib.Omega.{arith}
use Rattle.responses.proofs.PlanLaws.{plan_passing, plan_refused, plan_wrong, plan_decided}
use Rattle.responses.proofs.plan.planned.Goals as goal

pub bounds-file-6 : goal.bounds-file-6
bounds-file-6 c = omega (arith, (plan_passing 16 c.args.file.now c.args.area.now c.args.times.now c.args.penalty c.table.ensures.0 c.in_default.is).long)

pub is_refused-requires : goal.is_refused-requires
is_refused-requires c =
    omega (arith, (plan_passing 16 c.args.file.now c.args.area.now c.args.times.now c.args.penalty c.table.ensures.0 c.in_default.is).t_high, c.byte_count.ensures.0)

pub returns-in-Err : goal.returns-in-Err
returns-in-Err c = (
  plan_refused 16 c.args.file.now c.args.area.now c.args.times.now c.args.penalty c.table.ensures.0 c.in-Err.is c.table.ensures.1,
  c.table.ensures.2,
)

pub returns-then-is_refused : goal.returns-then-is_refused
returns-then-is_refused c = (
  plan_wrong 16 c.args.file.now c.args.area.now c.args.times.now c.args.penalty c.table.ensures.0 c.in_default.is c.byte_count.ensures.0 c.from-penalty.ensures
      c.is_refused.ensures c.if-is_refused.true c.into.ensures c.table.ensures.1,
  c.table.ensures.2,
)

pub returns : goal.returns
returns c = (
  plan_decided 16 c.args.file.now c.args.area.now c.args.times.now c.args.penalty c.table.ensures.0 c.in_default.is c.byte_count.ensures.0 c.from-penalty.ensures
      c.is_refused.ensures c.if-is_refused.false c.table.ensures.1,
  c.table.ensures.2,
)
