-- `rules::preemptions_kept` meets its contract: what is left of the numbers keeps the rules just where the whole does. Assumes nothing.
use mathlib.Core.Path.{◌≡◌, ap, ◌∙◌}
use Prim.Native.Nat.{◌-◌}
use native.Mathlib.Omega.{arith}
use lib.ListN.{drop}
use Rattle.sheet.specs.Parsed.{preemptions_from, kept_list}
use Rattle.sheet.proofs.RuleLaws.{list-short, list-broken, list_turn, list-within, list-end}
use Rattle.sheet.proofs.rules.preemptions_kept.Goals as goal

pub loop-k-init : goal.loop-k-init
loop-k-init c =
    let a = c.args in
    let e : a.all - 0 ≡ a.all = omega arith in
    (omega arith, c.requires, ap (λ n. kept_list (preemptions_from a.tasks a.p a.long n 0 0 (drop a.from a.sheet.now))) e)

pub returns-then-sheet-at : goal.returns-then-sheet-at
returns-then-sheet-at c =
    let at = c.loop-k in
    let a = c.args in
    list-short a.tasks a.p a.long a.all at.k at.low at.low_done (omega arith) a.sheet.now at.at at.invariant.1 c.if-sheet-at.true ∙ at.invariant.2

pub returns-else-preemption_kept : goal.returns-else-preemption_kept
returns-else-preemption_kept c =
    let at = c.loop-k in
    let a = c.args in
    list-broken a.tasks a.p a.long a.all at.k at.low at.low_done (omega arith) a.sheet.now at.at (omega arith) c.preemption_kept.ensures c.if-preemption_kept.false ∙ at.invariant.2

pub loop-k-preserved : goal.loop-k-preserved
loop-k-preserved c =
    let turn = c in
    let at = turn.loop-k in
    let a = turn.args in
    let kept = turn.preemption_kept.ensures in
    let within = list-within a.tasks a.p a.long a.all at.k at.low at.low_done (omega arith) a.sheet.now at.at (omega arith) kept turn.if-preemption_kept.true in (
      omega arith,
      omega (arith, within, c.from.ensures),
      list_turn a.tasks a.p a.long a.all at.k at.low at.low_done (omega arith) a.sheet.now at.at (omega arith) kept turn.if-preemption_kept.true c.from-low.ensures c.from-low_done.ensures c.from.ensures
          ∙ at.invariant.2,
    )

pub returns : goal.returns
returns c =
    let at = c.loop-k in
    let a = c.args in
    list-end a.tasks a.p a.long a.all at.k at.low at.low_done a.sheet.now at.at (omega arith) at.invariant.1 ∙ at.invariant.2
