-- `Higher::response` meets its contract: every number that the iteration takes lies below each one that meets the equation, and it rises until it meets it or
-- passes the deadline. Assumes nothing.
use mathlib.Core.Path.{◌≡◌, sym, ◌∙◌, subst}
use Prim.Native.Nat.{ℕ, ◌≤◌}
use native.Mathlib.Omega.{arith}
use Rattle.response.specs.Response.{demand}
use Rattle.response.specs.Iteration.{Below}
use Rattle.response.proofs.ResponseLaws.{met_some, met_none, below_next, below_met, below-late, answer_unique, demand_mono}
use Rattle.response.proofs.Higher.response.Goals as goal
use Rattle.response.proofs.Higher.response.Goals.{Start}

-- what is asked for grows with the time
grows : (c : Start) (r s : ℕ) → r ≤ s
    → demand c.args.c c.args.self.now.periods c.args.self.now.costs c.args.self.now.count r ≤ demand c.args.c c.args.self.now.periods c.args.self.now.costs c.args.self.now.count s
grows c r s l = demand_mono c.args.c c.args.self.now.periods c.args.self.now.costs c.args.self.now.count c.requires.0.some r s l

pub earliest-r-requires : goal.earliest-r-requires
earliest-r-requires c = (c.requires.0, c.requires.1, c.requires.2)

pub loop-r-init : goal.loop-r-init
loop-r-init c = c.earliest-r.ensures.1

pub asked-next-requires : goal.asked-next-requires
asked-next-requires c =
    let start = c in
    (start.requires.0, start.requires.2, omega arith)

pub returns-then-next-r : goal.returns-then-next-r
returns-then-next-r c =
    let start = c in
    let at = c.loop-r in
    let args = start.args in
    let f = demand args.c args.self.now.periods args.self.now.costs args.self.now.count in
    let e : c.asked-next.result ≡ at.r = omega arith in
    met_some at.invariant.positive
    (answer_unique f args.d at.r (below_met f (grows (goal.at.returns-then-next-r c).Start) args.d at.r at.invariant (omega arith) (sym e ∙ c.asked-next.ensures)))

pub loop-r-smaller : goal.loop-r-smaller
loop-r-smaller c =
    let at = c.loop-r in
    omega (arith, c.asked-next.ensures, at.invariant.rises)

pub loop-r-preserved : goal.loop-r-preserved
loop-r-preserved c =
    let start = c in
    let at = c.loop-r in
    let args = start.args in
    let f = demand args.c args.self.now.periods args.self.now.costs args.self.now.count in
    subst (λ (x : ℕ). Below f x) (sym c.asked-next.ensures) (below_next f (grows (goal.at.loop-r-preserved c).Start) at.r at.invariant)

pub returns : goal.returns
returns c =
    let start = c in
    let at = c.loop-r in
    let args = start.args in
    let f = demand args.c args.self.now.periods args.self.now.costs args.self.now.count in
    met_none (answer_unique f args.d 0 (below-late f (grows (goal.at.returns c).Start) args.d at.r at.invariant (omega arith)))
