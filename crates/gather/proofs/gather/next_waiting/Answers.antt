-- `gather::next_waiting` meets its contract: the blocks that were passed do not wait. Assumes nothing.
use Prim.Native.Nat.{ℕ, ◌≤◌}
use native.Mathlib.Omega.{arith}
use borrow.Author.Count.{below_more}
use lib.ListN.{get_or}
use Rattle.gather.proofs.gather.next_waiting.Goals as goal

pub returns-then-done-last : goal.returns-then-done-last
returns-then-done-last c = record { waits = λ h. c.if-done-last.true; none = λ h. absurd (omega arith) }

pub loop-b-init : goal.loop-b-init
loop-b-init c = (omega arith, λ d l. absurd (omega arith))

pub returns-then-done-b : goal.returns-then-done-b
returns-then-done-b c = record { waits = λ h. c.if-done-b.true; none = λ h. absurd (omega arith) }

pub loop-b-preserved : goal.loop-b-preserved
loop-b-preserved c =
    let args = c.args in
    let at = c.loop-b in
    (omega arith, below_more (λ (d : ℕ). get_or args.counts.now d 0 ≤ get_or args.done.now d 0) at.b at.invariant.1 c.if-done-b.false)

pub returns : goal.returns
returns c = record { waits = λ h. absurd (omega arith); none = λ h d l. c.loop-b.invariant.1 d (omega arith) }
