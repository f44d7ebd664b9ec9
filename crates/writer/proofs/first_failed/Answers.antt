-- `first_failed` meets its contract: each return follows from the tests that led there. Assumes nothing.
use mathlib.Core.Path.{◌≡◌, sym, ap, ◌∙◌}
use mathlib.Core.Bool.{true}
use mathlib.Core.List.{List}
use Prim.Native.Nat.{ℕ, ◌*◌}
use native.Mathlib.Omega.{arith}
use lib.Dec.{eqb}
use lib.ListN.{length}
use borrow.Author.Tests.{le-ltb}
use Rattle.project.specs.Ends.{nine, between}
use Rattle.project.specs.Reading.{tasks_check}
use Rattle.project.specs.Writing.{total, cut}
use Rattle.project.proofs.Checklists.{refused_by}
use Rattle.writer.specs.Pieces.{sums}
use Rattle.project.proofs.Heads.{not-below}
use Rattle.writer.proofs.EndsLaws.{found-fit, cut-order, between-cut}
use Rattle.writer.proofs.CheckLaws.{Past7, at_tasks, at14, at_none}
use Rattle.writer.proofs.first_failed.Goals as goal
use Rattle.writer.proofs.first_failed.Goals.{After-check_tasks, Else-edition-n, Else-t-gt8, In_ok-ends}

-- the ends that were found, which are those of the lengths
found : (c : In_ok-ends) → (let args = c.args in (eqb (total args.lengths.now) (length args.bodies.now) ≡ true) × (c.in_ok-ends.ends ≡ nine (sums 0 args.lengths.now)))
found c = found-fit c.args.bodies.now c.args.lengths.now (sym c.ends_of.ensures ∙ c.in_ok-ends.ensures.ok_part)

past7 : (c : In_ok-ends) → (let args = c.args in Past7 args.edition args.n args.bodies.now args.lengths.now args.out.now)
past7 c = (
  (
    not-below c.args.n 1 c.if-n-lt1.false (le-ltb (16 * c.args.edition) c.args.n c.if-edition-n.false),
    not-below (length c.args.lengths.now) 1 c.if-t-lt1.false (le-ltb 8 (length c.args.lengths.now) (omega arith)),
  ),
  (found-fit c.args.bodies.now c.args.lengths.now (sym c.ends_of.ensures ∙ c.in_ok-ends.ensures.ok_part)).0,
)

-- what the checks over tasks say of the bodies that the joined bodies are cut into
checked : (c : After-check_tasks) → (let args = c.args in c.check_tasks.result ≡ tasks_check (cut args.bodies.now args.lengths.now))
checked c =
    let s = c.args.bodies.now in
    let ls = c.args.lengths.now in
    let (sum, ends) = found-fit s ls (sym c.ends_of.ensures ∙ c.in_ok-ends.ensures.ok_part) in
    c.check_tasks.ensures
    ∙ ap (λ (e : List ℕ). tasks_check (between s e (length ls) 0)) ends
    ∙ ap tasks_check (between-cut s ls (omega arith) sum)

pub check_tasks-requires : goal.check_tasks-requires
check_tasks-requires c =
    let args = c.args in
    let (sum, ends) = found (goal.at.check_tasks-requires c).In_ok-ends in
    rw ends (cut-order args.bodies.now args.lengths.now (omega arith) sum)

pub returns-in_err-check_tasks : goal.returns-in_err-check_tasks
returns-in_err-check_tasks c =
    let args = c.args in
    refused_by c.from_residual-in_err-check_tasks.ensures
    ∙ at_tasks args.edition args.n args.bodies.now args.lengths.now args.out.now (past7 (goal.at.returns-in_err-check_tasks c).In_ok-ends) (sym (checked (goal.at.returns-in_err-check_tasks c).After-check_tasks) ∙ c.in_err-check_tasks.was)

pub returns-then-out-byte_count : goal.returns-then-out-byte_count
returns-then-out-byte_count c =
    let args = c.args in
    let t = sym (checked (goal.at.returns-then-out-byte_count c).After-check_tasks) ∙ c.in_ok-check_tasks.was in
    at14 args.edition args.n args.bodies.now args.lengths.now args.out.now c.into-then-out-byte_count.ensures (past7 (goal.at.returns-then-out-byte_count c).In_ok-ends) t (omega (arith, c.if-out-byte_count.true, c.byte_count.ensures.0))

pub returns : goal.returns
returns c =
    let args = c.args in
    sym (at_none args.edition args.n args.bodies.now args.lengths.now args.out.now (past7 (goal.at.returns c).In_ok-ends) (sym (checked (goal.at.returns c).After-check_tasks) ∙ c.in_ok-check_tasks.was) (omega (arith, c.if-out-byte_count.false, c.byte_count.ensures.0)))
