-- What States answers is the verdict on its checks: `states_verdict`.
-- The idea: 1 and 15 compare numbers, 2 to 9 are those of the file, and the tasks of an accepted file are within the bounds of check 11's test.
use mathlib.Core.Path.{◌≡◌, refl}
use mathlib.Core.Logic.{◌↔◌}
use mathlib.Core.Bool.{Bool, true, false}
use mathlib.Core.List.{List, [], ◌∷◌}
use Prim.Native.Nat.{ℕ, ◌≤◌, ◌<◌}
use native.Mathlib.Omega.{arith}
use lib.Dec.{leb, ltb}
use lib.ListN.{length}
use borrow.Author.Tests.{leb-true, le-leb, ltb-true, ltb-false}
use Rattle.model.specs.Tasks.{task}
use Rattle.model.specs.States.{Fault11}
use Rattle.project.specs.File.{cache_blocks, task_count}
use Rattle.project.specs.Checklist.{AllPass, Verdict, numbers, Agreeing}
use Rattle.project.specs.Reading.{file_checks}
use Rattle.project.specs.Tasks.{tasks_of, file_cache_in, file_cache}
use Rattle.project.proofs.Checklists.{verdict_exact, passed_computed, agreeing_append}
use Rattle.project.proofs.TaskFaults.{Bytes}
use Rattle.project.proofs.Verdicts.{differ_exact, file_agreeing}
use Rattle.reader.proofs.TaskBodies.{passing_accepted, task-body, task-bounds}
use Rattle.rows.specs.Rows.{area_length}
use Rattle.graphs.specs.TaskRows.{test11}
use Rattle.graphs.proofs.TooMany.{test11_exact}
use Rattle.states.specs.Filling.{Fault15, asked_checks, states_checks, filling_of}

exact15 : (s : List ℕ) (j : ℕ) → (leb (task_count s) j ≡ true) ↔ Fault15 s j
exact15 s j = (λ e l. omega (arith, leb-true (task_count s) j e), λ f. go f (ltb j (task_count s)) refl)
  where
    go : Fault15 s j → (b : Bool) → ltb j (task_count s) ≡ b → leb (task_count s) j ≡ true
    go f true e = absurd (f (ltb-true j (task_count s) e))
    go f false e = le-leb (task_count s) j (ltb-false j (task_count s) e)

module _ (w : ℕ) (wide_enough : 16 ≤ w) (s : List ℕ) (h : Bytes s) (j : ℕ) (area : List ℕ) where
  -- check 11 of a task of an accepted file
  exact11 : AllPass (file_checks s) → (Fault15 s j → ⊥) → (test11 (file_cache_in w s) (task (tasks_of s) j) ≡ true) ↔ Fault11 (file_cache s) (task (tasks_of s) j)
  exact11 all below =
      let ok = passing_accepted s (passed_computed (file_checks s) (file_agreeing s h) all) in
      let l : j < task_count s = there (ltb j (task_count s)) refl in
      let b = task-body s ok j l in
      test11_exact w (cache_blocks s) b.low (omega (arith, b.high)) (task (tasks_of s) j) (task-bounds s j ok l).few
    where
      there : (b : Bool) → ltb j (task_count s) ≡ b → j < task_count s
      there true e = ltb-true j (task_count s) e
      there false e = absurd (below (λ l. omega (arith, ltb-false j (task_count s) e)))

  states_agreeing : Agreeing (states_checks w s j area)
  states_agreeing = (
    differ_exact (length area) (area_length w),
    λ p1. agreeing_append (file_checks s) (asked_checks w s j) (file_agreeing s h) (λ all. (exact15 s j, λ p15. (exact11 all p15, λ p11. tt))),
  )

  -- what States answers, for every list of bytes, task number and area
  pub states_verdict : Verdict (states_checks w s j area) (filling_of w s j area)
  unfolding filling_of
  states_verdict = verdict_exact (states_checks w s j area) states_agreeing

  -- "States checks 1 to 10, 15, then 11 for its task."; without 10 (document 02, Point 5)
  pub states-order : numbers (states_checks w s j area) ≡ 1 ∷ 2 ∷ 3 ∷ 4 ∷ 5 ∷ 6 ∷ 7 ∷ 8 ∷ 9 ∷ 15 ∷ 11 ∷ []
  states-order = refl
