-- What Table answers is the verdict on its checks: `table_verdict`.
-- The idea: 1 compares lengths, 2 to 9 are those of the file, and the tasks of an accepted file are within the bounds of check 11's test.
use mathlib.Core.Path.{◌≡◌, refl}
use mathlib.Core.Logic.{◌↔◌}
use mathlib.Core.Bool.{true, not}
use mathlib.Core.List.{List, [], ◌∷◌}
use Prim.Native.Nat.{ℕ, ◌≤◌, ◌<◌}
use native.Mathlib.Omega.{arith}
use lib.Dec.{eqb}
use lib.ListN.{length}
use Rattle.model.specs.Tasks.{task}
use Rattle.model.specs.States.{Fault11}
use Rattle.project.specs.File.{cache_blocks}
use Rattle.project.specs.Checklist.{AllPass, Verdict, numbers, Agreeing}
use Rattle.project.specs.Reading.{file_checks}
use Rattle.project.specs.Tasks.{tasks_of, file_cache_in, file_cache}
use Rattle.project.proofs.Checklists.{verdict_exact, passed_computed, agreeing_append, of_exact}
use Rattle.project.proofs.TaskFaults.{Bytes}
use Rattle.project.proofs.Verdicts.{differ_exact, either_exact, file_agreeing}
use Rattle.reader.proofs.TaskBodies.{passing_accepted, task-body, tasks_long, task-bounds}
use Rattle.rows.specs.Rows.{area_length}
use Rattle.graphs.specs.TaskRows.{test11}
use Rattle.graphs.proofs.TooMany.{test11_exact}
use Rattle.table.specs.Table.{full_checks, table_checks, table_answer}

module _ (w : ℕ) (wide_enough : 16 ≤ w) (s : List ℕ) (h : Bytes s) (area table : List ℕ) where
  -- check 11 of the tasks of an accepted file
  pub exact11 : AllPass (file_checks s) → (j : ℕ) → j < length (tasks_of s) → (test11 (file_cache_in w s) (task (tasks_of s) j) ≡ true) ↔ Fault11 (file_cache s) (task (tasks_of s) j)
  exact11 all j inside =
      let ok = passing_accepted s (passed_computed (file_checks s) (file_agreeing s h) all) in
      let l = rw (tasks_long s) at inside in
      let b = task-body s ok j l in
      test11_exact w (cache_blocks s) b.low (omega (arith, b.high)) (task (tasks_of s) j) (task-bounds s j ok l).few

  table_agreeing : Agreeing (table_checks w s area table)
  table_agreeing = (
    either_exact (not (eqb (length area) (area_length w))) (not (eqb (length table) 64)) (differ_exact (length area) (area_length w)) (differ_exact (length table) 64),
    λ p1. agreeing_append (file_checks s) (full_checks w s) (file_agreeing s h)
        (λ all. (of_exact (test11 (file_cache_in w s)) (Fault11 (file_cache s)) [] (tasks_of s) (exact11 all), λ p11. tt)),
  )

  -- what Table answers, for every list of bytes, area and table
  pub table_verdict : Verdict (table_checks w s area table) (table_answer w s area table)
  table_verdict = verdict_exact (table_checks w s area table) table_agreeing

  -- "Table checks 1 to 11."; without 10 (document 02, Point 5)
  pub table_order : numbers (table_checks w s area table) ≡ 1 ∷ 2 ∷ 3 ∷ 4 ∷ 5 ∷ 6 ∷ 7 ∷ 8 ∷ 9 ∷ 11 ∷ []
  table_order = refl
