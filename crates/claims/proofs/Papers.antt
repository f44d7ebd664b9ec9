-- The examples of document 01 marked (P), over files and what the calls answer for them, as one theorem: `papers`.
-- The idea: lists of the right length pass check 1; all else computes, so `refl` proves it. The counts stand where States puts them.
use Rattle.std.specs.Prelude.{Ok}
use Rattle.project.specs.Checklist.{Checked, left_by}
use mathlib.Core.Path.{◌≡◌, refl, ap, ◌∙◌}
use mathlib.Core.Bool.{true, false}
use mathlib.Core.List.{List, [], ◌∷◌, ◌++◌}
use Prim.Native.Nat.{ℕ}
use lib.ListN.{length, get_or}
use borrow.Author.Tests.{eq-eqb}
use native.Mathlib.Omega.{arith}
use Rattle.cache.specs.References.{nothing, numbers}
use Rattle.body.specs.Decode.{decode, blocks_from}
use Rattle.project.specs.FileE.{file_e}
use Rattle.project.specs.Checklist.{verdict_of}
use Rattle.project.specs.Reading.{file_checks}
use Rattle.states.specs.Filling.{task_check, filling_of}
use Rattle.states.proofs.AreaStates.{count_at_lem}
use Rattle.file_pairs.specs.FilePairs.{table_of}
use Rattle.table.specs.Table.{full_checks, table_check}
use Rattle.sheet.specs.Parsed.{preemptions_from, after_path, parse}
use Rattle.claims.specs.Files.{figure_and_block, figure_and_fork, five_forks}
use Rattle.claims.specs.Papers.{TableHolds, StatesCount, Papers}

-- a file whose checks pass: Table fills the table, which then is the table of the definitions
holds : (s : List ℕ) (place x : ℕ) → verdict_of (file_checks s ++ full_checks 16 s) ≡ Ok tt → get_or (table_of s) place 0 ≡ x → TableHolds s place x
holds s place x ok e area table ha ht =
    let p : table_check 16 s area table ≡ Ok tt = rw (eq-eqb (length area) 24832 ha, eq-eqb (length table) 64 ht) ok in
    (p, ap (λ (r : Checked). get_or (left_by r (table_of s) table) place 0) p ∙ e)

-- a task whose checks pass: States fills the area
fills : (s : List ℕ) → task_check 16 s 0 ≡ Ok tt → (area : List ℕ) → length area ≡ 24832 → filling_of 16 s 0 area ≡ Ok tt
unfolding filling_of
fills s ok area h = rw (eq-eqb (length area) 24832 h, ok)

figure_counts_lem : StatesCount figure_and_block (4 ∷ 1 ∷ 3 ∷ 3 ∷ []) (4 ∷ 4 ∷ 4 ∷ 4 ∷ [])
unfolding nothing numbers decode blocks_from
figure_counts_lem area h = (
  ok,
  (count_at_lem 16 figure_and_block 0 area ok 0 (omega arith) false, (count_at_lem 16 figure_and_block 0 area ok 1 (omega arith) false, (count_at_lem 16 figure_and_block 0 area ok 2 (omega arith) false, (count_at_lem 16 figure_and_block 0 area ok 3 (omega arith) false, tt)))),
  (count_at_lem 16 figure_and_block 0 area ok 0 (omega arith) true, (count_at_lem 16 figure_and_block 0 area ok 1 (omega arith) true, (count_at_lem 16 figure_and_block 0 area ok 2 (omega arith) true, (count_at_lem 16 figure_and_block 0 area ok 3 (omega arith) true, tt)))),
)
  where
    ok : filling_of 16 figure_and_block 0 area ≡ Ok tt
    ok = fills figure_and_block refl area h

pub papers : Papers
unfolding nothing numbers decode blocks_from table_of parse after_path preemptions_from
papers =
    record {
      accepted_e = refl;
      accepted_block = refl;
      accepted_fork = refl;
      accepted_forks = refl;
      entry_e01 = holds file_e 1 1 refl refl;
      entry_e10 = holds file_e 8 0 refl refl;
      replayed = refl;
      quiet = refl;
      later = refl;
      figure_counts = figure_counts_lem;
      against_block = holds figure_and_block 1 3 refl refl;
      against_fork = holds figure_and_fork 1 2 refl refl;
      few_forks = λ area h. (fills five_forks refl area h, tt, tt);
      table_forks = holds five_forks 0 0 refl refl;
    }
