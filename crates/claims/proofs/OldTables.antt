-- A file that passes checks 2 to 9, and of which no two tasks share a memory block, as the old check 10 asked, has the same table by the count before
-- Point 5: `old_tables`.
-- The idea: two such tasks have the same number by both counts, place by place.
use mathlib.Core.Path.{◌≡◌, refl, ap, ap₂}
use mathlib.Core.Bool.{Bool, true, false, ◌&&◌, not, cond}
use mathlib.Core.List.{List, ◌∷◌, ◌++◌}
use Prim.Native.Nat.{ℕ, zero, suc}
use lib.Dec.{eqb, ltb}
use borrow.Author.Tests.{eqb-false}
use Rattle.cache.specs.Cache.{row_from}
use Rattle.model.specs.Tasks.{task, Apart}
use Rattle.model.specs.Computed.{used_number}
use Rattle.model.proofs.OldNumbers.{old_number}
use Rattle.project.specs.File.{task_count}
use Rattle.project.specs.Checklist.{AllPass}
use Rattle.project.specs.Reading.{file_checks}
use Rattle.project.specs.Tasks.{tasks_of, file_cache, file_pair}
use Rattle.project.proofs.Checklists.{passed_computed}
use Rattle.project.proofs.TaskFaults.{Bytes}
use Rattle.project.proofs.Verdicts.{file_agreeing}
use Rattle.reader.proofs.TaskBodies.{reading, passing_accepted}
use Rattle.file_pairs.specs.FilePairs.{entry_of, rows_from, table_of}
use Rattle.project.specs.Checklist.{left_by}
use Rattle.table.specs.Table.{table_check}
use Rattle.claims.specs.OldTables.{old_entry, old_table, OldTables}

-- tables of equal entries
row_same : (f g : ℕ → ℕ) → ((j : ℕ) → f j ≡ g j) → (w c : ℕ) → row_from c w f ≡ row_from c w g
row_same f g e zero c = refl
row_same f g e (suc w) c = ap₂ (λ (x : ℕ) (l : List ℕ). x ∷ l) (e c) (row_same f g e w (suc c))

rows_same : (f g : ℕ → ℕ → ℕ) → ((i j : ℕ) → f i j ≡ g i j) → (left i : ℕ) → rows_from f left i ≡ rows_from g left i
rows_same f g e zero i = refl
rows_same f g e (suc left) i = ap₂ (λ (l r : List ℕ). l ++ r) (row_same (f i) (g i) (e i) 8 0) (rows_same f g e left (suc i))

module _ (s : List ℕ) (apart : Apart (tasks_of s)) where
  entry_same : (i j : ℕ) → entry_of s i j ≡ old_entry s i j
  entry_same i j = go (ltb i (task_count s)) (ltb j (task_count s)) (eqb i j) refl
    where
      go : (a b same : Bool) → eqb i j ≡ same → cond (a && (b && not same)) (file_pair s i j) 0 ≡ cond (a && (b && not same)) (used_number (file_cache s) (task (tasks_of s) i) (task (tasks_of s) j)) 0
      go true true false e = old_number (file_cache s) (task (tasks_of s) i) (task (tasks_of s) j) (apart i j (eqb-false i j e))
      go true true true e = refl
      go true false same e = refl
      go false b same e = refl

  table_same : table_of s ≡ old_table s
  unfolding table_of
  table_same = rows_same (entry_of s) (old_entry s) entry_same 8 0

pub old_tables : (s : List ℕ) → Bytes s → AllPass (file_checks s) → Apart (tasks_of s) → OldTables s
old_tables s h all apart = record {
  accepted = reading s (passing_accepted s (passed_computed (file_checks s) (file_agreeing s h) all));
  tables = λ area table. ap (λ (x : List ℕ). left_by (table_check 16 s area table) x table) (table_same s apart);
}
