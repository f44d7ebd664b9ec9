-- The ways out of Table: what each answers, and what it leaves in the table, is what the definitions say.
-- The idea: a check that passed leaves the next one.
use mathlib.Core.Path.{◌≡◌, sym, ap, ◌∙◌}
use mathlib.Core.Bool.{false}
use mathlib.Core.List.{List, ◌++◌}
use Prim.Native.Nat.{ℕ}
use lib.ListN.{length}
use borrow.Author.Tests.{eq-eqb}
use Rattle.cache.specs.Shape.{shaped}
use Rattle.cache.specs.declared.blocks.CacheShape.{CacheShape}
use Rattle.std.specs.Prelude.{Ok, Err}
use Rattle.project.specs.declared.answers.Refusal.{Refusal}
use Rattle.project.specs.Checklist.{Checked, and_then, verdict_of, left_by}
use Rattle.project.specs.Reading.{file_checks, file_check, reading_of}
use Rattle.project.specs.Tasks.{tasks_of, file_shape, file_cache_in}
use Rattle.project.proofs.Checklists.{then_none, verdict_append}
use Rattle.reader.proofs.TaskBodies.{refused_check}
use Rattle.rows.specs.Rows.{area_length}
use Rattle.file_pairs.specs.FilePairs.{first_full, table_of}
use Rattle.table.specs.Table.{test1, full_checks, table_check, table_answer, table_after}

-- the checks after 1: those of the file, and check 11 of all tasks
pub later-parts : (w : ℕ) (s : List ℕ) → verdict_of (file_checks s ++ full_checks w s) ≡ and_then (file_check s) (first_full (file_cache_in w s) 0 (tasks_of s))
later-parts w s = verdict_append (file_checks s) (full_checks w s) ∙ ap (and_then (file_check s)) (then_none (first_full (file_cache_in w s) 0 (tasks_of s)))

refused_as : (table new : List ℕ) {r answer : Checked} {x : Refusal} → r ≡ Err x → answer ≡ Err x → (answer ≡ r) × (table ≡ left_by r new table)
refused_as table new e q = (q ∙ sym e, rw e)

-- ---- the call, for rows of w places

module _ (w : ℕ) (s area table : List ℕ) where
  -- what is answered, and what the table holds afterwards
  abbrev Ends : Checked → List ℕ → Type 0
  Ends answer now = (answer ≡ table_answer w s area table) × (now ≡ table_after w s area table)

  module _ (g : length area ≡ area_length w) (h : length table ≡ 64) where
    right : test1 w area table ≡ false
    right = rw (eq-eqb (length area) (area_length w) g, eq-eqb (length table) 64 h)

    -- the answer and the table by what the checks after 1 say
    by-later : (r : Checked) → and_then (file_check s) (first_full (file_cache_in w s) 0 (tasks_of s)) ≡ r → table_check w s area table ≡ r
    by-later r e = rw right (later-parts w s ∙ e)

    pub not_read : {r : Refusal} {answer : Checked} → reading_of s ≡ Err r → answer ≡ Err r → Ends answer table
    not_read {r} e q = refused_as table (table_of s) (by-later (Err r) (rw (refused_check s e))) q

    -- the file is accepted, and check 11 is left
    pub as_filled : {shape : CacheShape} {answer : Checked} {now : List ℕ} → file_check s ≡ Ok tt → shape ≡ file_shape s
        → answer ≡ first_full (shaped w shape) 0 (tasks_of s) → now ≡ left_by (first_full (shaped w shape) 0 (tasks_of s)) (table_of s) table → Ends answer now
    as_filled {shape} p e q z =
        let same : first_full (shaped w shape) 0 (tasks_of s) ≡ table_check w s area table = ap (λ (x : CacheShape). first_full (shaped w x) 0 (tasks_of s)) e ∙ sym (by-later _ (rw p)) in
        (q ∙ same, z ∙ ap (λ (r : Checked). left_by r (table_of s) table) same)
