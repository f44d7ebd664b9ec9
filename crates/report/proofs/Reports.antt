-- What Table answers for a file decides what is printed for it.
-- The idea: lists of the right lengths pass check 1, so Table's checks are those of the file.
use mathlib.Core.Path.{◌≡◌, sym, ap, subst, ◌∙◌}
use mathlib.Core.List.{List, ◌++◌}
use Prim.Native.Nat.{ℕ, ◌≤◌}
use lib.ListN.{length, drop}
use borrow.Author.Tests.{eq-eqb}
use Rattle.std.specs.Prelude.{Ok, Err}
use Rattle.project.specs.declared.answers.Refusal.{Refusal}
use Rattle.project.specs.Checklist.{number_of, Checked, left_by}
use Rattle.project.specs.File.{cache_blocks, task_count}
use Rattle.project.specs.Reading.{file_check}
use Rattle.project.specs.Tasks.{tasks_of, file_cache_in}
use Rattle.project.proofs.Accepted.{Passing, passing, then_passed}
use Rattle.file_pairs.specs.FilePairs.{first_full, table_of}
use Rattle.table.specs.Table.{table_check, table_answer, table_after}
use Rattle.table.proofs.Answers.{later-parts}
use Rattle.text.specs.Text.{table_text, refusal_line}
use Rattle.report.specs.Printed.{checks_of, printed_after, printed}

module _ (s area table : List ℕ) (ha : length area ≡ 24832) (ht : length table ≡ 64) {answer : Checked} (told : answer ≡ table_answer 16 s area table) where
  checks : table_check 16 s area table ≡ checks_of s
  unfolding checks_of
  checks = rw (eq-eqb (length area) 24832 ha, eq-eqb (length table) 64 ht)

  -- Table's answer is that of the file's checks
  pub answer_is : answer ≡ checks_of s
  answer_is = told ∙ checks

  -- a refusal is printed as one line
  pub printed-refused : {r : Refusal} → answer ≡ Err r → printed s ≡ refusal_line (number_of r.check) r.task
  unfolding printed
  printed-refused e = ap (λ (k : Checked). printed_after k s) (sym answer_is ∙ e)

  module _ (e : answer ≡ Ok tt) where
    -- the file is accepted
    pub filled_passing : Passing 1 s
    unfolding checks_of
    filled_passing = passing s (then_passed (file_check s) (first_full (file_cache_in 16 s) 0 (tasks_of s)) (sym (later-parts 16 s) ∙ sym answer_is ∙ e)).0

    -- what the table now holds is printed
    pub printed-filled : {numbers : List ℕ} → numbers ≡ table_after 16 s area table → printed s ≡ table_text (cache_blocks s) (task_count s) numbers
    unfolding printed
    printed-filled q =
        ap (λ (k : Checked). printed_after k s) (sym answer_is ∙ e)
        ∙ ap (table_text (cache_blocks s) (task_count s)) (sym (q ∙ ap (λ (k : Checked). left_by k (table_of s) table) (sym told ∙ e)))

-- the text at the front of the list is what is printed
pub at_front_lem : (s l text : List ℕ) {l1 : List ℕ} {r : ℕ} → printed s ≡ text → (r ≡ length text) × (r ≤ 2048) × (l1 ≡ text ++ drop (length text) l)
    → (r ≡ length (printed s)) × (r ≤ 2048) × (l1 ≡ printed s ++ drop (length (printed s)) l)
at_front_lem s l text {l1} {r} e h = subst (λ (x : List ℕ). (r ≡ length x) × (r ≤ 2048) × (l1 ≡ x ++ drop (length x) l)) (sym e) h
