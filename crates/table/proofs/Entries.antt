-- A table that Table fills: its file is accepted, and its places hold the pair numbers.
use mathlib.Core.Path.{◌≡◌, sym, ap, ◌∙◌}
use mathlib.Core.List.{List}
use Prim.Native.Nat.{ℕ, ◌+◌, ◌*◌, ◌<◌}
use native.Mathlib.Nat.{zero-add}
use native.Mathlib.Omega.{arith}
use lib.ListN.{get_or}
use borrow.Author.Tests.{lt-ltb, ne_eqb}
use Rattle.std.specs.Prelude.{Ok, Err}
use Rattle.project.specs.declared.answers.Check.TheVariants.{ListLength}
use Rattle.project.specs.declared.answers.Refusal.{Refusal}
use Rattle.project.specs.Checklist.{no_task}
use Rattle.project.specs.Reading.{file_check}
use Rattle.project.specs.File.{task_count}
use Rattle.project.proofs.Accepted.{unless-passed, then_passed, passing}
use Rattle.file_pairs.specs.FilePairs.{entry_of, table_of}
use Rattle.table.specs.Table.{test1, table_check, table_answer, TableEntries}
use Rattle.file_pairs.proofs.TableLaws.{place_at}
use Rattle.table.proofs.Answers.{later-parts}

-- where Table refuses, its checks failed with that refusal
pub refused_failed : (w : ℕ) (s area table : List ℕ) {r : Refusal} → table_answer w s area table ≡ Err r → table_check w s area table ≡ Err r
refused_failed w s area table e = e

-- the checks of the file pass where those of Table do
pub passed-file : (w : ℕ) (s area table : List ℕ) → table_check w s area table ≡ Ok tt → file_check s ≡ Ok tt
passed-file w s area table e = (then_passed (file_check s) _ (sym (later-parts w s) ∙ (unless-passed ListLength no_task (test1 w area table) _ e).1)).0

-- the table's places hold the entries
pub table_place : (s : List ℕ) (i j : ℕ) → i < 8 → j < 8 → get_or (table_of s) (8 * i + j) 0 ≡ entry_of s i j
unfolding table_of
table_place s i j a b = place_at (entry_of s) 8 0 i j a b ∙ ap (λ (k : ℕ). entry_of s k j) (zero-add i)

pub table_entries : (w : ℕ) (s : List ℕ) → TableEntries w s
table_entries w s area table e i j hi hj d =
    let few = (passing s (passed-file w s area table e)).t_high in
    rw e
    (table_place s i j (omega arith) (omega arith) ∙ rw (lt-ltb i (task_count s) hi, lt-ltb j (task_count s) hj, ne_eqb i j (λ q. d (sym q))))
