-- Document 01, "Calls" and "Numbers of the checks": Table, for rows of w places. Definitions only.
use Rattle.std.specs.Prelude.{◌≡◌, ◌≢◌, ◌⊎◌, Bool, not, ◌||◌, List, [], ◌∷◌, ◌++◌, map, ℕ, ◌+◌, ◌*◌, ◌<◌, eqb, length, get_or, Ok}
use Rattle.model.specs.States.{Fault11}
use Rattle.project.specs.declared.answers.Check.TheVariants.{ListLength, TooManyStates}
use Rattle.project.specs.File.{File, task_count}
use Rattle.project.specs.Checklist.{Entry, one, each, no_task, Of, Checked, verdict_of, left_by}
use Rattle.project.specs.Reading.{file_checks}
use Rattle.project.specs.Tasks.{tasks_of, file_cache_in, file_cache, file_pair}
use Rattle.rows.specs.Rows.{Area, area_length}
use Rattle.graphs.specs.TaskRows.{test11}
use Rattle.file_pairs.specs.FilePairs.{table_of}

-- check 1: "work area or table of another length"; the table is "of exactly 64 numbers"
abbrev pub test1 : ℕ → Area → List ℕ → Bool
test1 w area table = not (eqb (length area) (area_length w)) || not (eqb (length table) 64)

abbrev pub Fault1 : ℕ → Area → List ℕ → Type 0
Fault1 w area table = (length area ≢ area_length w) ⊎ (length table ≢ 64)

-- check 11 of all tasks
abbrev pub full_checks : ℕ → File → List Entry
full_checks w s = each TooManyStates (map (test11 (file_cache_in w s)) (tasks_of s)) (Of (Fault11 (file_cache s)) [] (tasks_of s)) ∷ []

-- "Table checks 1 to 11."; without 10 (document 02, Point 5)
abbrev pub table_checks : ℕ → File → Area → List ℕ → List Entry
table_checks w s area table = one ListLength no_task (test1 w area table) (Fault1 w area table) ∷ (file_checks s ++ full_checks w s)

abbrev pub table_check : ℕ → File → Area → List ℕ → Checked
table_check w s area table = verdict_of (table_checks w s area table)

abbrev pub table_answer : ℕ → File → Area → List ℕ → Checked
table_answer w s area table = table_check w s area table

-- "After a refusal table and out list keep their contents"
abbrev pub table_after : ℕ → File → Area → List ℕ → List ℕ
table_after w s area table = left_by (table_check w s area table) (table_of s) table

-- demand 3, of the pair numbers: "where table answers, they are its entries"
abbrev pub TableEntries : ℕ → File → Type 0
TableEntries w s =
    (area : Area) (table : List ℕ) → table_answer w s area table ≡ Ok tt → (i j : ℕ) → i < task_count s → j < task_count s → j ≢ i
    → get_or (table_after w s area table) (8 * i + j) 0 ≡ file_pair s i j
