-- Document 01, "Calls": check 11 of all tasks of a file, and the pair numbers of a file as they stand in a table. Definitions only.
use Rattle.std.specs.Prelude.{not, ◌&&◌, cond, List, [], ◌++◌, map, ℕ, zero, suc, eqb, ltb}
use Rattle.cache.specs.Cache.{Cache, row_from}
use Rattle.model.specs.Tasks.{Task}
use Rattle.project.specs.declared.answers.Check.TheVariants.{TooManyStates}
use Rattle.project.specs.File.{File, task_count}
use Rattle.project.specs.Checklist.{Checked, lowest}
use Rattle.project.specs.Tasks.{file_pair}
use Rattle.graphs.specs.TaskRows.{test11}

-- check 11 "names the lowest task at fault", from task j on
abbrev pub first_full : Cache → ℕ → List Task → Checked
first_full k j ts = lowest TooManyStates j (map (test11 k) ts)

-- "place 8i + j gets the pair number of i preempted by j; the diagonal and places of absent tasks get 0": place (i, j)
abbrev pub entry_of : File → ℕ → ℕ → ℕ
entry_of s i j = cond (ltb i (task_count s) && (ltb j (task_count s) && not (eqb i j))) (file_pair s i j) 0

-- the eight places of each of `left` rows, from row i on
abbrev pub rows_from : (ℕ → ℕ → ℕ) → ℕ → ℕ → List ℕ
rows_from f zero i = []
rows_from f (suc left) i = row_from 0 8 (f i) ++ rows_from f left (suc i)

unfoldable pub table_of : File → List ℕ
table_of s = rows_from (entry_of s) 8 0
