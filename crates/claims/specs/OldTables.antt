-- Document 02, Point 5: "Files accepted before have their old tables.", which speaks of the tables of that time. Since Point 6, which changes numbers, it
-- is about the two counts over the points of Point 6. Definitions only.
use Rattle.claims.specs.Files.{accepted_as}
use Rattle.std.specs.Prelude.{◌≡◌, ◌&&◌, not, cond, List, ℕ, eqb, ltb}
use Rattle.model.specs.Tasks.{task}
use Rattle.model.specs.Computed.{used_number}
use Rattle.project.specs.File.{File, cache_blocks, task_count}
use Rattle.project.specs.Reading.{reading_of}
use Rattle.project.specs.Tasks.{tasks_of, file_cache}
use Rattle.rows.specs.Rows.{Area}
use Rattle.file_pairs.specs.FilePairs.{rows_from}
use Rattle.project.specs.Checklist.{left_by}
use Rattle.table.specs.Table.{table_check, table_after}

-- the table by the count before Point 5: at 8 i + j "the most cache blocks both useful in i and used by j", over the points of Point 6, and 0 on the
-- diagonal and for absent tasks
abbrev pub old_entry : File → ℕ → ℕ → ℕ
old_entry s i j = cond (ltb i (task_count s) && (ltb j (task_count s) && not (eqb i j))) (used_number (file_cache s) (task (tasks_of s) i) (task (tasks_of s) j)) 0

abbrev pub old_table : File → List ℕ
old_table s = rows_from (old_entry s) 8 0

-- the file is accepted, and what Table leaves in every table is what it would leave by that count
pub record OldTables (s : File) : Type 0 where
  pub accepted : reading_of s ≡ accepted_as (cache_blocks s) (task_count s)
  pub tables : (area : Area) (table : List ℕ) → table_after 16 s area table ≡ left_by (table_check 16 s area table) (old_table s) table
