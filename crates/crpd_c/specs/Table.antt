-- Table for C. Definitions only.
use Rattle.std.specs.Prelude.{cond, List, ℕ}
use Rattle.project.specs.File.{File}
use Rattle.rows.specs.Rows.{Area}
use Rattle.table.specs.Table.{table_answer, table_after}
use Rattle.c_answers.specs.Told.{places}
use Rattle.c_answers.specs.Filling.{filling_status, filling_left}

abbrev pub table_status : File → Area → List ℕ → List ℕ → ℕ
table_status s area table named = filling_status named (table_answer 16 s area table)

abbrev pub table_left : File → Area → List ℕ → List ℕ → List ℕ
table_left s area table named = cond (places 1 named) (table_after 16 s area table) table

abbrev pub table_named : File → Area → List ℕ → List ℕ → List ℕ
table_named s area table named = filling_left named (table_answer 16 s area table)
