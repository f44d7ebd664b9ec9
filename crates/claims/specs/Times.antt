-- Document 02, Point 2: the pair numbers of a file as times. Definitions only.
use Rattle.std.specs.Prelude.{Ok}
use Rattle.std.specs.Prelude.{◌≡◌, List, ℕ, ◌<◌, get_or}
use Rattle.project.specs.File.{File}
use Rattle.project.specs.Checks.{Outside}
use Rattle.project.specs.Tasks.{file_pair}
use Rattle.rows.specs.Rows.{Area}
use Rattle.table.specs.Table.{table_answer, table_after}
use Rattle.microseconds.specs.Microseconds.{largest_penalty, largest_clock, ExactTime, timing_of}

-- with every penalty and clock within their bounds the number is answered, by its exact time
abbrev pub Answered : ℕ → Type 0
Answered number =
    (penalty clock : ℕ) → (Outside largest_penalty penalty → ⊥) → (Outside largest_clock clock → ⊥)
    → (q : ℕ) × (r : ℕ) × (timing_of number penalty clock ≡ Ok (record { whole = q; remainder = r })) × ExactTime number penalty clock q r

-- "Given a pair number": each of the file is answered, and each place of a table that Table fills
pub record NumbersTimed (s : File) : Type 0 where
  pub numbers : (i j : ℕ) → Answered (file_pair s i j)
  pub places : (area : Area) (table : List ℕ) → table_answer 16 s area table ≡ Ok tt → (at : ℕ) → at < 64 → Answered (get_or (table_after 16 s area table) at 0)
