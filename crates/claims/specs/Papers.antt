-- Document 01, "Proved together (P)", over files and what the calls answer for them, with the third number of document 02, Point 5, and the points of
-- Point 6. Definitions only.
use Rattle.std.specs.Prelude.{Ok}
use Rattle.std.specs.Prelude.{◌≡◌, List, [], ◌∷◌, ℕ, suc, length, get_or}
use Rattle.project.specs.File.{File}
use Rattle.project.specs.Reading.{reading_of}
use Rattle.project.specs.FileE.{file_e}
use Rattle.rows.specs.Rows.{Area}
use Rattle.states.specs.Filling.{filling_of, area_after}
use Rattle.table.specs.Table.{table_answer, table_after}
use Rattle.replay.specs.Replay.{counted, replaying_of}
use Rattle.claims.specs.Files.{accepted_as, figure_and_block, figure_and_fork, five_forks}

-- Table fills every table of 64 numbers, with every work area of 24,832, and the table then holds x at the place
abbrev pub TableHolds : File → ℕ → ℕ → Type 0
TableHolds s place x =
    (area : Area) (table : List ℕ) → length area ≡ 24832 → length table ≡ 64 → (table_answer 16 s area table ≡ Ok tt) × (get_or (table_after 16 s area table) place 0 ≡ x)

-- the list holds the numbers xs, from the place `at` on
abbrev pub Holds : List ℕ → ℕ → List ℕ → Type 0
Holds l at [] = Unit {0}
Holds l at (x ∷ xs) = (get_or l at 0 ≡ x) × Holds l (suc at) xs

-- States of task 0 fills every work area of 24,832 numbers, and the area then holds these first reaching counts (from 24,576 on) and live counts (from 24,600 on)
abbrev pub StatesCount : File → List ℕ → List ℕ → Type 0
StatesCount s reached lived =
    (area : Area) → length area ≡ 24832
    → (filling_of 16 s 0 area ≡ Ok tt) × Holds (area_after 16 s 0 area) 24576 reached × Holds (area_after 16 s 0 area) 24600 lived

pub record Papers : Type 0 where
  -- each of the files is accepted
  pub accepted_e : reading_of file_e ≡ accepted_as 2 2
  pub accepted_block : reading_of figure_and_block ≡ accepted_as 4 2
  pub accepted_fork : reading_of figure_and_fork ≡ accepted_as 4 2
  pub accepted_forks : reading_of five_forks ≡ accepted_as 16 1
  -- "E's two entries"
  pub entry_e01 : TableHolds file_e 1 1
  pub entry_e10 : TableHolds file_e 8 0
  -- "replay of 0, 2, 0, 0, 1, 0, 1, 1, 0 gives U = 2, D = 3"; how many references are done comes after the position: Point 6, "In E's replays that
  -- number is 2."
  pub replayed : replaying_of file_e (0 ∷ 2 ∷ 0 ∷ 0 ∷ 1 ∷ 0 ∷ 2 ∷ 1 ∷ 1 ∷ 0 ∷ []) ≡ Ok (counted 2 3 1)
  -- "the same with count 0 and nothing after gives 2 and 2"
  pub quiet : replaying_of file_e (0 ∷ 2 ∷ 0 ∷ 0 ∷ 0 ∷ []) ≡ Ok (counted 2 2 0)
  -- "the point moved to 1 gives 2 and 2"
  pub later : replaying_of file_e (0 ∷ 2 ∷ 0 ∷ 0 ∷ 1 ∷ 1 ∷ 2 ∷ 1 ∷ 1 ∷ 0 ∷ []) ≡ Ok (counted 2 2 0)
  -- "its reaching counts 4, 1, 3, 3 and live counts 4, 4, 4, 4"
  pub figure_counts : StatesCount figure_and_block (4 ∷ 1 ∷ 3 ∷ 3 ∷ []) (4 ∷ 4 ∷ 4 ∷ 4 ∷ [])
  -- "number 3 against one block reading 8, 9, 10, 11, and 2 against a fork reading 8, 10 or 8, 9"; over the points of Point 6 they are these again
  pub against_block : TableHolds figure_and_block 1 3
  pub against_fork : TableHolds figure_and_fork 1 2
  -- "Five forks pass check 11.": both in States and in Table
  pub few_forks : StatesCount five_forks [] []
  pub table_forks : TableHolds five_forks 0 0
