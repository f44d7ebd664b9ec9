-- Row for C: where the part stands, and how long it is. Definitions only.
use Rattle.std.specs.Prelude.{Bool, not, List, ℕ, eqb}
use Rattle.rows.specs.Rows.{Area}
use Rattle.area.specs.RowPart.{row_start, row_length}
use Rattle.c_answers.specs.Place.{place_left}

-- 0 asks for reaching rows, any other number for live ones
abbrev pub asks_live : ℕ → Bool
asks_live live = not (eqb live 0)

abbrev pub row_left : Area → ℕ → ℕ → ℕ → List ℕ → List ℕ
row_left area live b k found = place_left found (row_start 16 area (asks_live live) b k) (row_length 16 area (asks_live live) b k)
