-- Where a part stands, and how long it is, in numbers. Definitions only.
use Rattle.std.specs.Prelude.{List, [], ◌∷◌, ℕ}
use Rattle.c_answers.specs.Told.{told_status, told_left}

-- nothing is refused: where there is no part, an empty one stands at 0
abbrev pub place_status : List ℕ → ℕ
place_status found = told_status 2 found 0

abbrev pub place_left : List ℕ → ℕ → ℕ → List ℕ
place_left found start length = told_left 2 found (start ∷ length ∷ [])
