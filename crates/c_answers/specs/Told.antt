-- An answer in numbers: a status, and a list of a fixed number of places. Definitions only.
use Rattle.std.specs.Prelude.{Bool, cond, List, ℕ, eqb, length}

-- a list for an answer has a fixed number of places; any other is refused with 1, and nothing is written
abbrev pub places : {A : Type 0} → ℕ → List A → Bool
places k answer = eqb (length answer) k

abbrev pub told_status : {A : Type 0} → ℕ → List A → ℕ → ℕ
told_status k answer status = cond (places k answer) status 1

abbrev pub told_left : {A : Type 0} → ℕ → List A → List A → List A
told_left k answer numbers = cond (places k answer) numbers answer
