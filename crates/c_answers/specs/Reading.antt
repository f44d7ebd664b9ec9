-- What reading a file answers, in numbers. Definitions only.
use Rattle.std.specs.Prelude.{List, [], ◌∷◌, ℕ, Result, Ok, Err}
use Rattle.project.specs.declared.answers.Refusal.{Refusal}
use Rattle.project.specs.declared.answers.Accepted.{Accepted}
use Rattle.project.specs.Checklist.{number_of}
use Rattle.c_answers.specs.Told.{told_status, told_left}

-- 0 for a file that is accepted; a refusal as the documents' number
abbrev pub status_of_reading : Result Accepted Refusal → ℕ
status_of_reading (Ok a) = 0
status_of_reading (Err r) = number_of r.check

-- the task named, or 255; n and t, 0 and 0 after a refusal
abbrev pub numbers_of_reading : Result Accepted Refusal → List ℕ
numbers_of_reading (Ok a) = 255 ∷ a.n ∷ a.t ∷ []
numbers_of_reading (Err r) = r.task ∷ 0 ∷ 0 ∷ []

abbrev pub reading_status : List ℕ → Result Accepted Refusal → ℕ
reading_status answer told = told_status 3 answer (status_of_reading told)

abbrev pub reading_left : List ℕ → Result Accepted Refusal → List ℕ
reading_left answer told = told_left 3 answer (numbers_of_reading told)
