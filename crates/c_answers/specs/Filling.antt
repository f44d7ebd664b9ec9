-- What filling a work area or a table answers, in numbers. Definitions only.
use Rattle.std.specs.Prelude.{⊤, List, [], ◌∷◌, ℕ, Result, Ok, Err}
use Rattle.project.specs.declared.answers.Refusal.{Refusal}
use Rattle.project.specs.Checklist.{number_of}
use Rattle.c_answers.specs.Told.{told_status, told_left}

-- 0 for a call that is done; a refusal as the documents' number
abbrev pub status_of_filling : Result ⊤ Refusal → ℕ
status_of_filling (Ok done) = 0
status_of_filling (Err r) = number_of r.check

-- the task named, or 255
abbrev pub numbers_of_filling : Result ⊤ Refusal → List ℕ
numbers_of_filling (Ok done) = 255 ∷ []
numbers_of_filling (Err r) = r.task ∷ []

abbrev pub filling_status : List ℕ → Result ⊤ Refusal → ℕ
filling_status answer told = told_status 1 answer (status_of_filling told)

abbrev pub filling_left : List ℕ → Result ⊤ Refusal → List ℕ
filling_left answer told = told_left 1 answer (numbers_of_filling told)
