-- What writing a file or a sheet answers, in numbers. Definitions only.
use Rattle.std.specs.Prelude.{List, [], ◌∷◌, ℕ, Result, Ok, Err}
use Rattle.project.specs.declared.answers.Refusal.{Refusal}
use Rattle.project.specs.Checklist.{number_of}
use Rattle.c_answers.specs.Told.{told_status, told_left}

-- 0 for what is written; a refusal as the documents' number
abbrev pub status_of_writing : Result ℕ Refusal → ℕ
status_of_writing (Ok l) = 0
status_of_writing (Err r) = number_of r.check

-- the task named, or 255; the length written, 0 after a refusal
abbrev pub numbers_of_writing : Result ℕ Refusal → List ℕ
numbers_of_writing (Ok l) = 255 ∷ l ∷ []
numbers_of_writing (Err r) = r.task ∷ 0 ∷ []

abbrev pub writing_status : List ℕ → Result ℕ Refusal → ℕ
writing_status answer told = told_status 2 answer (status_of_writing told)

abbrev pub writing_left : List ℕ → Result ℕ Refusal → List ℕ
writing_left answer told = told_left 2 answer (numbers_of_writing told)
