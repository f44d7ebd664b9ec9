-- What Nested replay answers, in numbers. Definitions only.
use Rattle.std.specs.Prelude.{List, [], ◌∷◌, ℕ, Result, Ok, Err}
use Rattle.project.specs.declared.answers.Refusal.{Refusal}
use Rattle.project.specs.Checklist.{number_of}
use Rattle.c_answers.specs.Told.{told_status, told_left}

-- 0 for a sheet that is accepted; a refusal as the documents' number
abbrev pub status_of_nested : Result ℕ Refusal → ℕ
status_of_nested (Ok x) = 0
status_of_nested (Err r) = number_of r.check

-- the task named, or 255; the total, 0 after a refusal
abbrev pub numbers_of_nested : Result ℕ Refusal → List ℕ
numbers_of_nested (Ok x) = 255 ∷ x ∷ []
numbers_of_nested (Err r) = r.task ∷ 0 ∷ []

abbrev pub nested_replaying_status : List ℕ → Result ℕ Refusal → ℕ
nested_replaying_status answer told = told_status 2 answer (status_of_nested told)

abbrev pub nested_replaying_left : List ℕ → Result ℕ Refusal → List ℕ
nested_replaying_left answer told = told_left 2 answer (numbers_of_nested told)
