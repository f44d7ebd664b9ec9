-- What Microseconds answers, in numbers. Definitions only.
use Rattle.std.specs.Prelude.{List, [], ◌∷◌, ℕ, Result, Ok, Err}
use Rattle.project.specs.declared.answers.Refusal.{Refusal}
use Rattle.microseconds.specs.declared.Time.{Time}
use Rattle.project.specs.Checklist.{number_of}
use Rattle.c_answers.specs.Told.{told_status, told_left}

-- 0 for a time; a refusal as the documents' number
abbrev pub status_of_timing : Result Time Refusal → ℕ
status_of_timing (Ok t) = 0
status_of_timing (Err r) = number_of r.check

-- the task named, or 255; q and r, 0 and 0 after a refusal
abbrev pub numbers_of_timing : Result Time Refusal → List ℕ
numbers_of_timing (Ok t) = 255 ∷ t.whole ∷ t.remainder ∷ []
numbers_of_timing (Err r) = r.task ∷ 0 ∷ 0 ∷ []

abbrev pub timing_status : List ℕ → Result Time Refusal → ℕ
timing_status answer told = told_status 3 answer (status_of_timing told)

abbrev pub timing_left : List ℕ → Result Time Refusal → List ℕ
timing_left answer told = told_left 3 answer (numbers_of_timing told)
