-- What Replay answers, in numbers. Definitions only.
use Rattle.std.specs.Prelude.{List, [], ◌∷◌, ℕ, Result, Ok, Err}
use Rattle.project.specs.declared.answers.Refusal.{Refusal}
use Rattle.replay.specs.declared.Counted.{Counted}
use Rattle.project.specs.Checklist.{number_of}
use Rattle.c_answers.specs.Told.{told_status, told_left}

-- 0 for a sheet that is accepted; a refusal as the documents' number
abbrev pub status_of_replaying : Result Counted Refusal → ℕ
status_of_replaying (Ok c) = 0
status_of_replaying (Err r) = number_of r.check

-- the task named, or 255; U, D and the lost hits, 0 each after a refusal
abbrev pub numbers_of_replaying : Result Counted Refusal → List ℕ
numbers_of_replaying (Ok c) = 255 ∷ c.undisturbed ∷ c.disturbed ∷ c.lost ∷ []
numbers_of_replaying (Err r) = r.task ∷ 0 ∷ 0 ∷ 0 ∷ []

abbrev pub replaying_status : List ℕ → Result Counted Refusal → ℕ
replaying_status answer told = told_status 4 answer (status_of_replaying told)

abbrev pub replaying_left : List ℕ → Result Counted Refusal → List ℕ
replaying_left answer told = told_left 4 answer (numbers_of_replaying told)
