-- Document 01, "File E and other examples": the files of the examples marked (P), as bytes. Definitions only.
use Rattle.std.specs.Prelude.{[], ◌∷◌, ℕ, Result, Ok}
use Rattle.model.specs.Figures.{figure1, one_block, a_fork, forks}
use Rattle.body.specs.Layout.{body_bytes}
use Rattle.project.specs.declared.answers.Accepted.{Accepted}
use Rattle.project.specs.declared.answers.Refusal.{Refusal}
use Rattle.project.specs.File.{File, file_of}

abbrev pub figure_and_block : File
figure_and_block = file_of 4 (body_bytes figure1 ∷ body_bytes one_block ∷ [])

abbrev pub figure_and_fork : File
figure_and_fork = file_of 4 (body_bytes figure1 ∷ body_bytes a_fork ∷ [])

abbrev pub five_forks : File
five_forks = file_of 16 (body_bytes forks ∷ [])

-- a file is accepted, with n cache blocks and t tasks
abbrev pub accepted_as : ℕ → ℕ → Result Accepted Refusal
accepted_as n t = Ok (record { n = n; t = t })
