-- Writer for C. Definitions only.
use Rattle.std.specs.Prelude.{cond, List, ℕ}
use Rattle.project.specs.Writing.{writing_of, out_of}
use Rattle.c_answers.specs.Told.{places}
use Rattle.c_answers.specs.Writing.{writing_status, writing_left}

abbrev pub write_status : ℕ → List ℕ → List ℕ → List ℕ → List ℕ → ℕ
write_status n bodies lengths out answer = writing_status answer (writing_of n bodies lengths out)

abbrev pub write_out : ℕ → List ℕ → List ℕ → List ℕ → List ℕ → List ℕ
write_out n bodies lengths out answer = cond (places 2 answer) (out_of n bodies lengths out) out

abbrev pub write_left : ℕ → List ℕ → List ℕ → List ℕ → List ℕ → List ℕ
write_left n bodies lengths out answer = writing_left answer (writing_of n bodies lengths out)
