-- Reader for C. Definitions only.
use Rattle.std.specs.Prelude.{List, ℕ}
use Rattle.project.specs.File.{File}
use Rattle.project.specs.Reading.{reading_of}
use Rattle.c_answers.specs.Reading.{reading_status, reading_left}

abbrev pub read_status : File → List ℕ → ℕ
read_status s answer = reading_status answer (reading_of s)

abbrev pub read_left : File → List ℕ → List ℕ
read_left s answer = reading_left answer (reading_of s)
