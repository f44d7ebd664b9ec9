-- Body for C: where the part stands, and how long it is. Definitions only.
use Rattle.std.specs.Prelude.{List, ℕ}
use Rattle.project.specs.File.{File}
use Rattle.project.specs.Bodies.{place_start, place_length}
use Rattle.c_answers.specs.Place.{place_left}

abbrev pub body_left : File → ℕ → List ℕ → List ℕ
body_left s task found = place_left found (place_start 1 s task) (place_length 1 s task)
