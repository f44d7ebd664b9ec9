-- States for C. Definitions only.
use Rattle.std.specs.Prelude.{cond, List, ℕ}
use Rattle.project.specs.File.{File}
use Rattle.rows.specs.Rows.{Area}
use Rattle.states.specs.Filling.{filling_of, area_after}
use Rattle.c_answers.specs.Told.{places}
use Rattle.c_answers.specs.Filling.{filling_status, filling_left}

abbrev pub states_status : File → ℕ → Area → List ℕ → ℕ
states_status s task area named = filling_status named (filling_of 16 s task area)

abbrev pub states_left : File → ℕ → Area → List ℕ → Area
states_left s task area named = cond (places 1 named) (area_after 16 s task area) area

abbrev pub states_named : File → ℕ → Area → List ℕ → List ℕ
states_named s task area named = filling_left named (filling_of 16 s task area)
