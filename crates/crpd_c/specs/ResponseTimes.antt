-- Response times for C. Definitions only.
use Rattle.std.specs.Prelude.{cond, List, ℕ}
use Rattle.project.specs.File.{File}
use Rattle.rows.specs.Rows.{Area}
use Rattle.response.specs.declared.Record.{Record}
use Rattle.responses.specs.Responses.{response_answer, response_after}
use Rattle.c_answers.specs.Told.{places}
use Rattle.c_answers.specs.Filling.{filling_status, filling_left}

abbrev pub response_status : File → Area → List Record → ℕ → List ℕ → ℕ
response_status s area xs penalty named = filling_status named (response_answer 16 s area xs penalty)

abbrev pub response_left : File → Area → List Record → ℕ → List ℕ → List Record
response_left s area xs penalty named = cond (places 1 named) (response_after 16 s area xs penalty) xs

abbrev pub response_named : File → Area → List Record → ℕ → List ℕ → List ℕ
response_named s area xs penalty named = filling_left named (response_answer 16 s area xs penalty)
