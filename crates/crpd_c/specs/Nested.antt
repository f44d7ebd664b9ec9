-- Nested replay for C. Definitions only.
use Rattle.std.specs.Prelude.{List, ℕ}
use Rattle.project.specs.File.{File}
use Rattle.sheet.specs.Sheet.{Sheet}
use Rattle.nested_replay.specs.NestedReplay.{nested_replaying_of}
use Rattle.c_answers.specs.Nested.{nested_replaying_status, nested_replaying_left}

abbrev pub nested_status : File → Sheet → List ℕ → ℕ
nested_status s sheet answer = nested_replaying_status answer (nested_replaying_of s sheet)

abbrev pub nested_left : File → Sheet → List ℕ → List ℕ
nested_left s sheet answer = nested_replaying_left answer (nested_replaying_of s sheet)
