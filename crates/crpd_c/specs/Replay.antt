-- Replay for C. Definitions only.
use Rattle.std.specs.Prelude.{List, ℕ}
use Rattle.project.specs.File.{File}
use Rattle.sheet.specs.Sheet.{Sheet}
use Rattle.replay.specs.Replay.{replaying_of}
use Rattle.c_answers.specs.Replaying.{replaying_status, replaying_left}

abbrev pub replay_status : File → Sheet → List ℕ → ℕ
replay_status s sheet answer = replaying_status answer (replaying_of s sheet)

abbrev pub replay_left : File → Sheet → List ℕ → List ℕ
replay_left s sheet answer = replaying_left answer (replaying_of s sheet)
