-- Document 02, Points 3 and 5: the sheet that is written, as Replay reads it. Definitions only.
use Rattle.std.specs.Prelude.{Ok}
use Rattle.std.specs.Prelude.{◌≡◌, ℕ, take}
use Rattle.project.specs.File.{File}
use Rattle.project.specs.Tasks.{file_pair}
use Rattle.sheet.specs.Sheet.{Sheet}
use Rattle.replay.specs.Replay.{counted, replaying_of}

-- "a run sheet .. whose D - U is their pair number", where Point 5 has the lost hits in place of D - U: Replay accepts the sheet, cut at the answered
-- length, and its third number is the pair number
pub record ReplaysNumber (s : File) (i j : ℕ) (length : ℕ) (sheet : Sheet) : Type 0 where
  pub u : ℕ
  pub d : ℕ
  pub lost : ℕ
  pub replayed : replaying_of s (take length sheet) ≡ Ok (counted u d lost)
  pub costs : lost ≡ file_pair s i j
