-- Document 01, "Calls": Body, in calls that read the editions up to e. Definitions only.
use Rattle.std.specs.Prelude.{Bool, true, false, ◌&&◌, cond, [], ℕ, ltb, Ok, Err}
use Rattle.body.specs.Layout.{Body}
use Rattle.project.specs.File.{File, task_count, offset_of, size_of, body_of}
use Rattle.project.specs.Reading.{Reading, reading_up_to}

abbrev pub accepted : Reading → Bool
accepted (Ok a) = true
accepted (Err r) = false

-- "an empty part if the file isn't accepted or the task isn't below t"
abbrev pub has_body : ℕ → File → ℕ → Bool
has_body e s j = accepted (reading_up_to e s) && ltb j (task_count s)

-- where the body of task j stands and how long it is; an empty part at 0 where there is none
abbrev pub place_start : ℕ → File → ℕ → ℕ
place_start e s j = cond (has_body e s j) (offset_of s j) 0

abbrev pub place_length : ℕ → File → ℕ → ℕ
place_length e s j = cond (has_body e s j) (size_of s j) 0

-- "Body hands back a task's body as that part of the file"
abbrev pub body_part : ℕ → File → ℕ → Body
body_part e s j = cond (has_body e s j) (body_of s j) []
