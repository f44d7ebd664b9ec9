-- Document 01, "Numbers of the checks": what the answers of the calls say of their checks. Definitions only.
use Rattle.std.specs.Prelude.{◌≡◌, List, ℕ, length, Ok, Err}
use Rattle.project.specs.Checklist.{number_of, AllPass, FirstFault}
use Rattle.project.specs.File.{File, cache_blocks, task_count, file_in}
use Rattle.project.specs.Reading.{Reading, file_checks_up_to}
use Rattle.project.specs.Writing.{Writing, cut, writer_checks_in}

-- "A file is accepted when 2 to 10 pass.", and by document 02, Point 5, when 2 to 9 pass: "so 10 is never given any more"; "Reader answers n and
-- t of a file."
abbrev pub ReaderVerdict : ℕ → File → Reading → Type 0
ReaderVerdict e s (Err r) = FirstFault (file_checks_up_to e s) (number_of r.check) r.task
ReaderVerdict e s (Ok a) = AllPass (file_checks_up_to e s) × (a.n ≡ cache_blocks s) × (a.t ≡ task_count s)

-- "it writes the packed file and answers its length"
abbrev pub WriterVerdict : ℕ → ℕ → List ℕ → List ℕ → List ℕ → Writing → Type 0
WriterVerdict k n s ls out (Err r) = FirstFault (writer_checks_in k n s ls out) (number_of r.check) r.task
WriterVerdict k n s ls out (Ok l) = AllPass (writer_checks_in k n s ls out) × (l ≡ length (file_in k n (cut s ls)))
