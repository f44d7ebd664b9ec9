-- Document 01, "File E and other examples": what the program crpd prints for a file. Definitions only.
use Rattle.std.specs.Prelude.{List, ◌++◌, ℕ, Ok, Err}
use Rattle.project.specs.File.{File, cache_blocks, task_count}
use Rattle.project.specs.Checklist.{number_of, Checked, verdict_of}
use Rattle.project.specs.Reading.{file_checks}
use Rattle.file_pairs.specs.FilePairs.{table_of}
use Rattle.table.specs.Table.{full_checks}
use Rattle.text.specs.Text.{table_text, refusal_line}

-- "Table checks 1 to 11", of which 1 is about its lists and not about the file; without 10 (document 02, Point 5)
unfoldable pub checks_of : File → Checked
checks_of s = verdict_of (file_checks s ++ full_checks 16 s)

-- "First n and t; then preempted task, preempting task, pair number"; "A refusal prints one line only"
abbrev pub printed_after : Checked → File → List ℕ
printed_after (Ok passed) s = table_text (cache_blocks s) (task_count s) (table_of s)
printed_after (Err r) s = refusal_line (number_of r.check) r.task

-- what is printed for the file
unfoldable pub printed : File → List ℕ
printed s = printed_after (checks_of s) s
