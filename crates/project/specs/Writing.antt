-- Document 01, "Calls" and "Numbers of the checks": Writer, of a file in edition k. Definitions only.
use Rattle.std.specs.Prelude.{◌≢◌, not, List, [], ◌∷◌, ◌++◌, ℕ, ◌+◌, ◌<◌, eqb, ltb, length, take, drop, Result}
use Rattle.body.specs.Layout.{Body}
use Rattle.project.specs.declared.answers.Check.TheVariants.{CacheBlocks, TaskCount, WrongContents, OutLength}
use Rattle.project.specs.declared.answers.Refusal.{Refusal}
use Rattle.project.specs.File.{bodies_start, file_in}
use Rattle.project.specs.Checks.{Fault5, CountFault}
use Rattle.project.specs.Checklist.{Entry, one, no_task, Checked, verdict_of, answered, left_by}
use Rattle.project.specs.Reading.{test5, count_test, task_checks}

-- the sum of the lengths
abbrev pub total : List ℕ → ℕ
total [] = 0
total (l ∷ ls) = l + total ls

-- the joined bodies, cut at their lengths
abbrev pub cut : List ℕ → List ℕ → List Body
cut s [] = []
cut s (l ∷ ls) = take l s ∷ cut (drop l s) ls

-- how long the file of some joined bodies is
abbrev pub file_length : ℕ → List ℕ → List ℕ → ℕ
file_length k s ls = bodies_start k (length ls) + length s

-- "their sum isn't the joined length"
abbrev pub SumFault : List ℕ → List ℕ → Type 0
SumFault s ls = total ls ≢ length s

-- "out list shorter than the file"
abbrev pub Fault14 : ℕ → ℕ → List ℕ → List ℕ → List ℕ → Type 0
Fault14 k n s ls out = length out < length (file_in k n (cut s ls))

-- "Writer checks 5, 6 (number of lengths), 7 (their sum isn't the joined length), 8, 9, 10, 14."; document 02, Point 5: "so 10 is never
-- given any more"
abbrev pub writer_checks_in : ℕ → ℕ → List ℕ → List ℕ → List ℕ → List Entry
writer_checks_in k n s ls out =
    one CacheBlocks no_task (test5 k n) (Fault5 k n)
    ∷ one TaskCount no_task (count_test (length ls)) (CountFault (length ls))
    ∷ one WrongContents no_task (not (eqb (total ls) (length s))) (SumFault s ls)
    ∷ (task_checks (cut s ls) ++ (one OutLength no_task (ltb (length out) (file_length k s ls)) (Fault14 k n s ls out) ∷ []))

abbrev pub writer_check_in : ℕ → ℕ → List ℕ → List ℕ → List ℕ → Checked
writer_check_in k n s ls out = verdict_of (writer_checks_in k n s ls out)

-- what Writer answers: the length that is written, or the refusal
abbrev pub Writing : Type 0
Writing = Result ℕ Refusal

-- "it writes the packed file and answers its length"
abbrev pub writing_in : ℕ → ℕ → List ℕ → List ℕ → List ℕ → Writing
writing_in k n s ls out = answered (writer_check_in k n s ls out) (file_length k s ls)

-- "After a refusal .. out list keep their contents .. The writer changes only the bytes it counts."
abbrev pub out_in : ℕ → ℕ → List ℕ → List ℕ → List ℕ → List ℕ
out_in k n s ls out = left_by (writer_check_in k n s ls out) (file_in k n (cut s ls) ++ drop (file_length k s ls) out) out

-- ---- in edition 1

abbrev pub writer_checks : ℕ → List ℕ → List ℕ → List ℕ → List Entry
writer_checks n s ls out = writer_checks_in 1 n s ls out

abbrev pub writing_of : ℕ → List ℕ → List ℕ → List ℕ → Writing
writing_of n s ls out = writing_in 1 n s ls out

abbrev pub out_of : ℕ → List ℕ → List ℕ → List ℕ → List ℕ
out_of n s ls out = out_in 1 n s ls out
