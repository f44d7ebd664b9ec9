-- Reader: the tests of its checks, the list of them, and its answer, in calls that read the editions up to e. Definitions only; proofs/Verdicts
-- shows that each test is its fault.
use Rattle.std.specs.Prelude.{Bool, not, ◌&&◌, ◌||◌, List, [], ◌∷◌, ◌++◌, map, ℕ, zero, suc, ◌+◌, ◌*◌, eqb, ltb, length, get_or, take, drop, replicate, Result}
use Rattle.model.specs.Computed.{same_list}
use Rattle.model.specs.OnPath.{all_on_path}
use Rattle.body.specs.Layout.{Body}
use Rattle.body.specs.Decode.{decode, task_of}
use Rattle.body.specs.Walk.{kept_of}
use Rattle.project.specs.declared.answers.Check.TheVariants.{FileLength, WrongMark, WrongEdition, CacheBlocks, TaskCount, WrongContents, BrokenLayout, OffPath}
use Rattle.project.specs.declared.answers.Accepted.{Accepted}
use Rattle.project.specs.declared.answers.Refusal.{Refusal}
use Rattle.project.specs.Checks.{longest, Fault2, Fault3, Fault4, Fault5, Fault6, Fault7, Fault8, Fault9}
use Rattle.project.specs.Checklist.{Entry, one, each, no_task, Of, Checked, verdict_of, answered}
use Rattle.project.specs.File.{File, mark, edition, cache_blocks, task_count, reserve, bodies_start, offset_of, size_of, bodies}

-- ---- the tests of checks 2 to 7

abbrev pub test2 : ℕ → File → Bool
test2 e s = ltb (length s) 8 || ltb (longest e) (length s)

abbrev pub test3 : File → Bool
test3 s = not (same_list (take 4 s) mark)

-- a number is outside bounds that begin at 1
abbrev pub outside : ℕ → ℕ → Bool
outside largest x = ltb x 1 || ltb largest x

abbrev pub test4 : ℕ → ℕ → Bool
test4 e k = outside e k

abbrev pub test5 : ℕ → ℕ → Bool
test5 k n = outside (16 * k) n

abbrev pub count_test : ℕ → Bool
count_test t = outside 8 t

abbrev pub reserve_test : File → Bool
reserve_test s = not (same_list (take (reserve (edition s)) (drop 8 s)) (replicate (reserve (edition s)) 0))

abbrev pub test6 : File → Bool
test6 s = count_test (task_count s) || (not (eqb (get_or s 7 0) 0) || reserve_test s)

-- each body of the contents from task j on stands where the last one ended, at first `at`, and the last ends the file
abbrev pub contents_fit : File → ℕ → ℕ → ℕ → Bool
contents_fit s zero j at = eqb at (length s)
contents_fit s (suc left) j at = eqb (offset_of s j) at && contents_fit s left (suc j) (at + size_of s j)

abbrev pub test7 : File → Bool
test7 s = not (contents_fit s (task_count s) 0 (bodies_start (edition s) (task_count s)))

-- ---- the tests of checks 8 and 9, over bodies

abbrev pub test8 : Body → Bool
test8 b = not (kept_of (decode b))

abbrev pub test9 : Body → Bool
test9 b = not (all_on_path (task_of (decode b)))

-- ---- the checks, in their order

-- on the bytes ahead of the contents
abbrev pub head_checks_up_to : ℕ → File → List Entry
head_checks_up_to e s =
    one FileLength no_task (test2 e s) (Fault2 e s)
    ∷ one WrongMark no_task (test3 s) (Fault3 s)
    ∷ one WrongEdition no_task (test4 e (edition s)) (Fault4 e (edition s))
    ∷ one CacheBlocks no_task (test5 (edition s) (cache_blocks s)) (Fault5 (edition s) (cache_blocks s))
    ∷ one TaskCount no_task (test6 s) (Fault6 s)
    ∷ []

-- on bodies
abbrev pub task_checks : List Body → List Entry
task_checks bs =
    each BrokenLayout (map test8 bs) (Of Fault8 [] bs)
    ∷ each OffPath (map test9 bs) (Of Fault9 [] bs)
    ∷ []

-- on the contents and the bodies they tell of
abbrev pub contents_checks : File → List Entry
contents_checks s = one WrongContents no_task (test7 s) (Fault7 s) ∷ task_checks (bodies s)

-- "Reader checks 2 to 10."; document 02, Point 5: "so 10 is never given any more"
abbrev pub file_checks_up_to : ℕ → File → List Entry
file_checks_up_to e s = head_checks_up_to e s ++ contents_checks s

abbrev pub head_check_up_to : ℕ → File → Checked
head_check_up_to e s = verdict_of (head_checks_up_to e s)

abbrev pub tasks_check : List Body → Checked
tasks_check bs = verdict_of (task_checks bs)

abbrev pub file_check_up_to : ℕ → File → Checked
file_check_up_to e s = verdict_of (file_checks_up_to e s)

-- ---- the answer

-- what Reader answers: n and t, or the refusal
abbrev pub Reading : Type 0
Reading = Result Accepted Refusal

-- the n and t of a file
abbrev pub counts_of : File → Accepted
counts_of s = record { n = cache_blocks s; t = task_count s }

abbrev pub reading_up_to : ℕ → File → Reading
reading_up_to e s = answered (file_check_up_to e s) (counts_of s)

-- ---- in the calls of document 01: "edition isn't 1" is check 4

abbrev pub file_checks : File → List Entry
file_checks s = file_checks_up_to 1 s

abbrev pub head_check : File → Checked
head_check s = head_check_up_to 1 s

abbrev pub file_check : File → Checked
file_check s = file_check_up_to 1 s

abbrev pub reading_of : File → Reading
reading_of s = reading_up_to 1 s
