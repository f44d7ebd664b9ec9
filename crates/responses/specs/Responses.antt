-- Document 02, Point 8: response times of the tasks of a file, by Table for rows of w places. Definitions only.
use Rattle.std.specs.Prelude.{◌≡◌, ◌≢◌, ◌⊎◌, Bool, false, not, ◌||◌, List, [], ◌∷◌, ◌++◌, ℕ, zero, suc, ◌<◌, eqb, ltb, length}
use Rattle.project.specs.declared.answers.Check.TheVariants.{ListLength, WrongTimes}
use Rattle.project.specs.File.{File, task_count}
use Rattle.project.specs.Checklist.{Entry, one, no_task, Checked, verdict_of, left_by}
use Rattle.project.specs.Checks.{Outside}
use Rattle.project.specs.Reading.{outside, file_checks}
use Rattle.project.specs.Tasks.{file_pair, PairNumbers}
use Rattle.rows.specs.Rows.{Area, area_length}
use Rattle.table.specs.Table.{full_checks}
use Rattle.response.specs.declared.Record.{Record}
use Rattle.response.specs.Response.{Answer}
use Rattle.response.specs.Times.{record_of, record_side, record_response, late_mark, with_responses}

-- "execution time C, period T and deadline D, 1 to 1,000,000"
abbrev pub largest_time : ℕ
largest_time = 1000000

-- "one miss penalty, 0 to 1,000"
abbrev pub largest_penalty : ℕ
largest_penalty = 1000

-- ---- in the document's words

-- "The call is lent table's work area, with check 1 first"
abbrev pub Fault1 : ℕ → Area → Type 0
Fault1 w area = length area ≢ area_length w

-- "a time .. out of bounds or D over T", of one record
abbrev pub Wrong : Record → Type 0
Wrong x = Outside largest_time x.c ⊎ Outside largest_time x.t ⊎ Outside largest_time x.d ⊎ (x.t < x.d)

-- "21, a time or penalty out of bounds or D over T, or a list not of t records"
abbrev pub Fault21 : ℕ → List Record → ℕ → Type 0
Fault21 t xs penalty = (length xs ≢ t) ⊎ (largest_penalty < penalty) ⊎ ((i : ℕ) × (i < length xs) × Wrong (record_of xs i))

-- ---- computed

abbrev pub test1 : ℕ → Area → Bool
test1 w area = not (eqb (length area) (area_length w))

abbrev pub wrong : ℕ → ℕ → ℕ → Bool
wrong c t d = outside largest_time c || (outside largest_time t || (outside largest_time d || ltb t d))

-- one of the first n numbers passes the test
abbrev pub any : ℕ → (ℕ → Bool) → Bool
any zero test = false
any (suc n) test = any n test || test n

abbrev pub wrong_record : List Record → ℕ → Bool
wrong_record xs i = wrong (record_of xs i).c (record_of xs i).t (record_of xs i).d

abbrev pub test21 : ℕ → List Record → ℕ → Bool
test21 t xs penalty = not (eqb (length xs) t) || (ltb largest_penalty penalty || any (length xs) (wrong_record xs))

-- ---- the call

-- 1, those of the file, 11 as Table gives it, and "21, .. after 11"
abbrev pub response_checks : ℕ → File → Area → List Record → ℕ → List Entry
response_checks w s area xs penalty =
    one ListLength no_task (test1 w area) (Fault1 w area)
    ∷ (file_checks s ++ (full_checks w s ++ (one WrongTimes no_task (test21 (task_count s) xs penalty) (Fault21 (task_count s) xs penalty) ∷ [])))

abbrev pub response_check : ℕ → File → Area → List Record → ℕ → Checked
response_check w s area xs penalty = verdict_of (response_checks w s area xs penalty)

abbrev pub response_answer : ℕ → File → Area → List Record → ℕ → Checked
response_answer w s area xs penalty = response_check w s area xs penalty

-- every record with its R, by the pair numbers of the file
abbrev pub responded : File → List Record → ℕ → List Record
responded s xs penalty = with_responses (record_response xs (file_pair s) penalty) 0 (length xs) xs

-- "any refusal keeps the list"
abbrev pub response_after : ℕ → File → Area → List Record → ℕ → List Record
response_after w s area xs penalty = left_by (response_check w s area xs penalty) (responded s xs penalty) xs

-- ---- what an answered list says, in the document's words

-- the records ys are those of xs with R and the late mark set, by the pair numbers over paths: "only R and the late mark change"
pub record Responded (s : File) (xs : List Record) (penalty : ℕ) (ys : List Record) : Type 0 where
  pub pair : ℕ → ℕ → ℕ
  pub numbers : PairNumbers s pair
  pub long : length ys ≡ length xs
  pub kept : (i : ℕ) → i < length xs → ((record_of ys i).c ≡ (record_of xs i).c) × ((record_of ys i).t ≡ (record_of xs i).t) × ((record_of ys i).d ≡ (record_of xs i).d)
  pub answers : (i : ℕ) → i < length xs → Answer (record_side xs pair penalty i) (record_of xs i).d (record_of ys i).r
  pub marked : (i : ℕ) → i < length xs → (record_of ys i).late ≡ late_mark (record_of ys i).r
