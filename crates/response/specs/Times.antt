-- Document 02, Point 8: the records of a response time list, and their times by value. Definitions only.
use Rattle.std.specs.Prelude.{cond, Option, Some, None, List, [], ◌∷◌, ℕ, zero, suc, ◌+◌, ◌*◌, ◌≤◌, ◌<◌, eqb, get_or, set, replicate}
use Rattle.cache.specs.Sum.{bit}
use Rattle.response.specs.declared.Record.{Record}
use Rattle.response.specs.declared.Times.{Times}
use Rattle.response.specs.Response.{right_side, answer, response_time}

-- ---- over the records

abbrev pub no_record : Record
no_record = record { c = 0; t = 0; d = 0; r = 0; late = 0 }

-- "one record a task": that of task i
abbrev pub record_of : List Record → ℕ → Record
record_of xs i = get_or xs i no_record

-- the right side for task i, by its record and those of the higher tasks
abbrev pub record_side : List Record → (ℕ → ℕ → ℕ) → ℕ → ℕ → ℕ → ℕ
record_side xs pair penalty i = right_side (λ (j : ℕ). (record_of xs j).c) (λ (j : ℕ). (record_of xs j).t) pair penalty i

-- R of task i, or 0 where it is late
abbrev pub record_response : List Record → (ℕ → ℕ → ℕ) → ℕ → ℕ → ℕ
record_response xs pair penalty i = answer (record_side xs pair penalty i) (record_of xs i).d

-- "A task with no such R up to D is marked late with R = 0, and only then.": the mark of a task with R, or with 0
abbrev pub late_mark : ℕ → ℕ
late_mark r = bit (eqb r 0)

-- an R, or none where the task is late
abbrev pub met : ℕ → Option ℕ
met r = cond (eqb r 0) None (Some r)

-- "only R and the late mark change": the record with both set
abbrev pub with_response : Record → ℕ → Record
with_response x r = record { c = x.c; t = x.t; d = x.d; r = r; late = late_mark r }

-- the first k records, which are those of the tasks from i on, get their R, and the others stay
unfoldable pub with_responses : (ℕ → ℕ) → ℕ → ℕ → List Record → List Record
with_responses R i zero xs = xs
with_responses R i (suc k) [] = []
with_responses R i (suc k) (x ∷ xs) = with_response x (R i) ∷ with_responses R (i + 1) k xs

-- ---- times by value

abbrev pub no_times : ℕ → Times
no_times n = record { c = replicate 8 0; t = replicate 8 0; d = replicate 8 0; count = n }

-- the times with those of task i
abbrev pub timed : Times → ℕ → Record → Times
timed x i r = record { c = set x.c i r.c; t = set x.t i r.t; d = set x.d i r.d; count = x.count }

abbrev pub times_response : Times → (ℕ → ℕ → ℕ) → ℕ → ℕ → ℕ
times_response x pair penalty i = response_time (λ (j : ℕ). get_or x.c j 0) (λ (j : ℕ). get_or x.t j 0) (λ (j : ℕ). get_or x.d j 0) pair penalty i

-- "execution time C, period T and deadline D, 1 to 1,000,000, D at most T"
pub record TaskTimes (x : Times) (i : ℕ) : Type 0 where
  pub some_c : 0 < get_or x.c i 0
  pub most_c : get_or x.c i 0 ≤ 1000000
  pub some_t : 0 < get_or x.t i 0
  pub most_t : get_or x.t i 0 ≤ 1000000
  pub some_d : 0 < get_or x.d i 0
  pub order : get_or x.d i 0 ≤ get_or x.t i 0

-- the pair number of h preempted by j in a table of eight times eight numbers
abbrev pub table_pair : List ℕ → ℕ → ℕ → ℕ
table_pair table h j = get_or table (8 * h + j) 0
