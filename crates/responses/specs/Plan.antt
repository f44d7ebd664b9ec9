-- What is to be set in a response time list, as the call decides it. Definitions only.
use Rattle.std.specs.Prelude.{Bool, not, ◌||◌, List, [], ◌∷◌, ℕ, ◌+◌, ◌≤◌, ◌<◌, eqb, ltb, length, get_or, take, replicate, Result, Ok, Err}
use Rattle.project.specs.declared.answers.Check.TheVariants.{WrongTimes}
use Rattle.project.specs.File.{File, task_count}
use Rattle.project.specs.Checklist.{Checked, and_then, unless, no_task}
use Rattle.rows.specs.Rows.{Area}
use Rattle.table.specs.Table.{table_check, table_after}
use Rattle.response.specs.declared.Record.{Record}
use Rattle.response.specs.declared.Times.{Times}
use Rattle.response.specs.Times.{no_times, timed, times_response, TaskTimes, table_pair}
use Rattle.responses.specs.declared.plan.Plan.{Plan}
use Rattle.responses.specs.declared.plan.Unplanned.{Unplanned}
use Rattle.responses.specs.Responses.{largest_penalty, wrong, any}

-- ---- the times of a list

unfoldable pub times_with : Times → ℕ → List Record → Times
times_with x i [] = x
times_with x i (r ∷ rs) = times_with (timed x i r) (i + 1) rs

-- those of its first eight records, and how many records it has
abbrev pub times_of : List Record → Times
times_of xs = times_with (no_times (length xs)) 0 (take 8 xs)

-- ---- check 21 by the times

abbrev pub wrong_at : Times → ℕ → Bool
wrong_at x i = wrong (get_or x.c i 0) (get_or x.t i 0) (get_or x.d i 0)

abbrev pub times_test21 : ℕ → Times → ℕ → Bool
times_test21 t x penalty = not (eqb x.count t) || (ltb largest_penalty penalty || any t (wrong_at x))

-- ---- the plan

-- by Table, on a table of zeros, and then check 21
abbrev pub plan_check : ℕ → File → Area → Times → ℕ → Checked
plan_check w s area x penalty = and_then (table_check w s area (replicate 64 0)) (unless WrongTimes no_task (times_test21 (task_count s) x penalty))

-- what is told: the plan where the checks pass; no record is set where one fails, "any refusal keeps the list"
abbrev pub pick_plan : Checked → Times → List ℕ → ℕ → Result Plan Unplanned
pick_plan (Ok passed) x numbers penalty = Ok (record { times = x; numbers = numbers; penalty = penalty; count = x.count })
pick_plan (Err r) x numbers penalty = Err (record { refusal = r; times = x; numbers = numbers })

-- what is to be set where the checks pass
abbrev pub plan_made : ℕ → File → Area → Times → ℕ → Plan
plan_made w s area x penalty = record { times = x; numbers = table_after w s area (replicate 64 0); penalty = penalty; count = x.count }

abbrev pub plan_of : ℕ → File → Area → Times → ℕ → Result Plan Unplanned
plan_of w s area x penalty = pick_plan (plan_check w s area x penalty) x (table_after w s area (replicate 64 0)) penalty

-- R of task i by a plan
abbrev pub plan_response : Plan → ℕ → ℕ
plan_response p i = times_response p.times (table_pair p.numbers) p.penalty i

-- what a plan keeps
pub record Ready (p : Plan) : Type 0 where
  pub few : p.count ≤ 8
  pub low : p.penalty ≤ 1000
  pub each : (j : ℕ) → j < p.count → TaskTimes p.times j
