-- Document 02, Point 2: microseconds. Definitions only.
use Rattle.std.specs.Prelude.{◌≡◌, ◌⊎◌, Bool, ◌||◌, List, [], ◌∷◌, ℕ, ◌+◌, ◌*◌, ◌/◌, ◌%◌, ◌<◌, ltb, Result, Ok, Err}
use Rattle.project.specs.declared.answers.Check.TheVariants.{OutOfBounds}
use Rattle.project.specs.declared.answers.Refusal.{Refusal}
use Rattle.project.specs.Checks.{Outside}
use Rattle.project.specs.Reading.{outside}
use Rattle.project.specs.Checklist.{number_of, Entry, one, no_task, AllPass, FirstFault, Checked, verdict_of, answered}
use Rattle.microseconds.specs.declared.Time.{Time}

-- "a number over 16"
abbrev pub largest_number : ℕ
largest_number = 16

-- "the miss penalty in cycles (1 to 1,000)"
abbrev pub largest_penalty : ℕ
largest_penalty = 1000

-- "the clock in kHz (1 to 1,000,000)"
abbrev pub largest_clock : ℕ
largest_clock = 1000000

-- ---- in the document's words

-- "17, a penalty or clock outside its bounds, or a number over 16"
abbrev pub Fault17 : ℕ → ℕ → ℕ → Type 0
Fault17 number penalty clock = Outside largest_penalty penalty ⊎ Outside largest_clock clock ⊎ (largest_number < number)

-- "whole microseconds q and a remainder r with number × penalty × 1,000 = q × clock + r, r below the clock"
pub record ExactTime (number penalty clock q r : ℕ) : Type 0 where
  pub product : number * penalty * 1000 ≡ q * clock + r
  pub below : r < clock

-- ---- computed

abbrev pub test17 : ℕ → ℕ → ℕ → Bool
test17 number penalty clock = outside largest_penalty penalty || (outside largest_clock clock || ltb largest_number number)

-- the one check of the call
abbrev pub microseconds_checks : ℕ → ℕ → ℕ → List Entry
microseconds_checks number penalty clock = one OutOfBounds no_task (test17 number penalty clock) (Fault17 number penalty clock) ∷ []

abbrev pub microseconds_check : ℕ → ℕ → ℕ → Checked
microseconds_check number penalty clock = verdict_of (microseconds_checks number penalty clock)

-- q and r
abbrev pub whole : ℕ → ℕ → ℕ → ℕ
whole number penalty clock = number * penalty * 1000 / clock

abbrev pub remainder : ℕ → ℕ → ℕ → ℕ
remainder number penalty clock = number * penalty * 1000 % clock

-- what the call answers: both, or the refusal
abbrev pub Timing : Type 0
Timing = Result Time Refusal

abbrev pub time_of : ℕ → ℕ → ℕ → Time
time_of number penalty clock = record { whole = whole number penalty clock; remainder = remainder number penalty clock }

abbrev pub timing_of : ℕ → ℕ → ℕ → Timing
timing_of number penalty clock = answered (microseconds_check number penalty clock) (time_of number penalty clock)

-- ---- what the answer says, in the document's words
abbrev pub MicrosecondsVerdict : ℕ → ℕ → ℕ → Timing → Type 0
MicrosecondsVerdict number penalty clock (Err r) = FirstFault (microseconds_checks number penalty clock) (number_of r.check) r.task
MicrosecondsVerdict number penalty clock (Ok t) = AllPass (microseconds_checks number penalty clock) × ExactTime number penalty clock t.whole t.remainder
