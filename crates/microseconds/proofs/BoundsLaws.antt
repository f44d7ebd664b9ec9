-- Check 17 in the code's words: what it answers by its test, and what its passing says of products and of the clock.
-- The idea: a product is at most that of the bounds.
use mathlib.Core.Path.{◌≡◌, sym, ap}
use mathlib.Core.Bool.{◌||◌}
use Prim.Native.Nat.{ℕ, ◌*◌, ◌≤◌, ◌<◌}
use native.Mathlib.Nat.{mul-le-mul}
use lib.Dec.{ltb}
use borrow.Author.Tests.{ltb-false}
use Rattle.std.specs.Prelude.{Ok}
use Rattle.project.specs.declared.answers.Check.TheVariants.{OutOfBounds}
use Rattle.project.specs.Checklist.{no_task, Checked, answered}
use Rattle.project.proofs.Accepted.{unless-passed, or_false_left, or_false_right}
use Rattle.project.specs.Reading.{outside}
use Rattle.microseconds.specs.Microseconds.{largest_number, largest_penalty, largest_clock, test17, microseconds_check, time_of, timing_of}

-- what is used of check 17's passing
pub record Within (number penalty clock : ℕ) : Type 0 where
  pub number_high : number ≤ largest_number
  pub penalty_high : penalty ≤ largest_penalty
  pub clock_low : 0 < clock

pub within : (number penalty clock : ℕ) → microseconds_check number penalty clock ≡ Ok tt → Within number penalty clock
within number penalty clock e =
    let none = (unless-passed OutOfBounds no_task (test17 number penalty clock) (Ok tt) e).0 in
    let in-penalty = or_false_left (outside largest_penalty penalty) (outside largest_clock clock || ltb largest_number number) none in
    let others = or_false_right (outside largest_penalty penalty) (outside largest_clock clock || ltb largest_number number) none in
    let in-clock = or_false_left (outside largest_clock clock) (ltb largest_number number) others in
    record {
      number_high = ltb-false largest_number number (or_false_right (outside largest_clock clock) (ltb largest_number number) others);
      penalty_high = ltb-false largest_penalty penalty (or_false_right (ltb penalty 1) (ltb largest_penalty penalty) in-penalty);
      clock_low = ltb-false clock 1 (or_false_left (ltb clock 1) (ltb largest_clock clock) in-clock);
    }

-- the cycles of all misses are at most those of the bounds
pub cycles_le : {number penalty clock : ℕ} → Within number penalty clock → number * penalty ≤ largest_number * largest_penalty
cycles_le w = mul-le-mul w.number_high w.penalty_high

-- the answer, by what the check says
pub answer-by : (number penalty clock : ℕ) {r : Checked} → microseconds_check number penalty clock ≡ r → answered r (time_of number penalty clock) ≡ timing_of number penalty clock
answer-by number penalty clock e = sym (ap (λ (c : Checked). answered c (time_of number penalty clock)) e)
