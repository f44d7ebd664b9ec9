-- What the call answers is check 17 in the document's words, or the exact time: `microseconds_verdict`; nothing else is: `microseconds_unique`.
-- The idea: check 17 is three comparisons; where it passes the clock is above 0, so there is one exact time.
use mathlib.Core.Path.{◌≡◌, refl, ap₂, ◌∙◌}
use mathlib.Core.Logic.{◌↔◌}
use mathlib.Core.Bool.{true, ◌||◌}
use mathlib.Core.List.{[], ◌∷◌}
use Prim.Native.Nat.{ℕ}
use lib.Dec.{ltb}
use borrow.Author.Tests.{ltb-true, lt-ltb}
use Rattle.std.specs.Prelude.{Ok, Err}
use Rattle.project.specs.Checklist.{numbers, Verdict, Agreeing, Checked, answered}
use Rattle.project.proofs.Checklists.{verdict_exact, verdict_unique}
use Rattle.project.proofs.Verdicts.{outside_exact, either_exact}
use Rattle.project.specs.Reading.{outside}
use Rattle.microseconds.specs.declared.Time.{Time}
use Rattle.microseconds.specs.Microseconds.{largest_number, largest_penalty, largest_clock, Fault17, test17, microseconds_checks, microseconds_check, Timing, time_of, timing_of, MicrosecondsVerdict}
use Rattle.microseconds.proofs.Times.{exact_time, exact_time_only}
use Rattle.microseconds.proofs.BoundsLaws.{within, answer-by}

module _ (number penalty clock : ℕ) where
  -- check 17: the test holds exactly when the fault is there
  pub exact17 : (test17 number penalty clock ≡ true) ↔ Fault17 number penalty clock
  exact17 =
      either_exact (outside largest_penalty penalty) (outside largest_clock clock || ltb largest_number number)
      (outside_exact penalty 1 largest_penalty penalty)
      (either_exact (outside largest_clock clock) (ltb largest_number number)
      (outside_exact clock 1 largest_clock clock)
      (ltb-true largest_number number, lt-ltb largest_number number))

  microseconds_agreeing : Agreeing (microseconds_checks number penalty clock)
  microseconds_agreeing = (exact17, λ passed. tt)

  -- the list of the call's checks
  pub microseconds_order : numbers (microseconds_checks number penalty clock) ≡ 17 ∷ []
  microseconds_order = refl

  -- the verdict, for every three numbers
  pub microseconds_verdict : MicrosecondsVerdict number penalty clock (timing_of number penalty clock)
  microseconds_verdict = go (microseconds_check number penalty clock) refl (verdict_exact (microseconds_checks number penalty clock) microseconds_agreeing)
    where
      go :
          (r : Checked) → microseconds_check number penalty clock ≡ r → Verdict (microseconds_checks number penalty clock) r →
          MicrosecondsVerdict number penalty clock (answered r (time_of number penalty clock))
      go (Ok x) e v = (v, exact_time number penalty clock (within number penalty clock e).clock_low)
      go (Err x) e v = v

  -- what is computed is the only verdict of the checks
  only : (r : Checked) → Verdict (microseconds_checks number penalty clock) r → microseconds_check number penalty clock ≡ r
  only r v =
      let checks = microseconds_checks number penalty clock in
      verdict_unique checks (microseconds_check number penalty clock) r (verdict_exact checks microseconds_agreeing) v

  -- a time, as an answer
  abbrev timed : Time → Timing
  timed x = Ok x

  -- no other answer has that verdict
  pub microseconds_unique : (x : Timing) → MicrosecondsVerdict number penalty clock x → x ≡ timing_of number penalty clock
  microseconds_unique (Err r) v = answer-by number penalty clock (only (Err r) v)
  microseconds_unique (Ok x) (v, t) =
      let (eq, er) = exact_time_only number penalty clock t in
      ap₂ (λ (q r : ℕ). timed (record { whole = q; remainder = r })) eq er ∙ answer-by number penalty clock (only (Ok tt) v)
