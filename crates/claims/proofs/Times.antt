-- Within the bounds of penalty and clock every pair number of an accepted file, and every place of a table that Table fills, is answered by
-- its exact time: `numbers-timed`.
-- The idea: a pair number is at most n, which is at most 16; so check 17 could only be at fault for the penalty or the clock.
use Rattle.claims.specs.Files.{accepted_as}
use Rattle.std.specs.Prelude.{Ok}
use Rattle.std.specs.Prelude.{Err}
use mathlib.Core.Path.{◌≡◌, refl}
use mathlib.Core.Logic.{inl, inr}
use mathlib.Core.Bool.{Bool, true, false, ◌&&◌, not, cond}
use mathlib.Core.List.{List}
use Prim.Native.Nat.{ℕ, ◌+◌, ◌*◌, ◌/◌, ◌%◌, ◌≤◌, ◌<◌}
use native.Mathlib.Omega.{arith}
use lib.Dec.{eqb, ltb}
use lib.ListN.{get_or}
use Rattle.model.specs.Tasks.{task}
use Rattle.model.proofs.Most.{pair_le}
use Rattle.project.specs.File.{task_count}
use Rattle.project.specs.Reading.{reading_of}
use Rattle.project.specs.Tasks.{tasks_of, file_cache, file_pair}
use Rattle.project.proofs.Accepted.{passing, accepted-passed}
use Rattle.file_pairs.specs.FilePairs.{entry_of, table_of}
use Rattle.microseconds.specs.Microseconds.{largest_number, Fault17, ExactTime, Timing, timing_of, MicrosecondsVerdict}
use Rattle.microseconds.proofs.MicrosecondsVerdicts.{microseconds_verdict}
use Rattle.claims.specs.Times.{Answered, NumbersTimed}
use Rattle.table.proofs.Entries.{table_place}

-- a number that is not over 16
answered : (number : ℕ) → number ≤ largest_number → Answered number
answered number few penalty clock p k = go (timing_of number penalty clock) refl (microseconds_verdict number penalty clock)
  where
    no_fault : Fault17 number penalty clock → ⊥
    no_fault (inl f) = p f
    no_fault (inr (inl f)) = k f
    no_fault (inr (inr f)) = omega (arith, few, f)

    go :
        (x : Timing) → timing_of number penalty clock ≡ x → MicrosecondsVerdict number penalty clock x →
        (q : ℕ) × (r : ℕ) × (timing_of number penalty clock ≡ Ok (record { whole = q; remainder = r })) × ExactTime number penalty clock q r
    go (Ok x) e v = (x.whole, x.remainder, e, v.1)
    go (Err r) e (inl (ec, ea, f)) = absurd (no_fault f)
    go (Err r) e (inr (pass, none)) = absurd none

module _ (s : List ℕ) (few : (i j : ℕ) → file_pair s i j ≤ largest_number) where
  entry-few : (i j : ℕ) → entry_of s i j ≤ largest_number
  entry-few i j = go (ltb i (task_count s) && (ltb j (task_count s) && not (eqb i j)))
    where
      go : (b : Bool) → cond b (file_pair s i j) 0 ≤ largest_number
      go true = few i j
      go false = omega arith

  place-few : (at : ℕ) → at < 64 → get_or (table_of s) at 0 ≤ largest_number
  place-few at h =
      let e : at ≡ 8 * (at / 8) + at % 8 = omega arith in
      rw e (rw (table_place s (at / 8) (at % 8) (omega arith) (omega arith)) (entry-few (at / 8) (at % 8)))

pub numbers-timed : (s : List ℕ) (n t : ℕ) → reading_of s ≡ accepted_as n t → NumbersTimed s
numbers-timed s n t e = record {
  numbers = λ i j. answered (file_pair s i j) (few i j);
  places = λ area table filled at h. rw filled (answered (get_or (table_of s) at 0) (place-few s few at h));
}
  where
    few : (i j : ℕ) → file_pair s i j ≤ largest_number
    few i j =
        let is = passing s (accepted-passed s _ e).0 in
        omega (arith, pair_le (file_cache s) (task (tasks_of s) i) (task (tasks_of s) j), is.n_high, is.k_high)
