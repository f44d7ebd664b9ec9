-- False neighbours of demand 3 and of Points 3, 5 and 6, refuted over files and calls.
-- The idea: E's replay has U = 2 and D = 3, and its pair numbers are 1 and 0; with byte 18 = 01 task 0 is masked, with byte 28 = 01 task 1. The
-- files whose tasks share memory blocks are those of the model's tasks, and their answers are computed.
use Rattle.claims.specs.Files.{accepted_as}
use Rattle.std.specs.Prelude.{Ok}
use Rattle.std.specs.Prelude.{Err}
use Rattle.project.specs.declared.answers.Check.TheVariants.{WrongPath}
use Rattle.project.specs.Checklist.{refusal}
use mathlib.Core.Path.{◌≡◌, refl, ap}
use mathlib.Core.List.{List, [], ◌∷◌, map}
use Prim.Native.Nat.{ℕ, ◌+◌, ◌≤◌}
use native.Mathlib.Omega.{arith}
use lib.ListN.{length, set}
use Rattle.cache.specs.References.{nothing, numbers}
use Rattle.cache.specs.Sets.{useful_replaced}
use Rattle.model.specs.Tasks.{SomeUnmasked, stay, task}
use Rattle.model.specs.Numbers.{NumberAtEnds, NumberOverAll}
use Rattle.model.specs.Runs.{DisturbedRun, OnceBy}
use Rattle.model.specs.Computed.{most, used_number}
use Rattle.model.specs.Figures.{tasks_gain, tasks_both, tasks_same, tasks_twice, tasks_entered}
use Rattle.model.proofs.Neighbours.{over_all_1, all-masked, none_loses_1, masked_1}
use Rattle.model.proofs.SharedNeighbours.{both-never}
use Rattle.model.proofs.PointNeighbours.{between_two, between_counts, ends_0, from_zero, not-before-first}
use Rattle.model.proofs.Examples.{by_task1}
use Rattle.body.specs.Layout.{body_bytes}
use Rattle.body.specs.Decode.{decode, blocks_from}
use Rattle.project.specs.File.{file_of}
use Rattle.project.specs.FileE.{file_e}
use Rattle.project.specs.Reading.{reading_of}
use Rattle.project.specs.Tasks.{tasks_of, file_cache, file_pair}
use Rattle.sheet.specs.Parsed.{preemptions_from, after_path, parse}
use Rattle.replay.specs.Replay.{counted, replaying_of}
use Rattle.costliest.specs.Costliest.{Costliest}
use Rattle.claims.specs.Demand.{file_u, file_d, file_lost}
use Rattle.claims.proofs.Papers.{papers}

-- "a preemption costs nothing"
pub not-D-le_U : ((s sheet : List ℕ) (u d l : ℕ) → replaying_of s sheet ≡ Ok (counted u d l) → d ≤ u) → ⊥
not-D-le_U h = let l : 3 ≤ 2 = h file_e (0 ∷ 2 ∷ 0 ∷ 0 ∷ 1 ∷ 0 ∷ 2 ∷ 1 ∷ 1 ∷ 0 ∷ []) 2 3 1 papers.replayed in omega arith

number01 : file_pair file_e 0 1 ≡ 1
unfolding nothing numbers decode blocks_from
number01 = refl

number10 : file_pair file_e 1 0 ≡ 0
unfolding nothing numbers decode blocks_from
number10 = refl

-- "every preemption costs its number"
pub not_always_reached : ((sheet : List ℕ) (u d l : ℕ) → replaying_of file_e (0 ∷ 2 ∷ 0 ∷ 0 ∷ 1 ∷ sheet) ≡ Ok (counted u d l) → l ≡ file_pair file_e 0 1) → ⊥
not_always_reached h = let e = h (1 ∷ 2 ∷ 1 ∷ 1 ∷ 0 ∷ []) 2 2 0 papers.later in omega (arith, e, number01)

-- "who preempts whom does not matter"
pub not_symmetric : ((s : List ℕ) → file_pair s 0 1 ≡ file_pair s 1 0) → ⊥
not_symmetric h = let e = h file_e in omega (arith, e, number01, number10)

-- E with byte 18 = 01 and with byte 28 = 01
abbrev masked0 : List ℕ
masked0 = set file_e 18 1

abbrev masked1 : List ℕ
masked1 = set file_e 28 1

-- "the number over all blocks, masked ones too, is reached"
pub not_over_all : ((s : List ℕ) (n t i j x : ℕ) → reading_of s ≡ accepted_as n t → NumberOverAll (file_cache s) (task (tasks_of s) i) (task (tasks_of s) j) x
    → (run : DisturbedRun (tasks_of s)) × (run.p ≡ i) × (file_lost s run ≡ x)) → ⊥
unfolding nothing numbers decode blocks_from
not_over_all h = let (run, p, e) = h masked0 2 2 0 1 1 refl over_all_1 in none_loses_1 run p e

-- "a masked preempting task costs nothing"
pub not-by-masked : ((s : List ℕ) (n t i j : ℕ) → reading_of s ≡ accepted_as n t → (SomeUnmasked (task (tasks_of s) j) → ⊥) → file_pair s i j ≡ 0) → ⊥
unfolding nothing numbers decode blocks_from
not-by-masked h = let e : ◌≡◌ {A = ℕ} 1 0 = h masked1 2 2 0 1 refl masked_1 in omega arith

-- a run of E with byte 18 = 01 that is not preempted, and so costs the pair number 0
quiet-run : DisturbedRun (tasks_of masked0)
unfolding nothing numbers decode blocks_from
quiet-run = record {
  p = 0;
  path = 0 ∷ [];
  preemptions = [];
  there = omega arith;
  complete = (refl, stay {b = 0} (omega arith));
  each = tt;
  rising = tt;
}

quiet-costs : Costliest masked0 0 1 quiet-run
unfolding nothing numbers decode blocks_from quiet-run
quiet-costs = record {
  preempted = refl;
  once = λ some. absurd (all-masked some);
  never = λ none. refl;
  fits = record { short = omega arith; few = omega arith; each = tt };
  costs = refl;
}

-- "a run that costs the pair number has a preemption"
pub not_always_once : ((s : List ℕ) (i j : ℕ) (run : DisturbedRun (tasks_of s)) → Costliest s i j run → OnceBy j run.preemptions) → ⊥
unfolding quiet-run
not_always_once h = let (x, e, b) = h masked0 0 1 quiet-run quiet-costs in let z : ◌≡◌ {A = ℕ} 0 1 = ap length e in omega arith

-- ---- files whose tasks share memory blocks

abbrev gain_file : List ℕ
gain_file = file_of 1 (map body_bytes tasks_gain)

abbrev both_file : List ℕ
both_file = file_of 2 (map body_bytes tasks_both)

abbrev same_file : List ℕ
same_file = file_of 1 (map body_bytes tasks_same)

-- what Reader and Replay answer for them, and the pair numbers of the second and the third
pub shared_answers : (reading_of gain_file ≡ accepted_as 1 2) × (reading_of both_file ≡ accepted_as 2 2) × (reading_of same_file ≡ accepted_as 1 2)
    × (replaying_of gain_file (0 ∷ 2 ∷ 0 ∷ 1 ∷ 1 ∷ 0 ∷ 0 ∷ 1 ∷ 1 ∷ 0 ∷ []) ≡ Ok (counted 1 0 0))
    × (replaying_of both_file (0 ∷ 2 ∷ 0 ∷ 1 ∷ 1 ∷ 0 ∷ 1 ∷ 1 ∷ 1 ∷ 0 ∷ []) ≡ Ok (counted 2 2 1))
    × (replaying_of both_file (0 ∷ 2 ∷ 0 ∷ 1 ∷ 1 ∷ 1 ∷ 2 ∷ 1 ∷ 1 ∷ 0 ∷ []) ≡ Ok (counted 2 2 0))
    × (file_pair both_file 0 1 ≡ 1) × (file_pair same_file 0 1 ≡ 0)
unfolding nothing numbers decode blocks_from parse after_path preemptions_from
shared_answers = (refl, refl, refl, refl, refl, refl, refl, refl)

-- "U <= D"
pub not-U-le_D : ((s sheet : List ℕ) (u d l : ℕ) → replaying_of s sheet ≡ Ok (counted u d l) → u ≤ d) → ⊥
not-U-le_D h = let l : 1 ≤ 0 = h gain_file (0 ∷ 2 ∷ 0 ∷ 1 ∷ 1 ∷ 0 ∷ 0 ∷ 1 ∷ 1 ∷ 0 ∷ []) 1 0 0 shared_answers.3 in omega arith

-- "D - U reaches the number"
pub not-D-reaches : ((s : List ℕ) (n t i j : ℕ) → reading_of s ≡ accepted_as n t
    → (run : DisturbedRun (tasks_of s)) × (run.p ≡ i) × OnceBy j run.preemptions × (file_d s run ≡ file_u s run + file_pair s i j)) → ⊥
unfolding nothing numbers decode blocks_from
not-D-reaches h = let (run, p, once, e) = h both_file 2 2 0 1 shared_answers.1 in both-never run p once e

-- "a file's numbers are those of the old count"
pub not_old_count : ((s : List ℕ) (n t i j : ℕ) → reading_of s ≡ accepted_as n t → file_pair s i j ≡ used_number (file_cache s) (task (tasks_of s) i) (task (tasks_of s) j)) → ⊥
unfolding nothing numbers decode blocks_from
not_old_count h = let e : ◌≡◌ {A = ℕ} 0 1 = h same_file 1 2 0 1 shared_answers.2 in omega arith

-- ---- preemptions between two references

abbrev twice_file : List ℕ
twice_file = file_of 1 (map body_bytes tasks_twice)

abbrev entered_file : List ℕ
entered_file = file_of 1 (map body_bytes tasks_entered)

-- what Reader and Replay answer for them, and their pair numbers; a preemption before the first reference is no point
pub point_answers : (reading_of twice_file ≡ accepted_as 1 2) × (reading_of entered_file ≡ accepted_as 1 2)
    × (replaying_of twice_file (0 ∷ 1 ∷ 0 ∷ 1 ∷ 0 ∷ 1 ∷ 1 ∷ 1 ∷ 0 ∷ []) ≡ Ok (counted 1 2 1))
    × (replaying_of entered_file (0 ∷ 2 ∷ 0 ∷ 1 ∷ 1 ∷ 1 ∷ 0 ∷ 1 ∷ 1 ∷ 0 ∷ []) ≡ Err (refusal WrongPath 255))
    × (file_pair twice_file 0 1 ≡ 1) × (file_pair entered_file 0 1 ≡ 0)
unfolding nothing numbers decode blocks_from parse after_path preemptions_from
point_answers = (refl, refl, refl, refl, refl, refl)

-- "block ends are enough"
pub not-ends-enough : ((s : List ℕ) (n t i j x : ℕ) → reading_of s ≡ accepted_as n t → NumberAtEnds (file_cache s) (task (tasks_of s) i) (task (tasks_of s) j) x
    → (run : DisturbedRun (tasks_of s)) → run.p ≡ i → OnceBy j run.preemptions → file_lost s run ≤ x) → ⊥
unfolding nothing numbers decode blocks_from
not-ends-enough h = omega (arith, between_counts.2, h twice_file 1 2 0 1 0 point_answers.0 ends_0 between_two refl (by_task1 0 1, refl, refl))

-- "a point before the first reference counts"
pub not-before : ((s : List ℕ) (n t i j : ℕ) → reading_of s ≡ accepted_as n t
    → (run : DisturbedRun (tasks_of s)) × (run.p ≡ i) × OnceBy j run.preemptions
    × (file_lost s run ≡ most (useful_replaced (file_cache s)) (file_cache s) (task (tasks_of s) i) (task (tasks_of s) j) (from_zero (task (tasks_of s) i)))) → ⊥
unfolding nothing numbers decode blocks_from
not-before h = let (run, p, once, e) = h entered_file 1 2 0 1 point_answers.1 in not-before-first run p once e
