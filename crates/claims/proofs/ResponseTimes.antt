-- Point 8 over accepted files: what g charges is enough for nested runs, `g_charges`; statements next to Point 8 that are false, each with the file that
-- refutes it: "R is the greatest number that meets the equation", "g of the task alone is enough", of R and of nested runs.
-- The idea: the tasks around a run have rising numbers from the inside, so that g has each of their pair numbers.
use Rattle.claims.specs.Files.{accepted_as}
use mathlib.Core.Path.{◌≡◌, refl, sym, ap₂}
use mathlib.Core.Logic.{inr}
use mathlib.Core.Bool.{Bool, true, false, cond, false≢true}
use mathlib.Core.List.{List, [], ◌∷◌, map}
use Prim.Native.Nat.{ℕ, ◌+◌, ◌*◌, ◌≤◌, ◌<◌}
use native.Mathlib.Nat.{le_refl}
use native.Mathlib.Omega.{arith}
use lib.Dec.{ltb}
use lib.ListN.{length}
use borrow.Author.Tests.{ltb-true}
use Rattle.cache.specs.References.{nothing, numbers}
use Rattle.cache.specs.Sum.{sum}
use Rattle.cache.specs.Cache.{empty_row}
use Rattle.cache.proofs.Rows.{length-empty_row}
use Rattle.model.specs.Tasks.{Task, stay, task}
use Rattle.model.specs.Nested.{RunList, no_run, a_run, alone, against, runs_bound, NestedRun, total}
use Rattle.model.specs.Figures.{basic}
use Rattle.model.proofs.Most.{pair_is}
use Rattle.model.proofs.NestedBound.{nested_bounded}
use Rattle.body.specs.Layout.{body_bytes}
use Rattle.body.specs.Decode.{decode, blocks_from}
use Rattle.project.specs.File.{File, file_of}
use Rattle.project.specs.Reading.{reading_of}
use Rattle.project.specs.Tasks.{tasks_of, file_cache, file_pair, PairNumbers}
use Rattle.project.proofs.TaskFaults.{Bytes}
use Rattle.project.proofs.FileRules.{file-rules}
use Rattle.response.specs.declared.Record.{Record}
use Rattle.response.specs.Response.{ceil, g, right_side, Answer, first_from, answer}
use Rattle.response.specs.Times.{record_of, record_side, with_responses}
use Rattle.response.proofs.ResponseLaws.{answer_unique}
use Rattle.response.proofs.Charges.{Rise, charged, charged_le}
use Rattle.responses.specs.Responses.{Fault21, responded, Responded}
use Rattle.responses.proofs.ResponseVerdicts.{exact21, pairs_only, responded-is}
use Rattle.claims.specs.ResponseTimes.{FromHigher, runs_charged, Charged, g_of}

-- ---- g is enough

module _ (s : File) (pair : ℕ → ℕ → ℕ) (over : PairNumbers s pair) where
  against_charged : (around : List ℕ) (j : ℕ) → against (file_cache s) (tasks_of s) around j ≡ charged pair j around
  against_charged [] j = refl
  against_charged (i ∷ around) j = ap₂ (λ (x y : ℕ). x + y) (sym (pairs_only s pair over i j)) (against_charged around j)

  bound_charged : (i : ℕ) (xs : RunList) (p : ℕ) (outer : List ℕ) → p ≤ i → Rise pair p p outer i → FromHigher p xs
      → runs_bound (file_cache s) (tasks_of s) (p ∷ outer) xs ≤ runs_charged (file_cache s) (tasks_of s) (λ (j : ℕ). g pair i j) xs
  bound_charged i no_run p outer l r h = omega arith
  bound_charged i (a_run at d by path own rest) p outer l r (a, b, c) =
      omega (
        arith,
        against_charged (p ∷ outer) by,
        charged_le pair by (p ∷ outer) i (omega arith) (a, l, r),
        bound_charged i own by (p ∷ outer) (omega arith) (a, l, r) b,
        bound_charged i rest p outer l r c,
      )

-- for every nested run whose preempting runs come from higher tasks, each enclosed by lower ones, with g over the pair numbers of paths
pub g_charges : (s : File) → Bytes s → (n t : ℕ) → reading_of s ≡ accepted_as n t → (pair : ℕ → ℕ → ℕ) → PairNumbers s pair
    → (run : NestedRun (tasks_of s)) → FromHigher run.p run.runs → Charged s run (g_of s run pair)
g_charges s h n t e pair over run higher row long =
    omega (
      arith,
      nested_bounded (file_cache s) (tasks_of s) (file-rules s h _ e) run row long,
      bound_charged s pair over run.p run.runs run.p [] (le_refl run.p) tt higher,
    )

-- ---- files written out are bytes

abbrev every_byte : List ℕ → Bool
every_byte [] = true
every_byte (x ∷ xs) = cond (ltb x 256) (every_byte xs) false

bytes_by : (s : List ℕ) → every_byte s ≡ true → Bytes s
bytes_by [] e = tt
bytes_by (x ∷ xs) e = go (ltb x 256) refl e (bytes_by xs)
  where
    go : (b : Bool) → ltb x 256 ≡ b → cond b (every_byte xs) false ≡ true → (every_byte xs ≡ true → Bytes xs) → Bytes (x ∷ xs)
    go true p q rest = (ltb-true x 256 p, rest q)
    go false p q rest = absurd (false≢true q)

-- the computed numbers are those of paths
of_paths : (s : File) → PairNumbers s (file_pair s)
of_paths s i j = pair_is (file_cache s) (task (tasks_of s) i) (task (tasks_of s) j)

-- ---- R is not the greatest number that meets the equation

-- two tasks that read nothing
abbrev empty_file : File
empty_file = file_of 1 (map body_bytes ((basic [] [] ∷ []) ∷ (basic [] [] ∷ []) ∷ []))

abbrev times : ℕ → ℕ → ℕ → Record
times c t d = record { c = c; t = t; d = d; r = 0; late = 0 }

abbrev two_times : List Record
two_times = times 1 2 2 ∷ times 1 10 10 ∷ []

empty_answers : (reading_of empty_file ≡ accepted_as 1 2) × ((record_of (responded empty_file two_times 0) 1).r ≡ 2) × (3 ≡ record_side two_times (file_pair empty_file) 0 1 3)
unfolding nothing numbers decode blocks_from with_responses first_from right_side ceil g
empty_answers = (refl, refl, refl)

-- each positive number up to the deadline that meets the equation is at most R
pub not_greatest : ((s : File) → Bytes s → (n t : ℕ) → reading_of s ≡ accepted_as n t → (xs : List Record) (penalty : ℕ) → (Fault21 t xs penalty → ⊥) → (ys : List Record)
    → Responded s xs penalty ys → (pair : ℕ → ℕ → ℕ) → PairNumbers s pair → (i : ℕ) → i < length xs
    → (r : ℕ) → 0 < r → r ≤ (record_of xs i).d → r ≡ record_side xs pair penalty i r → r ≤ (record_of ys i).r) → ⊥
unfolding nothing numbers decode blocks_from
not_greatest h =
    omega (
      arith,
      empty_answers.1,
      h empty_file (bytes_by empty_file refl) 1 2 empty_answers.0 two_times 0 (λ f. false≢true ((exact21 2 two_times 0).1 f)) (responded empty_file two_times 0)
          (responded-is empty_file two_times 0) (file_pair empty_file) (of_paths empty_file) 1 (omega arith) 3 (omega arith) (omega arith) empty_answers.2,
    )

-- ---- g of the task alone is not enough

-- n = 2: loops that read 5, 0, then 7, 4, then 6, 5, 7
abbrev loops_file : File
loops_file = file_of 2 (map body_bytes ((basic (0 ∷ []) (5 ∷ 0 ∷ []) ∷ []) ∷ (basic (0 ∷ []) (7 ∷ 4 ∷ []) ∷ []) ∷ (basic (0 ∷ []) (6 ∷ 5 ∷ 7 ∷ []) ∷ []) ∷ []))

abbrev three_times : List Record
three_times = times 1 20 20 ∷ times 2 40 40 ∷ times 3 100 100 ∷ []

-- the right side with the pair number of the task itself alone
abbrev alone_side : List Record → (ℕ → ℕ → ℕ) → ℕ → ℕ → ℕ → ℕ
alone_side xs pair penalty i r = (record_of xs i).c + sum i (λ (j : ℕ). ceil r (record_of xs j).t * ((record_of xs j).c + penalty * pair i j))

loops_answers : (reading_of loops_file ≡ accepted_as 2 3) × ((record_of (responded loops_file three_times 2) 2).r ≡ 14) × (answer (alone_side three_times (file_pair loops_file) 2 2) 100 ≡ 10)
unfolding nothing numbers decode blocks_from with_responses first_from right_side ceil g
loops_answers = (refl, refl, refl)

pub not-alone-enough : ((s : File) → Bytes s → (n t : ℕ) → reading_of s ≡ accepted_as n t → (xs : List Record) (penalty : ℕ) → (Fault21 t xs penalty → ⊥) → (ys : List Record)
    → Responded s xs penalty ys → (pair : ℕ → ℕ → ℕ) → PairNumbers s pair → (i : ℕ) → i < length xs
    → Answer (alone_side xs pair penalty i) (record_of xs i).d (record_of ys i).r) → ⊥
unfolding nothing numbers decode blocks_from
not-alone-enough h =
    let a = h loops_file (bytes_by loops_file refl) 2 3 loops_answers.0 three_times 2 (λ f. false≢true ((exact21 3 three_times 2).1 f)) (responded loops_file three_times 2)
    (responded-is loops_file three_times 2) (file_pair loops_file) (of_paths loops_file) 2 (omega arith) in
    omega (
      arith,
      loops_answers.1,
      loops_answers.2,
      answer_unique (alone_side three_times (file_pair loops_file) 2 2) 100 (record_of (responded loops_file three_times 2) 2).r a,
    )

-- n = 1: a task reads 1, one reads 0 twice, and one reads nothing
abbrev tasks_inside : List Task
tasks_inside = (basic [] (1 ∷ []) ∷ []) ∷ (basic [] (0 ∷ 0 ∷ []) ∷ []) ∷ (basic [] [] ∷ []) ∷ []

abbrev inside_file : File
inside_file = file_of 1 (map body_bytes tasks_inside)

-- task 0 preempts task 1 after its first reference, while that preempts task 2
abbrev nested_inside : NestedRun tasks_inside
nested_inside = record {
  p = 2;
  path = 0 ∷ [];
  runs = a_run 0 0 1 (0 ∷ []) (a_run 0 1 0 (0 ∷ []) no_run no_run) no_run;
  there = omega arith;
  complete = (refl, stay {b = 0} (omega arith));
  rising = (inr (refl, omega arith), tt);
  within = (
    record {
      in_path = omega arith;
      right = refl;
      there = omega arith;
      other = λ e. omega arith;
      unmasked = refl;
      complete = (refl, stay {b = 0} (omega arith));
    },
    tt,
    (inr (refl, omega arith), tt),
    (
      record {
        in_path = omega arith;
        right = (omega arith, omega arith);
        there = omega arith;
        other = λ e. omega arith;
        unmasked = refl;
        complete = (refl, stay {b = 0} (omega arith));
      },
      (λ e. omega arith, tt),
      tt,
      tt,
      tt,
    ),
    tt,
  );
}

inside_counts : (reading_of inside_file ≡ accepted_as 1 3) × (total (file_cache inside_file) (empty_row (file_cache inside_file)) nested_inside ≡ 3)
    × (alone (file_cache inside_file) (tasks_of inside_file) 2 (0 ∷ []) + runs_charged (file_cache inside_file) (tasks_of inside_file) (λ (j : ℕ). file_pair inside_file 2 j) nested_inside.runs ≡ 2)
unfolding nothing numbers decode blocks_from
inside_counts = (refl, refl, refl)

-- of nested runs, with every hypothesis of `g_charges`
pub not-alone_charges : ((s : File) → Bytes s → (n t : ℕ) → reading_of s ≡ accepted_as n t → (pair : ℕ → ℕ → ℕ) → PairNumbers s pair
    → (run : NestedRun (tasks_of s)) → FromHigher run.p run.runs → Charged s run (λ (j : ℕ). pair run.p j)) → ⊥
unfolding nothing numbers decode blocks_from
not-alone_charges h =
    omega (
      arith,
      inside_counts.1,
      inside_counts.2,
      h inside_file (bytes_by inside_file refl) 1 3 inside_counts.0 (file_pair inside_file) (of_paths inside_file)
          nested_inside ((omega arith, (omega arith, tt, tt), tt)) (empty_row (file_cache inside_file)) (length-empty_row (file_cache inside_file)),
    )
