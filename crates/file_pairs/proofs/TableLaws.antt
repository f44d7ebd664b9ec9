-- The table of an accepted file, filled row by row: what holds while it is filled, a turn of the loop, and both ends.
-- The idea: a turn writes the row of its task and leaves the others; at the end no task has too many states, so each number is a pair number.
use mathlib.Core.Path.{◌≡◌, refl, sym, ap, ap₂, ◌∙◌}
use mathlib.Core.Logic.{◌≢◌}
use mathlib.Core.Bool.{Bool, true, false, cond}
use mathlib.Core.List.{List, [], ◌++◌}
use Prim.Native.Nat.{ℕ, zero, suc, ◌+◌, ◌*◌, ◌-◌, ◌/◌, ◌%◌, ◌≤◌, ◌<◌}
use native.Mathlib.Nat.{not-suc-le-zero, zero-add, add-zero}
use native.Mathlib.Numerals.{add-one}
use native.Mathlib.Omega.{arith}
use lib.Dec.{eqb, ltb}
use lib.ListN.{length, get_or, set, take, drop, replicate, length-set, length-replicate, length-append, drop_of_length-le, get_or-append}
use lib.Seq.{get_or-set_same, get_or-set_other, ext_get_or, drop-cons, get_or-append-add, get_or-take, get_or-drop}
use borrow.Author.Tests.{eqb-true, eqb-false, ltb-true, ltb-false, lt-ltb, le-ltb, ne_eqb}
use borrow.Rule.Slice.PartMut.{put_mid}
use Rattle.cache.specs.Cache.{Cache, direct, row_from}
use Rattle.cache.specs.Shape.{shaped, Holds}
use Rattle.cache.specs.declared.blocks.CacheShape.{CacheShape}
use Rattle.cache.proofs.Rows.{length-row_from, row_from-at}
use Rattle.model.specs.Tasks.{Task, task}
use Rattle.model.specs.Computed.{reaching, living, pair_number}
use Rattle.model.proofs.Membership.{eqb_self}
use Rattle.model.proofs.Width.{pair-width}
use Rattle.std.specs.Prelude.{Ok, Err}
use Rattle.project.specs.declared.answers.Check.TheVariants.{TooManyStates}
use Rattle.project.specs.Checklist.{refusal}
use Rattle.project.specs.File.{task_count}
use Rattle.project.specs.Tasks.{tasks_of, file_shape, file_cache}
use Rattle.project.proofs.Accepted.{or_false_left}
use Rattle.reader.proofs.TaskBodies.{tasks_long}
use Rattle.rows.proofs.Parts.{lent_long, replaced_length, before_it, inside_it, after_it, lent_back}
use Rattle.gather.specs.Graph.{too_many}
use Rattle.graphs.specs.TaskRows.{test11}
use Rattle.file_pairs.specs.FilePairs.{first_full, entry_of, rows_from, table_of}
use Rattle.file_pairs.specs.Found.{Few, NumbersFound}
use Rattle.file_pairs.proofs.EndLaws.{get_d_zeros}

-- ---- the places of a table

rows_long_lem : (f : ℕ → ℕ → ℕ) (left i : ℕ) → length (rows_from f left i) ≡ 8 * left
rows_long_lem f zero i = omega arith
rows_long_lem f (suc left) i = rw (length-append (row_from 0 8 (f i)) (rows_from f left (suc i)), length-row_from 8 0 (f i), rows_long_lem f left (suc i)) (omega arith)

-- place 8 k + j of the rows from row i on
pub place_at : (f : ℕ → ℕ → ℕ) (left i k j : ℕ) → k < left → j < 8 → get_or (rows_from f left i) (8 * k + j) 0 ≡ f (i + k) j
place_at f zero i k j l h = absurd (not-suc-le-zero l)
place_at f (suc left) i zero j l h =
    let e : 8 * 0 + j ≡ j = omega arith in
    rw e (get_or-append (row_from 0 8 (f i)) (rows_from f left (suc i)) 0 j (rw (length-row_from 8 0 (f i)) h) ∙ row_from-at 8 0 j 0 (f i) h ∙ ap₂ f (sym (add-zero i)) (omega arith))
place_at f (suc left) i (suc k) j l h =
    let e : 8 * suc k + j ≡ length (row_from 0 8 (f i)) + (8 * k + j) = rw (length-row_from 8 0 (f i)) (omega arith) in
    let z : suc i + k ≡ i + suc k = omega arith in
    rw e (get_or-append-add (row_from 0 8 (f i)) (rows_from f left (suc i)) (8 * k + j) 0 ∙ place_at f left (suc i) k j (omega arith) h ∙ ap (λ (x : ℕ). f x j) z)

pub table_long : (s : List ℕ) → length (table_of s) ≡ 64
unfolding table_of
table_long s = rows_long_lem (entry_of s) 8 0

-- ---- while the table is filled, by what a cache c counts: the rows of c may be wider than the file's cache

-- rows of w places that hold the file's cache count its pair numbers
pub file_pairs : (w : ℕ) {shape : CacheShape} (s : List ℕ) → shape ≡ file_shape s → Holds w shape → (a b : Task) → pair_number (shaped w shape) a b ≡ pair_number (file_cache s) a b
file_pairs w {shape} s e h a b = pair-width shape.blocks w h.some h.room a b ∙ ap (λ (x : CacheShape). pair_number (direct x.blocks) a b) e

pub record SoFar (s : List ℕ) (c : Cache) (i : ℕ) (numbers : List ℕ) : Type 0 where
  pub long : length numbers ≡ 64
  pub left : first_full c i (drop i (tasks_of s)) ≡ first_full c 0 (tasks_of s)
  pub passed : (k : ℕ) → k < i → test11 c (task (tasks_of s) k) ≡ false
  pub rows : (k j : ℕ) → k < i → j < 8 → (j < task_count s → Few c (task (tasks_of s) j)) → get_or numbers (8 * k + j) 0 ≡ entry_of s k j
  pub rest : (x : ℕ) → 8 * i ≤ x → get_or numbers x 0 ≡ 0

pub at_first_lem : (s : List ℕ) (c : Cache) {numbers : List ℕ} → numbers ≡ replicate 64 0 → SoFar s c 0 numbers
at_first_lem s c z =
    record {
      long = ap length z ∙ length-replicate {A = ℕ} 64 0;
      left = refl;
      passed = λ k l. absurd (not-suc-le-zero l);
      rows = λ k j l. absurd (not-suc-le-zero l);
      rest = λ x l. rw z (get_d_zeros 64 x);
    }

-- what was found, in other words
pub found_as : {c : Cache} {tasks count : ℕ} {ts : List Task} {u v : Task} {old numbers : List ℕ} {full : Bool} → tasks ≡ count → u ≡ v → NumbersFound c ts tasks u old numbers full
    → NumbersFound c ts count v old numbers full
found_as e f h = rw (← e, ← f) h

module _ (s : List ℕ) (c : Cache) (i : ℕ) (same : (a b : Task) → pair_number c a b ≡ pair_number (file_cache s) a b) (below : i < task_count s) (few : task_count s ≤ 8) (numbers : List ℕ) (h : SoFar s c i numbers) where
  abbrev t : Task
  t = task (tasks_of s) i

  next : first_full c i (drop i (tasks_of s)) ≡ cond (test11 c t) (Err (refusal TooManyStates i)) (first_full c (i + 1) (drop (i + 1) (tasks_of s)))
  next =
      ap (first_full c i) (drop-cons (tasks_of s) i [] (rw (tasks_long s) below))
      ∙ ap (λ (k : ℕ). cond (test11 c t) (Err (refusal TooManyStates i)) (first_full c k (drop k (tasks_of s)))) (sym (add-one i))

  -- a task with too many states is the lowest
  pub stops : {full : Bool} {byte : ℕ} → full ≡ test11 c t → full ≡ true → byte ≡ i → Err (refusal TooManyStates byte) ≡ first_full c 0 (tasks_of s)
  stops e q z = ap (λ (k : ℕ). Err (refusal TooManyStates k)) z ∙ sym (rw (sym e ∙ q) at next) ∙ h.left

  -- the task's own number is set, and its row is lent
  abbrev marked : List ℕ
  marked = set numbers (9 * i) 32

  abbrev row : List ℕ
  row = take (8 * i + 8 - 8 * i) (drop (8 * i) marked)

  marked-long : length marked ≡ 64
  marked-long = length-set numbers (9 * i) 32 ∙ h.long

  fits : 8 * i + 8 ≤ length marked
  fits = omega (arith, marked-long)

  pub row-long : length row ≡ 8
  row-long = lent_long 8 i 8 marked (omega arith) marked-long

  -- all its other numbers are 0
  row_zero : (j : ℕ) → j < 8 → j ≢ i → get_or row j 0 ≡ 0
  row_zero j b d =
      let e : 8 * i + 8 - 8 * i ≡ 8 = omega arith in
      rw e
      (get_or-take 8 (drop (8 * i) marked) j 0 b
      ∙ get_or-drop (8 * i) marked j 0
      ∙ get_or-set_other numbers (9 * i) (8 * i + j) 32 0 (λ q. d (omega arith))
      ∙ h.rest (8 * i + j) (omega arith))

  back : (part : List ℕ) → put_mid (8 * i) (8 * i + 8 - 8 * i) marked part ≡ take (8 * i) marked ++ (part ++ drop (8 * i + 8) marked)
  back part = lent_back (8 * i) 8 marked part

  pub grown_long : (part : List ℕ) → length part ≡ 8 → length (put_mid (8 * i) (8 * i + 8 - 8 * i) marked part) ≡ 64
  grown_long part e = ap length (back part) ∙ replaced_length marked part (8 * i) 8 fits e ∙ marked-long

  module _ (part : List ℕ) {full : Bool} (new : NumbersFound c (tasks_of s) (task_count s) t row part full) (ok : full ≡ false) where
    abbrev grown : List ℕ
    grown = put_mid (8 * i) (8 * i + 8 - 8 * i) marked part

    abbrev more : List ℕ
    more = set grown (9 * i) 0

    other : (x : ℕ) → x ≢ 9 * i → get_or more x 0 ≡ get_or (take (8 * i) marked ++ (part ++ drop (8 * i + 8) marked)) x 0
    other x d = get_or-set_other grown (9 * i) x 0 0 d ∙ ap (λ (l : List ℕ). get_or l x 0) (back part)

    earlier : (k j : ℕ) → k < i → j < 8 → get_or more (8 * k + j) 0 ≡ get_or numbers (8 * k + j) 0
    earlier k j l b =
        other (8 * k + j) (λ e. omega arith)
        ∙ before_it marked part (8 * i) 8 fits new.long (8 * k + j) (omega arith)
        ∙ get_or-set_other numbers (9 * i) (8 * k + j) 32 0 (λ e. omega arith)

    later : (x : ℕ) → 8 * (i + 1) ≤ x → get_or more x 0 ≡ 0
    later x l =
        other x (λ e. omega arith)
        ∙ after_it marked part (8 * i) 8 fits new.long x (omega arith)
        ∙ get_or-set_other numbers (9 * i) x 32 0 (λ e. omega arith)
        ∙ h.rest x (omega arith)

    diagonal : get_or more (8 * i + i) 0 ≡ entry_of s i i
    diagonal =
        let e : 8 * i + i ≡ 9 * i = omega arith in
        rw (e, get_or-set_same grown (9 * i) 0 0 (omega (arith, grown_long part new.long)), eqb_self i, lt-ltb i (task_count s) below)

    here : (j : ℕ) → j < 8 → j ≢ i → (j < task_count s → Few c (task (tasks_of s) j)) → get_or more (8 * i + j) 0 ≡ entry_of s i j
    here j b d f =
        other (8 * i + j) (λ e. d (omega arith)) ∙ inside_it marked part (8 * i) 8 fits new.long j b ∙ go (ltb j (task_count s)) refl
      where
        zero_there : get_or row j 0 ≡ 0
        zero_there = row_zero j b d

        go : (x : Bool) → ltb j (task_count s) ≡ x → get_or part j 0 ≡ entry_of s i j
        go true e =
            let number : get_or part j 0 ≡ pair_number c t (task (tasks_of s) j)
            = omega (arith, new.found ok j (ltb-true j (task_count s) e) (f (ltb-true j (task_count s) e)), zero_there) in
            rw (lt-ltb i (task_count s) below, e, ne_eqb i j (λ q. d (sym q))) (number ∙ same t (task (tasks_of s) j))
        go false e = rw (lt-ltb i (task_count s) below, e) (new.rest ok j (ltb-false j (task_count s) e) ∙ zero_there)

    row_is : (k j : ℕ) → k < i + 1 → j < 8 → (j < task_count s → Few c (task (tasks_of s) j)) → get_or more (8 * k + j) 0 ≡ entry_of s k j
    row_is k j l b f = go (eqb k i) refl
      where
        own : (y : Bool) → eqb j i ≡ y → get_or more (8 * i + j) 0 ≡ entry_of s i j
        own true q = rw (eqb-true j i q) diagonal
        own false q = here j b (eqb-false j i q) f

        go : (x : Bool) → eqb k i ≡ x → get_or more (8 * k + j) 0 ≡ entry_of s k j
        go true e = rw (eqb-true k i e) (own (eqb j i) refl)
        go false e = let m : k < i = omega (arith, eqb-false k i e) in earlier k j m b ∙ h.rows k j m b f

    pub turn : SoFar s c (i + 1) more
    turn =
        record {
          long = length-set grown (9 * i) 0 ∙ grown_long part new.long;
          left = sym (rw (sym new.answer ∙ ok) at next) ∙ h.left;
          passed = λ k l. passes k l (eqb k i) refl;
          rows = row_is;
          rest = later;
        }
      where
        passes : (k : ℕ) → k < i + 1 → (x : Bool) → eqb k i ≡ x → test11 c (task (tasks_of s) k) ≡ false
        passes k l true e = rw (eqb-true k i e) (sym new.answer ∙ ok)
        passes k l false e = h.passed k (omega (arith, eqb-false k i e))

-- ---- at the end

module _ (s : List ℕ) (c : Cache) (few : task_count s ≤ 8) (numbers : List ℕ) (h : SoFar s c (task_count s) numbers) where
  pub ends : Ok tt ≡ first_full c 0 (tasks_of s)
  ends = sym (ap (first_full c (task_count s)) (drop_of_length-le (tasks_of s) {i = task_count s} (rw (tasks_long s) (omega arith)))) ∙ h.left

  each-few : (j : ℕ) → j < task_count s → Few c (task (tasks_of s) j)
  each-few j l = or_false_left (too_many (reaching c (task (tasks_of s) j)) 24) (too_many (living c (task (tasks_of s) j)) 24) (h.passed j l)

  pub whole : numbers ≡ table_of s
  unfolding table_of
  whole = ext_get_or 0 numbers (table_of s) (h.long ∙ sym (rows_long_lem (entry_of s) 8 0)) (λ x l. at x (rw h.long at l))
    where
      absent : (k j : ℕ) → task_count s ≤ k → 0 ≡ entry_of s k j
      absent k j l = rw (le-ltb k (task_count s) l)

      cell : (k j : ℕ) → k < 8 → j < 8 → get_or numbers (8 * k + j) 0 ≡ entry_of s k j
      cell k j a b = go (ltb k (task_count s)) refl
        where
          go : (x : Bool) → ltb k (task_count s) ≡ x → get_or numbers (8 * k + j) 0 ≡ entry_of s k j
          go true e = h.rows k j (ltb-true k (task_count s) e) b (each-few j)
          go false e = let l = ltb-false k (task_count s) e in h.rest (8 * k + j) (omega arith) ∙ absent k j l

      at : (x : ℕ) → x < 64 → get_or numbers x 0 ≡ get_or (table_of s) x 0
      at x l =
          let e : x ≡ 8 * (x / 8) + x % 8 = omega arith in
          rw e (cell (x / 8) (x % 8) (omega arith) (omega arith) ∙ sym (place_at (entry_of s) 8 0 (x / 8) (x % 8) (omega arith) (omega arith) ∙ ap (λ (k : ℕ). entry_of s k (x % 8)) (zero-add (x / 8))))
