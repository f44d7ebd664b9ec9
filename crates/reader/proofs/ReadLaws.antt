-- Reading a file in the code's words: what each way out answers is the reading of the definitions.
-- The idea: a check that passed leaves the next one, and fitting contents cut the file into its bodies.
use mathlib.Core.Path.{◌≡◌, refl, sym, ap, ◌∙◌}
use mathlib.Core.Bool.{Bool, true, false, not, ◌||◌}
use mathlib.Core.List.{List}
use Prim.Native.Nat.{ℕ, suc, ◌+◌, ◌*◌, ◌-◌, ◌≤◌, ◌<◌}
use native.Mathlib.Omega.{arith}
use lib.Dec.{eqb, ltb}
use lib.ListN.{length, get_or, take, drop}
use borrow.Author.Tests.{ltb-true, ltb-false, lt-ltb, le-ltb}
use Rattle.std.specs.Prelude.{Ok, Err, Some, None}
use Rattle.project.specs.declared.answers.Check.TheVariants.{FileLength, WrongMark, WrongEdition, CacheBlocks, TaskCount, WrongContents}
use Rattle.project.specs.declared.answers.Refusal.{Refusal}
use Rattle.project.specs.declared.answers.Accepted.{Accepted}
use Rattle.project.specs.File.{edition, cache_blocks, task_count, contents_start, bodies_start, offset_of, size_of, bodies}
use Rattle.project.specs.Checks.{longest}
use Rattle.project.specs.Checklist.{no_task, refusal, Checked, answered, and_then, unless}
use Rattle.project.specs.Reading.{test2, test3, test4, test5, count_test, reserve_test, test6, contents_fit, test7, head_check_up_to, tasks_check, Reading, counts_of, reading_up_to, reading_of}
use Rattle.project.specs.Bodies.{has_body, place_start, place_length, body_part}
use Rattle.project.specs.Ends.{ends_from, nine, between, ends_of, InOrder}
use Rattle.project.proofs.ContentsLaws.{none_not_some, fit_within, end-next, end_offset, end-rises, end-inside, between-bodies}
use Rattle.project.proofs.Accepted.{file-parts, passing_up_to, accepted_up_to, unless-passed, or_false_left, or_false_right}

-- ---- a head that passes

pub record HeadPassed (s : List ℕ) : Type 0 where
  pub long : 8 ≤ length s
  pub some : 1 ≤ task_count s
  pub few : task_count s ≤ 8

pub head_passed : (e : ℕ) (s : List ℕ) → head_check_up_to e s ≡ Ok tt → HeadPassed s
head_passed e s h =
    let (e2, h3) = unless-passed FileLength no_task (test2 e s) _ h in
    let (e3, h4) = unless-passed WrongMark no_task (test3 s) _ h3 in
    let (e4, h5) = unless-passed WrongEdition no_task (test4 e (edition s)) _ h4 in
    let (e5, h6) = unless-passed CacheBlocks no_task (test5 (edition s) (cache_blocks s)) _ h5 in
    let e6 = (unless-passed TaskCount no_task (test6 s) (Ok tt) h6).0 in
    let et = or_false_left (count_test (task_count s)) (not (eqb (get_or s 7 0) 0) || reserve_test s) e6 in
    record {
      long = ltb-false (length s) 8 (or_false_left (ltb (length s) 8) (ltb (longest e) (length s)) e2);
      some = ltb-false (task_count s) 1 (or_false_left (ltb (task_count s) 1) (ltb 8 (task_count s)) et);
      few = ltb-false 8 (task_count s) (or_false_right (ltb (task_count s) 1) (ltb 8 (task_count s)) et);
    }

-- ---- whether the contents fit, by the ends that were found

module _ (s : List ℕ) {count : ℕ} (same : count ≡ task_count s) where
  abbrev from : ℕ
  from = bodies_start (edition s) (task_count s)

  pub fit_found : {ends : List ℕ} → ends_of s count ≡ Some ends → contents_fit s (task_count s) 0 from ≡ true
  fit_found {ends} e = go (contents_fit s (task_count s) 0 from) refl
    where
      go : (b : Bool) → contents_fit s (task_count s) 0 from ≡ b → contents_fit s (task_count s) 0 from ≡ true
      go true q = q
      go false q = let none : None ≡ Some ends = sym (rw (same, q)) ∙ e in absurd (none_not_some none)

  pub fit_none : ends_of s count ≡ None → contents_fit s (task_count s) 0 from ≡ false
  fit_none e = go (contents_fit s (task_count s) 0 from) refl
    where
      go : (b : Bool) → contents_fit s (task_count s) 0 from ≡ b → contents_fit s (task_count s) 0 from ≡ false
      go true q =
          let some : Some (nine (ends_from s (task_count s) 0 from)) ≡ None = sym (rw (same, q)) ∙ e in
          absurd (none_not_some (sym some))
      go false q = q

-- ---- the ways out, in calls that read the editions up to e

module _ (e : ℕ) (s : List ℕ) where
  -- the reading by the parts of the checks
  by_parts : (r : Checked) → and_then (head_check_up_to e s) (and_then (unless WrongContents no_task (test7 s)) (tasks_check (bodies s))) ≡ r → reading_up_to e s ≡ answered r (counts_of s)
  by_parts r q = ap (λ (r : Checked). answered r (counts_of s)) (file-parts e s ∙ q)

  pub head_refused : {r : Refusal} → head_check_up_to e s ≡ Err r → Err r ≡ reading_up_to e s
  head_refused {r} q = sym (by_parts (Err r) (rw q))

  module _ (passed : head_check_up_to e s ≡ Ok tt) where
    pub read_contents : contents_fit s (task_count s) 0 (bodies_start (edition s) (task_count s)) ≡ false → Err (refusal WrongContents no_task) ≡ reading_up_to e s
    read_contents q = sym (by_parts (Err (refusal WrongContents no_task)) (rw (passed, q)))

    module _ (fit : contents_fit s (task_count s) 0 (bodies_start (edition s) (task_count s)) ≡ true) where
      pub read_tasks : {r : Refusal} → tasks_check (bodies s) ≡ Err r → Err r ≡ reading_up_to e s
      read_tasks {r} q = sym (by_parts (Err r) (rw (passed, fit, q)))

      pub read_accepted : tasks_check (bodies s) ≡ Ok tt → Ok (counts_of s) ≡ reading_up_to e s
      read_accepted q = sym (by_parts (Ok tt) (rw (passed, fit, q)))

      -- the ends that were found, with the count of the tasks as the code has it
      module _ (count : ℕ) (same : count ≡ task_count s) (ends : List ℕ) (found : ends_of s count ≡ Some ends) where
        ends-nine : ends ≡ nine (ends_from s (task_count s) 0 (bodies_start (edition s) (task_count s)))
        ends-nine = let told : Some ends ≡ Some (nine (ends_from s (task_count s) 0 (bodies_start (edition s) (task_count s)))) = sym found ∙ rw (same, fit) in cc

        pub ends-order : task_count s ≤ 8 → {t : ℕ} → t ≡ task_count s → InOrder s ends t
        ends-order few q = rw (ends-nine, q) (record {
          few = few;
          rise = λ j l. end-rises s (task_count s) (bodies_start (edition s) (task_count s)) j l;
          within = λ j l. end-inside s (task_count s) (bodies_start (edition s) (task_count s)) fit (suc j) l;
        })

        pub ends-bodies : {t : ℕ} → t ≡ task_count s → between s ends t 0 ≡ bodies s
        ends-bodies q = rw (ends-nine, q) (between-bodies s (task_count s) (bodies_start (edition s) (task_count s)) fit)

-- ---- the body of a task

pub record InFile (s : List ℕ) (j : ℕ) : Type 0 where
  pub below : j < task_count s
  pub few : task_count s ≤ 8
  pub entry : contents_start (edition s) + 4 * j + 4 ≤ length s
  pub ending : offset_of s j + size_of s j ≤ length s

pub inside_up_to : (e : ℕ) (s : List ℕ) {a : Accepted} → reading_up_to e s ≡ Ok a → (j : ℕ) → j < a.t → InFile s j
inside_up_to e s {a} q j l =
    let (c, en, et) = accepted_up_to e s a q in
    let p = passing_up_to e s c in
    let h : j < task_count s = omega arith in
    let at = bodies_start (edition s) (task_count s) in
    record {
      below = h;
      few = p.t_high;
      entry = omega (arith, fit_within s (task_count s) 0 at p.fit);
      ending = omega (arith, end-next s (task_count s) at j h, end_offset s (task_count s) at p.fit j h, end-inside s (task_count s) at p.fit (suc j) h);
    }

pub body-inside : (s : List ℕ) {a : Accepted} → reading_of s ≡ Ok a → (j : ℕ) → j < a.t → InFile s j
body-inside s q j l = inside_up_to 1 s q j l

module _ (e : ℕ) (s : List ℕ) (j : ℕ) where
  has_body_lem : {a : Accepted} → reading_up_to e s ≡ Ok a → j < a.t → has_body e s j ≡ true
  has_body_lem {a} q l = let (c, en, et) = accepted_up_to e s a q in rw (q, lt-ltb j (task_count s) (omega arith))

  pub place-there : {a : Accepted} {start long : ℕ} → reading_up_to e s ≡ Ok a → j < a.t → start ≡ offset_of s j → long ≡ size_of s j → (start ≡ place_start e s j) × (long ≡ place_length e s j)
  place-there a l p q = (rw (has_body_lem a l) p, rw (has_body_lem a l) q)

  no_body : has_body e s j ≡ false → (0 ≡ place_start e s j) × (0 ≡ place_length e s j)
  no_body q = (rw q, rw q)

  pub place-refused : {r : Refusal} → reading_up_to e s ≡ Err r → (0 ≡ place_start e s j) × (0 ≡ place_length e s j)
  place-refused q = no_body (rw q)

  pub place-above : {a : Accepted} → reading_up_to e s ≡ Ok a → a.t ≤ j → (0 ≡ place_start e s j) × (0 ≡ place_length e s j)
  place-above {a} q l = no_body (let (c, en, et) = accepted_up_to e s a q in rw (q, le-ltb j (task_count s) (omega arith)))

  -- the place lies in the file, and what stands there is the body
  pub place_inside : place_start e s j + place_length e s j ≤ length s
  place_inside = go (reading_up_to e s) refl
    where
      zero_place : (0 ≡ place_start e s j) × (0 ≡ place_length e s j) → place_start e s j + place_length e s j ≤ length s
      zero_place (p, q) = omega (arith, p, q)

      go : (r : Reading) → reading_up_to e s ≡ r → place_start e s j + place_length e s j ≤ length s
      go (Err r) q = zero_place (place-refused q)
      go (Ok k) a = below (ltb j k.t) refl
        where
          below : (x : Bool) → ltb j k.t ≡ x → place_start e s j + place_length e s j ≤ length s
          below true q =
              let l = ltb-true j k.t q in
              let (p, z) = place-there a l refl refl in
              omega (arith, p, z, (inside_up_to e s a j l).ending)
          below false q = zero_place (place-above a (ltb-false j k.t q))

  pub place-body : {from to : ℕ} → from ≡ place_start e s j → to ≡ from + place_length e s j → take (to - from) (drop from s) ≡ body_part e s j
  place-body {from} {to} p f =
      let n : to - from ≡ place_length e s j = omega arith in
      rw (n, p) (go (has_body e s j) refl)
    where
      go : (x : Bool) → has_body e s j ≡ x → take (place_length e s j) (drop (place_start e s j) s) ≡ body_part e s j
      go true q = rw q
      go false q = rw q
