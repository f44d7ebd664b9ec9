-- What the call answers is the verdict on its checks: `costliest_verdict`; and there is no other: `costliest_unique`.
-- The idea: 1, 18 and 19 compare numbers, 2 to 9 are those of the file, and of check 11 the two tasks' tests are left.
use mathlib.Core.Path.{◌≡◌, refl, sym, ap, ◌∙◌}
use mathlib.Core.Logic.{◌≢◌, inl, inr, ◌↔◌}
use mathlib.Core.Bool.{Bool, true, false, not, ◌&&◌, ◌||◌, cond, true≢false, false≢true}
use mathlib.Core.List.{List, [], ◌∷◌, ◌++◌, map}
use Prim.Native.Nat.{ℕ, zero, suc, ◌+◌, ◌≤◌, ◌<◌}
use native.Mathlib.Nat.{add-zero, zero-add, add-suc, suc-add}
use native.Mathlib.Omega.{arith}
use lib.Dec.{eqb, leb, ltb}
use lib.ListN.{length, get_or}
use borrow.Author.Tests.{eqb-true, eqb-false, eq-eqb, leb-true, le-leb, ltb-true, ltb-false, lt-ltb, ne_eqb}
use Rattle.model.specs.Tasks.{task}
use Rattle.model.specs.States.{Fault11}
use Rattle.std.specs.Prelude.{Ok, Err}
use Rattle.project.specs.declared.answers.Check.{Check}
use Rattle.project.specs.declared.answers.Check.TheVariants.{TooManyStates}
use Rattle.project.specs.File.{cache_blocks, task_count}
use Rattle.project.specs.Checklist.{refusal, AllPass, Verdict, numbers, Checked, lowest, verdict_of, Agreeing}
use Rattle.project.specs.Reading.{file_checks}
use Rattle.project.specs.Tasks.{tasks_of, file_cache_in, file_cache}
use Rattle.project.proofs.Checklists.{ok-not-err, verdict_exact, verdict_unique, passed_computed, then_none, agreeing_append, of_exact}
use Rattle.project.proofs.TaskFaults.{Bytes}
use Rattle.project.proofs.Verdicts.{differ_exact, either_exact, file_agreeing}
use Rattle.reader.proofs.TaskBodies.{passing_accepted, task-body, tasks_long, task-bounds}
use Rattle.rows.specs.Rows.{area_length}
use Rattle.graphs.specs.TaskRows.{test11}
use Rattle.graphs.proofs.TooMany.{test11_exact}
use Rattle.run_sheet.specs.Joined.{costliest_sheet_length}
use Rattle.costliest.specs.Costliest.{test18, Fault18, test19, Fault19, for_two, two_tests, FaultOfTwo, asked_checks, two_checks, two_check, costliest_checks, costliest_check}

-- ---- checks 18 and 19

equal_exact : (a b : ℕ) → (eqb a b ≡ true) ↔ (a ≡ b)
equal_exact a b = (eqb-true a b, eq-eqb a b)

not-below_exact : (t a : ℕ) → (leb t a ≡ true) ↔ (a < t → ⊥)
not-below_exact t a = (λ e l. omega (arith, leb-true t a e), λ f. go f (ltb a t) refl)
  where
    go : (a < t → ⊥) → (b : Bool) → ltb a t ≡ b → leb t a ≡ true
    go f true e = absurd (f (ltb-true a t e))
    go f false e = le-leb t a (ltb-false a t e)

exact18 : (t i j : ℕ) → (test18 t i j ≡ true) ↔ Fault18 t i j
exact18 t i j = either_exact (eqb i j) (leb t i || leb t j) (equal_exact i j) (either_exact (leb t i) (leb t j) (not-below_exact t i) (not-below_exact t j))

exact19 : (sheet : List ℕ) → (test19 sheet ≡ true) ↔ Fault19 sheet
exact19 sheet = (ltb-true (length sheet) costliest_sheet_length, lt-ltb (length sheet) costliest_sheet_length)

-- two different tasks of the file, where check 18 passes
pub two_tasks : (t i j : ℕ) → test18 t i j ≡ false → (i < t) × (j < t) × (j ≢ i)
two_tasks t i j e = go (ltb i t) refl (ltb j t) refl
  where
    broken : Fault18 t i j → ⊥
    broken f = true≢false (sym ((exact18 t i j).1 f) ∙ e)

    go : (a : Bool) → ltb i t ≡ a → (b : Bool) → ltb j t ≡ b → (i < t) × (j < t) × (j ≢ i)
    go true p true q = (ltb-true i t p, ltb-true j t q, λ z. broken (inl (sym z)))
    go false p b q = absurd (broken (inr (inl (λ l. omega (arith, ltb-false i t p)))))
    go true p false q = absurd (broken (inr (inr (λ l. omega (arith, ltb-false j t q)))))

-- ---- check 11 of the two

-- the test of the task numbered b
for_two_lem : (i j a : ℕ) (tests : List Bool) (b : ℕ) → get_or (for_two i j a tests) b false ≡ ((eqb (a + b) i || eqb (a + b) j) && get_or tests b false)
for_two_lem i j a [] b = sym (and_false (eqb (a + b) i || eqb (a + b) j))
  where
    and_false : (x : Bool) → (x && false) ≡ false
    and_false true = refl
    and_false false = refl
for_two_lem i j a (test ∷ tests) zero = ap (λ (n : ℕ). (eqb n i || eqb n j) && test) (sym (add-zero a))
for_two_lem i j a (test ∷ tests) (suc b) =
    for_two_lem i j (suc a) tests b ∙ ap (λ (n : ℕ). (eqb n i || eqb n j) && get_or tests b false) (suc-add a b ∙ sym (add-suc a b))

and_exact : {A B : Type 0} (a b : Bool) → ((a ≡ true) ↔ A) → ((b ≡ true) ↔ B) → ((a && b) ≡ true) ↔ (A × B)
and_exact true true p q = (λ e. (p.0 refl, q.0 refl), λ e. refl)
and_exact true false p q = (λ e. absurd (false≢true e), λ (x, y). q.1 y)
and_exact false b p q = (λ e. absurd (false≢true e), λ (x, y). p.1 x)

module _ (w : ℕ) (wide_enough : 16 ≤ w) (s : List ℕ) (h : Bytes s) (i j : ℕ) where
  exact11 : AllPass (file_checks s) → (a : ℕ) → a < length (tasks_of s) → (test11 (file_cache_in w s) (task (tasks_of s) a) ≡ true) ↔ Fault11 (file_cache s) (task (tasks_of s) a)
  exact11 all a inside =
      let ok = passing_accepted s (passed_computed (file_checks s) (file_agreeing s h) all) in
      let l = rw (tasks_long s) at inside in
      let b = task-body s ok a l in
      test11_exact w (cache_blocks s) b.low (omega (arith, b.high)) (task (tasks_of s) a) (task-bounds s a ok l).few

  two_exact : AllPass (file_checks s) → (a : ℕ) → (get_or (two_tests w s i j) a false ≡ true) ↔ FaultOfTwo s i j a
  two_exact all a =
      let tests = map (test11 (file_cache_in w s)) (tasks_of s) in
      let e : get_or (two_tests w s i j) a false ≡ ((eqb a i || eqb a j) && get_or tests a false)
      = for_two_lem i j 0 tests a ∙ ap (λ (n : ℕ). (eqb n i || eqb n j) && get_or tests a false) (zero-add a) in
      let x = and_exact (eqb a i || eqb a j) (get_or tests a false) (either_exact (eqb a i) (eqb a j) (equal_exact a i) (equal_exact a j))
      (of_exact (test11 (file_cache_in w s)) (Fault11 (file_cache s)) [] (tasks_of s) (exact11 all) a) in
      (λ q. x.0 (sym e ∙ q), λ f. e ∙ x.1 f)

  module _ (first second sheet : List ℕ) where
    costliest_agreeing : Agreeing (costliest_checks w s i j first second sheet)
    costliest_agreeing = (
      either_exact (not (eqb (length first) (area_length w))) (not (eqb (length second) (area_length w))) (differ_exact (length first) (area_length w)) (differ_exact (length second) (area_length w)),
      λ p1. agreeing_append (file_checks s) (asked_checks (task_count s) i j sheet ++ two_checks w s i j) (file_agreeing s h) (λ all. (exact18 (task_count s) i j, λ p18. (exact19 sheet, λ p19. (two_exact all, λ p11. tt)))),
    )

    -- the verdict on every list of bytes, two tasks, two areas and a sheet
    pub costliest_verdict : Verdict (costliest_checks w s i j first second sheet) (costliest_check w s i j first second sheet)
    costliest_verdict = verdict_exact (costliest_checks w s i j first second sheet) costliest_agreeing

    -- and no other
    pub costliest_unique : (r : Checked) → Verdict (costliest_checks w s i j first second sheet) r → r ≡ costliest_check w s i j first second sheet
    costliest_unique r v = verdict_unique (costliest_checks w s i j first second sheet) r (costliest_check w s i j first second sheet) v costliest_verdict

    -- "18, .., after 10; 19, .., after 18; then 11 for the two"
    pub costliest-order : numbers (costliest_checks w s i j first second sheet) ≡ 1 ∷ 2 ∷ 3 ∷ 4 ∷ 5 ∷ 6 ∷ 7 ∷ 8 ∷ 9 ∷ 18 ∷ 19 ∷ 11 ∷ []
    costliest-order = refl

-- ---- check 11 of the two, as the code makes it

lowest-at : (c : Check) (from a : ℕ) (tests : List Bool) → get_or tests a false ≡ true → ((b : ℕ) → b < a → get_or tests b false ≡ false) → lowest c from tests ≡ Err (refusal c (from + a))
lowest-at c from a [] e none = absurd (false≢true e)
lowest-at c from zero (test ∷ tests) e none = rw (e, add-zero from)
lowest-at c from (suc a) (test ∷ tests) e none =
    let z : test ≡ false = none 0 (omega arith) in
    rw (z, add-suc from a) (lowest-at c (suc from) a tests e (λ b l. none (suc b) (omega arith)) ∙ ap (λ (k : ℕ). Err (refusal c k)) (suc-add from a))

lowest-none : (c : Check) (from : ℕ) (tests : List Bool) → ((b : ℕ) → get_or tests b false ≡ false) → lowest c from tests ≡ Ok tt
lowest-none c from [] none = refl
lowest-none c from (test ∷ tests) none =
    let z : test ≡ false = none 0 in
    rw z (lowest-none c (suc from) tests (λ b. none (suc b)))

-- check 11 that names a task
abbrev named : ℕ → Checked
named a = Err (refusal TooManyStates a)

-- the lower of two tasks whose tests are `own` and `other`
module _ (i j : ℕ) (tests : List Bool) (own other : Bool) (ne : j ≢ i) (ei : get_or tests i false ≡ own) (ej : get_or tests j false ≡ other) where
  abbrev two : List Bool
  two = for_two i j 0 tests

  at_two : (b : ℕ) → get_or two b false ≡ ((eqb b i || eqb b j) && get_or tests b false)
  at_two b = for_two_lem i j 0 tests b ∙ ap (λ (n : ℕ). (eqb n i || eqb n j) && get_or tests b false) (zero-add b)

  at_i : get_or two i false ≡ own
  at_i = at_two i ∙ rw (eq-eqb i i refl, ei)

  at_j : get_or two j false ≡ other
  at_j = at_two j ∙ go (eqb j i)
    where
      go : (b : Bool) → ((b || eqb j j) && get_or tests j false) ≡ other
      go true = ej
      go false = rw (eq-eqb j j refl, ej)

  at_other : (b : ℕ) → b ≢ i → b ≢ j → get_or two b false ≡ false
  at_other b p q = at_two b ∙ rw (ne_eqb b i p, ne_eqb b j q)

  -- none below a, where the test of each of the two that is below a fails
  below : (a : ℕ) → (i < a → own ≡ false) → (j < a → other ≡ false) → (b : ℕ) → b < a → get_or two b false ≡ false
  below a p q b l = go (eqb b i) refl (eqb b j) refl
    where
      go : (x : Bool) → eqb b i ≡ x → (y : Bool) → eqb b j ≡ y → get_or two b false ≡ false
      go true e y f = let z = eqb-true b i e in ap (λ (n : ℕ). get_or two n false) z ∙ at_i ∙ p (omega arith)
      go false e true f = let z = eqb-true b j f in ap (λ (n : ℕ). get_or two n false) z ∙ at_j ∙ q (omega arith)
      go false e false f = at_other b (eqb-false b i e) (eqb-false b j f)

  pub two_lowest : lowest TooManyStates 0 two ≡ two_check i own j other
  two_lowest = go own refl other refl (ltb i j) refl
    where
      go : (x : Bool) → own ≡ x → (y : Bool) → other ≡ y → (l : Bool) → ltb i j ≡ l → lowest TooManyStates 0 two ≡ cond (x && (not y || l)) (named i) (cond y (named j) (Ok tt))
      go true p false q l e = lowest-at TooManyStates 0 i two (at_i ∙ p) (below i (λ h. absurd (omega arith)) (λ h. q)) ∙ ap named (zero-add i)
      go true p true q true e = lowest-at TooManyStates 0 i two (at_i ∙ p) (below i (λ h. absurd (omega arith)) (λ h. absurd (omega (arith, ltb-true i j e)))) ∙ ap named (zero-add i)
      go true p true q false e = lowest-at TooManyStates 0 j two (at_j ∙ q) (below j (λ h. absurd (omega (arith, ltb-false i j e))) (λ h. absurd (omega arith))) ∙ ap named (zero-add j)
      go false p true q l e = lowest-at TooManyStates 0 j two (at_j ∙ q) (below j (λ h. p) (λ h. absurd (omega arith))) ∙ ap named (zero-add j)
      go false p false q l e = lowest-none TooManyStates 0 two (λ b. below (suc (b + (i + j))) (λ h. p) (λ h. q) b (omega arith))

map_at : {A : Type 0} (f : A → Bool) (l : List A) (d : A) (i : ℕ) → i < length l → get_or (map f l) i false ≡ f (get_or l i d)
map_at f [] d i h = absurd (omega arith)
map_at f (x ∷ l) d zero h = refl
map_at f (x ∷ l) d (suc i) h = map_at f l d i (omega arith)

-- by whether each of the two has a block with too many states
pub two_verdict : (w : ℕ) (s : List ℕ) (i j : ℕ) → i < length (tasks_of s) → j < length (tasks_of s) → j ≢ i → {own other : Bool}
    → own ≡ test11 (file_cache_in w s) (task (tasks_of s) i) → other ≡ test11 (file_cache_in w s) (task (tasks_of s) j) → verdict_of (two_checks w s i j) ≡ two_check i own j other
two_verdict w s i j hi hj ne {own} {other} e f =
    let tests = map (test11 (file_cache_in w s)) (tasks_of s) in
    then_none (lowest TooManyStates 0 (two_tests w s i j))
    ∙ two_lowest i j tests own other ne (map_at (test11 (file_cache_in w s)) (tasks_of s) [] i hi ∙ sym e) (map_at (test11 (file_cache_in w s)) (tasks_of s) [] j hj ∙ sym f)

-- neither has one, where it passes
pub both-passed : (i j : ℕ) (own other : Bool) → two_check i own j other ≡ Ok tt → (own ≡ false) × (other ≡ false)
both-passed i j false false e = (refl, refl)
both-passed i j false true e = absurd (ok-not-err (sym e))
both-passed i j true false e = absurd (ok-not-err (sym e))
both-passed i j true true e = absurd (go (ltb i j) e)
  where
    go : (l : Bool) → cond l (named i) (named j) ≡ Ok tt → ⊥
    go true q = ok-not-err (sym q)
    go false q = ok-not-err (sym q)
