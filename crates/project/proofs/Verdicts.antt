-- The tests of Reader's checks hold exactly when their faults are there: `file_agreeing`. So what Reader answers is the verdict: `reader_verdict`.
-- The idea: each of the checks 2 to 6 is a comparison of numbers or lists; 7 is that of the contents, 8 and 9 those of the bodies.
use mathlib.Core.Path.{◌≡◌, refl, sym, ap, ◌∙◌}
use mathlib.Core.Logic.{◌≢◌, ◌⊎◌, inl, inr, ◌↔◌}
use mathlib.Core.Bool.{Bool, true, false, not, ◌||◌, true≢false}
use mathlib.Core.List.{List, [], ◌∷◌}
use Prim.Native.Nat.{ℕ, zero, suc, ◌*◌, ◌≤◌, ◌<◌}
use native.Mathlib.Omega.{arith}
use lib.Dec.{eqb, ltb}
use lib.ListN.{length, get_or, take, drop, replicate}
use borrow.Author.Tests.{eqb-false, ne_eqb, ltb-true, ltb-false, lt-ltb, not-true}
use Rattle.model.specs.Computed.{same_list}
use Rattle.model.proofs.Membership.{or_cases, or_left, or_right, same_list_self, same_list_true}
use Rattle.body.proofs.BlockParts.{all_take, all_drop}
use Rattle.std.specs.Prelude.{Ok, Err}
use Rattle.project.specs.File.{mark, edition, cache_blocks, task_count, reserve, bodies_start, offset_of, size_of, bodies_from, bodies}
use Rattle.project.specs.Checks.{longest, Fault6, Fault7, body}
use Rattle.project.specs.Checklist.{Verdict, numbers, Agreeing, Checked, answered}
use Rattle.project.specs.Reading.{count_test, reserve_test, contents_fit, test7, head_checks_up_to, contents_checks, file_checks_up_to, file_checks, file_check_up_to, counts_of, reading_up_to}
use Rattle.project.specs.Verdict.{ReaderVerdict}
use Rattle.project.proofs.Checklists.{verdict_exact, agreeing_append}
use Rattle.project.proofs.ContentsLaws.{contents_exact}
use Rattle.project.proofs.TaskFaults.{Bytes, tasks_agreeing}

-- ---- tests of numbers

-- outside two bounds
pub outside_exact : (a b c d : ℕ) → ((ltb a b || ltb c d) ≡ true) ↔ ((a < b) ⊎ (c < d))
outside_exact a b c d = (there, back)
  where
    there : (ltb a b || ltb c d) ≡ true → (a < b) ⊎ (c < d)
    there e = elim (or_cases (ltb a b) (ltb c d) e) [ inl p ↦ inl (ltb-true a b p) | inr p ↦ inr (ltb-true c d p) ]

    back : (a < b) ⊎ (c < d) → (ltb a b || ltb c d) ≡ true
    back (inl h) = or_left (ltb a b) (ltb c d) (lt-ltb a b h)
    back (inr h) = or_right (ltb a b) (ltb c d) (lt-ltb c d h)

-- two different numbers
pub differ_exact : (a b : ℕ) → (not (eqb a b) ≡ true) ↔ (a ≢ b)
differ_exact a b = (λ e. eqb-false a b (not-true (eqb a b) e), λ h. ap not (ne_eqb a b h))

-- one of two tests
pub either_exact : {A B : Type 0} (a b : Bool) → ((a ≡ true) ↔ A) → ((b ≡ true) ↔ B) → ((a || b) ≡ true) ↔ (A ⊎ B)
either_exact {A} {B} a b f g = (there, back)
  where
    there : (a || b) ≡ true → A ⊎ B
    there e = elim (or_cases a b e) [ inl p ↦ inl (f.0 p) | inr p ↦ inr (g.0 p) ]

    back : A ⊎ B → (a || b) ≡ true
    back (inl h) = or_left a b (f.1 h)
    back (inr h) = or_right a b (g.1 h)

-- two different lists
pub lists_exact : (a b : List ℕ) → (not (same_list a b) ≡ true) ↔ (a ≢ b)
lists_exact a b = (there, λ f. go (same_list a b) refl f)
  where
    there : not (same_list a b) ≡ true → a ≢ b
    there e q = true≢false (sym (rw q (same_list_self b)) ∙ not-true (same_list a b) e)

    go : (x : Bool) → same_list a b ≡ x → (a ≢ b) → not x ≡ true
    go true e f = absurd (f (same_list_true a b e))
    go false e f = refl

-- ---- the checks on the head

head_agreeing : (e : ℕ) (s : List ℕ) → Agreeing (head_checks_up_to e s)
head_agreeing e s =
    let k = edition s in
    let n = cache_blocks s in
    let t = task_count s in
    let zeros = lists_exact (take (reserve k) (drop 8 s)) (replicate (reserve k) 0) in
    let seven = either_exact (not (eqb (get_or s 7 0) 0)) (reserve_test s) (differ_exact (get_or s 7 0) 0) zeros in
    let six = either_exact (count_test t) (not (eqb (get_or s 7 0) 0) || reserve_test s) (outside_exact t 1 8 t) seven in
    (outside_exact (length s) 8 (longest e) (length s), λ p2. (lists_exact (take 4 s) mark, λ p3. (outside_exact k 1 e k, λ p4. (outside_exact n 1 (16 * k) n, λ p5. (six, λ p6. tt)))))

-- ---- the contents, where there are tasks

exact7 : (s : List ℕ) → (Fault6 s → ⊥) → (test7 s ≡ true) ↔ Fault7 s
exact7 s none = (there, λ f. go (contents_fit s (task_count s) 0 (bodies_start (edition s) (task_count s))) refl f)
  where
    some : 1 ≤ task_count s
    some = at_least (ltb (task_count s) 1) refl
      where
        at_least : (b : Bool) → ltb (task_count s) 1 ≡ b → 1 ≤ task_count s
        at_least true e = absurd (none (inl (inl (ltb-true (task_count s) 1 e))))
        at_least false e = ltb-false (task_count s) 1 e

    there : test7 s ≡ true → Fault7 s
    there e c = true≢false (sym ((contents_exact s some).1 c) ∙ not-true (contents_fit s (task_count s) 0 (bodies_start (edition s) (task_count s))) e)

    go : (b : Bool) → contents_fit s (task_count s) 0 (bodies_start (edition s) (task_count s)) ≡ b → Fault7 s → not b ≡ true
    go true e f = absurd (f ((contents_exact s some).0 e))
    go false e f = refl

-- ---- the whole file

-- each body is made of bytes of the file
bodies_bytes : (s : List ℕ) → Bytes s → (left j i : ℕ) → i < length (bodies_from s left j) → Bytes (body (bodies_from s left j) i)
bodies_bytes s h zero j i l = absurd (omega arith)
bodies_bytes s h (suc left) j zero l = all_take _ (size_of s j) _ (all_drop _ (offset_of s j) s h)
bodies_bytes s h (suc left) j (suc i) l = bodies_bytes s h left (suc j) i (omega arith)

pub file_agreeing_up_to : (e : ℕ) (s : List ℕ) → Bytes s → Agreeing (file_checks_up_to e s)
file_agreeing_up_to e s h =
    agreeing_append (head_checks_up_to e s) (contents_checks s) (head_agreeing e s)
    (λ p. (exact7 s p.1.1.1.1.0, λ p7. tasks_agreeing (bodies s) (bodies_bytes s h (task_count s) 0)))

pub file_agreeing : (s : List ℕ) → Bytes s → Agreeing (file_checks s)
file_agreeing s h = file_agreeing_up_to 1 s h

-- what Reader answers, for every list of bytes
pub reader_verdict : (e : ℕ) (s : List ℕ) → Bytes s → ReaderVerdict e s (reading_up_to e s)
reader_verdict e s h = go (file_check_up_to e s) (verdict_exact (file_checks_up_to e s) (file_agreeing_up_to e s h))
  where
    go : (r : Checked) → Verdict (file_checks_up_to e s) r → ReaderVerdict e s (answered r (counts_of s))
    go (Ok x) v = (v, refl, refl)
    go (Err r) v = v

-- "Reader checks 2 to 10."; without 10 (document 02, Point 5)
pub reader_order : (e : ℕ) (s : List ℕ) → numbers (file_checks_up_to e s) ≡ 2 ∷ 3 ∷ 4 ∷ 5 ∷ 6 ∷ 7 ∷ 8 ∷ 9 ∷ []
reader_order e s = refl
