-- What the writer's checks answer where one of them fails, and what holds where all pass: the file is short enough for its offsets.
-- The idea: each check stops the chain where its test holds; a body that keeps its layout is at most 938 bytes long.
use mathlib.Core.Path.{◌≡◌, sym, ap, ◌∙◌}
use mathlib.Core.Bool.{true, false, not}
use mathlib.Core.List.{List, [], ◌∷◌, ◌++◌}
use Prim.Native.Nat.{ℕ, ◌≤◌, ◌<◌}
use native.Mathlib.Omega.{arith}
use lib.Dec.{eqb, ltb}
use lib.ListN.{length, drop}
use borrow.Author.Tests.{eqb-true, ltb-false, lt-ltb, le-ltb, not-false}
use Rattle.std.specs.Prelude.{Ok, Err}
use Rattle.project.specs.declared.answers.Check.TheVariants.{CacheBlocks, TaskCount, WrongContents, OutLength}
use Rattle.project.specs.declared.answers.Refusal.{Refusal}
use Rattle.project.specs.File.{file_in}
use Rattle.project.specs.Checklist.{one, no_task, refusal, Checked, and_then, unless}
use Rattle.project.specs.Reading.{test5, count_test, task_checks, tasks_check}
use Rattle.project.specs.Writing.{Writing, total, cut, file_length, Fault14, writer_check_in, writing_in, out_in}
use Rattle.project.proofs.Checklists.{then_none, verdict_append}
use Rattle.project.proofs.Accepted.{unless-passed, then_passed, or_false_left, or_false_right, tasks_kept, joined-long}
use Rattle.writer.proofs.PutLaws.{length_cut, joined-cut}

-- that many bytes written, as an answer
abbrev pub written : ℕ → Writing
written l = Ok l

-- ---- the checks

module _ (k n : ℕ) (s ls out : List ℕ) where
  -- the tests up to that of check 6 and 7 do not hold
  abbrev pub Past6 : Type 0
  Past6 = (test5 k n ≡ false) × (count_test (length ls) ≡ false)

  abbrev pub Past7 : Type 0
  Past7 = Past6 × (eqb (total ls) (length s) ≡ true)

  -- the checks by their parts
  pub writer_parts : writer_check_in k n s ls out
      ≡ and_then (unless CacheBlocks no_task (test5 k n)) (and_then (unless TaskCount no_task (count_test (length ls))) (and_then (unless WrongContents no_task (not (eqb (total ls) (length s))))
      (and_then (tasks_check (cut s ls)) (unless OutLength no_task (ltb (length out) (file_length k s ls))))))
  writer_parts =
      ap (λ (r : Checked). and_then (unless CacheBlocks no_task (test5 k n)) (and_then (unless TaskCount no_task (count_test (length ls))) (and_then (unless WrongContents no_task (not (eqb (total ls) (length s)))) r)))
      (verdict_append (task_checks (cut s ls)) (one OutLength no_task (ltb (length out) (file_length k s ls)) (Fault14 k n s ls out) ∷ [])
      ∙ ap (and_then (tasks_check (cut s ls))) (then_none (unless OutLength no_task (ltb (length out) (file_length k s ls)))))

  pub at_tasks : Past7 → {r : Refusal} → tasks_check (cut s ls) ≡ Err r → Err r ≡ writer_check_in k n s ls out
  at_tasks ((e5, e6), e7) e = sym (writer_parts ∙ rw (e5, e6, e7, e))

  pub at14 : {r : Refusal} → r ≡ refusal OutLength no_task → Past7 → tasks_check (cut s ls) ≡ Ok tt → length out < file_length k s ls → Err r ≡ writer_check_in k n s ls out
  at14 q ((e5, e6), e7) e h = rw q (sym (writer_parts ∙ rw (e5, e6, e7, e, lt-ltb (length out) (file_length k s ls) h)))

  pub at_none : Past7 → tasks_check (cut s ls) ≡ Ok tt → file_length k s ls ≤ length out → writer_check_in k n s ls out ≡ Ok tt
  at_none ((e5, e6), e7) e h = writer_parts ∙ rw (e5, e6, e7, e, le-ltb (length out) (file_length k s ls) h)

  -- eight bodies that pass are short
  tasks_short : Past7 → length ls ≤ 8 → tasks_check (cut s ls) ≡ Ok tt → length s ≤ 7504
  tasks_short (p, e7) few ok =
      let kept = tasks_kept (cut s ls) ok in
      omega (arith, joined-long (cut s ls) kept, length_cut s ls, ap length (joined-cut s ls (eqb-true (total ls) (length s) e7)))

  -- what all checks passing says
  pub record AllPassed : Type 0 where
    pub past : Past7
    pub some : 1 ≤ length ls
    pub few : length ls ≤ 8
    pub sum : total ls ≡ length s
    pub tasks : tasks_check (cut s ls) ≡ Ok tt
    pub short : length s ≤ 7504
    pub room : file_length k s ls ≤ length out

  pub all-passed : writer_check_in k n s ls out ≡ Ok tt → AllPassed
  all-passed e =
      let (t5, e6) = unless-passed CacheBlocks no_task (test5 k n) _ (sym writer_parts ∙ e) in
      let (t6, e7) = unless-passed TaskCount no_task (count_test (length ls)) _ e6 in
      let (t7, e8) = unless-passed WrongContents no_task (not (eqb (total ls) (length s))) _ e7 in
      let (ok, p14) = then_passed (tasks_check (cut s ls)) _ e8 in
      let t14 = (unless-passed OutLength no_task (ltb (length out) (file_length k s ls)) (Ok tt) (then_none (unless OutLength no_task (ltb (length out) (file_length k s ls))) ∙ p14)).0 in
      let fit = not-false (eqb (total ls) (length s)) t7 in
      let past : Past7 = ((t5, t6), fit) in
      let few = ltb-false 8 (length ls) (or_false_right (ltb (length ls) 1) (ltb 8 (length ls)) t6) in
      record {
        past = past;
        some = ltb-false (length ls) 1 (or_false_left (ltb (length ls) 1) (ltb 8 (length ls)) t6);
        few = few;
        sum = eqb-true (total ls) (length s) fit;
        tasks = ok;
        short = tasks_short past few ok;
        room = ltb-false (length out) (file_length k s ls) t14;
      }

  -- ---- the two answers

  pub answer_written : {l : ℕ} {new : List ℕ} → writer_check_in k n s ls out ≡ Ok tt → l ≡ file_length k s ls → new ≡ file_in k n (cut s ls) ++ drop (file_length k s ls) out
      → (Ok l ≡ writing_in k n s ls out) × (new ≡ out_in k n s ls out)
  answer_written e z q = (rw e (ap (written) z), rw e q)
