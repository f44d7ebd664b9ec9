-- The answers of Replay in the code's words.
-- The idea: each check passed leaves the checks that follow.
use Rattle.std.specs.Prelude.{Ok, Err}
use Rattle.project.specs.Checklist.{Checked}
use mathlib.Core.Path.{◌≡◌, sym, ap, ◌∙◌}
use mathlib.Core.List.{List}
use Prim.Native.Nat.{ℕ}
use Rattle.project.specs.declared.answers.Refusal.{Refusal}
use Rattle.project.specs.declared.answers.Accepted.{Accepted}
use Rattle.project.specs.File.{task_count}
use Rattle.project.specs.Checklist.{and_then, answered}
use Rattle.project.specs.Reading.{file_checks, file_check, reading_of}
use Rattle.project.specs.Bodies.{accepted}
use Rattle.project.proofs.Checklists.{verdict_append}
use Rattle.project.proofs.Accepted.{accepted-passed}
use Rattle.reader.proofs.TaskBodies.{refused_check}
use Rattle.sheet_checks.specs.SheetChecks.{run_in, sheet_checks, sheet_check, Passed13}
use Rattle.sheet_checks.proofs.CheckLaws.{passed-sheet}
use Rattle.replay.specs.declared.Counted.{Counted}
use Rattle.replay.specs.Replay.{replay_check, counted_in, replaying_of}

-- the checks of the file, and those on the sheet
pub replay_parts : (s sheet : List ℕ) → replay_check s sheet ≡ and_then (file_check s) (sheet_check s sheet)
replay_parts s sheet = verdict_append (file_checks s) (sheet_checks s sheet)

-- the answer by what the checks say
pub answer-by : (s sheet : List ℕ) (r : Checked) → replay_check s sheet ≡ r → replaying_of s sheet ≡ answered r (counted_in s (run_in s sheet))
answer-by s sheet r e = ap (λ (c : Checked). answered c (counted_in s (run_in s sheet))) e

-- a file that isn't accepted
pub call_refused : (s sheet : List ℕ) {r : Refusal} → reading_of s ≡ Err r → Err r ≡ replaying_of s sheet
call_refused s sheet {r} e = sym (answer-by s sheet (Err r) (replay_parts s sheet ∙ rw (refused_check s e)))

-- ---- the answer for an accepted file

module _ (s sheet : List ℕ) {a : Accepted} (e : reading_of s ≡ Ok a) where
  checks : replay_check s sheet ≡ sheet_check s sheet
  checks = replay_parts s sheet ∙ ap (λ (c : Checked). and_then c (sheet_check s sheet)) (accepted-passed s a e).0

  pub tasks_of_lem : {t : ℕ} → t ≡ a.t → t ≡ task_count s
  tasks_of_lem q = q ∙ (accepted-passed s a e).2

  pub call_sheet : {r : Refusal} → sheet_check s sheet ≡ Err r → Err r ≡ replaying_of s sheet
  call_sheet {r} q = sym (answer-by s sheet (Err r) (checks ∙ q))

  module _ (q : sheet_check s sheet ≡ Ok tt) where
    pub ready : Passed13 s sheet
    ready = let p = passed-sheet s sheet q in record { rules = record { file = ap accepted e; kept = p.kept }; complete = p.complete; done = p.done }

    pub call_counted : {x : Counted} → x ≡ counted_in s (run_in s sheet) → Ok x ≡ replaying_of s sheet
    call_counted ex = ap (λ (c : Counted). Ok c) ex ∙ sym (answer-by s sheet (Ok tt) (checks ∙ q))
