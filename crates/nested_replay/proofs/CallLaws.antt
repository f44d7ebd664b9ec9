-- The answers of Nested replay in the code's words.
-- The idea: each check passed leaves the checks that follow.
use Rattle.std.specs.Prelude.{Some, None, Ok, Err, cond, eqb}
use Rattle.project.specs.declared.answers.Check.TheVariants.{SheetRules, TooDeep, WrongPath, MaskedPoint}
use Rattle.project.specs.Checklist.{refusal, Checked}
use mathlib.Core.Path.{◌≡◌, refl, sym, ap, ◌∙◌}
use mathlib.Core.Logic.{◌⊎◌, inl, inr}
use mathlib.Core.Bool.{Bool, true, false, true≢false}
use mathlib.Core.List.{List}
use Prim.Native.Nat.{ℕ, ◌≤◌}
use native.Mathlib.Omega.{arith}
use borrow.Author.Tests.{not-false, eq-eqb}
use Rattle.project.specs.declared.answers.Refusal.{Refusal}
use Rattle.project.specs.declared.answers.Accepted.{Accepted}
use Rattle.project.specs.File.{task_count}
use Rattle.project.specs.Checklist.{no_task, and_then, answered}
use Rattle.project.specs.Reading.{file_checks, file_check, counts_of, reading_of}
use Rattle.project.specs.Bodies.{accepted}
use Rattle.project.specs.Tasks.{tasks_of}
use Rattle.project.proofs.Checklists.{verdict_append}
use Rattle.project.proofs.Accepted.{unless-passed, accepted-passed}
use Rattle.reader.proofs.TaskBodies.{reading, refused_check}
use Rattle.nested_sheet.specs.Reading.{sheet_fault}
use Rattle.nested_sheet.specs.NestedRuns.{own_list, nested_run_of, nested_right, nested_unmasked}
use Rattle.nested_sheet.proofs.Faults.{fault_is}
use Rattle.nested_sheet.proofs.Kept.{kept-numbers}
use Rattle.nested_sheet.proofs.SheetNests.{nested_right_lem}
use Rattle.nested_replay.specs.NestedReplay.{numbers_check, nested12, nested20, nested13, nested16, nested_sheet_checks, nested_sheet_check, nested_check, total_in, nested_replaying_of}
use Rattle.nested_replay.specs.Passes.{checked_run, runs_check, RunReads, RunReplays}
use Rattle.nested_replay.specs.declared.checks.Right.{Right}
use Rattle.nested_replay.proofs.TaskTables.{few_tasks}
use Rattle.nested_replay.proofs.CheckLaws.{told_right, told_wrong}

-- ---- the checks on the sheet: what its numbers are against, and then the checks on all runs

module _ (s sheet : List ℕ) {t : ℕ} (file : accepted (reading_of s) ≡ true) (et : t ≡ task_count s) where
  pub tasks_few : t ≤ 8
  tasks_few = omega (arith, et, few_tasks s file)

  numbers : numbers_check (task_count s) sheet ≡ numbers_check t sheet
  numbers = ap (λ (k : ℕ). numbers_check k sheet) (sym et)

  -- a number at fault decides
  pub numbers_refused : {r : Refusal} → numbers_check t sheet ≡ Err r → nested_sheet_check s sheet ≡ Err r
  numbers_refused {r} e = go (fault_is (task_count s) sheet)
    where
      go : (sheet_fault (task_count s) sheet ≡ 0) ⊎ ((sheet_fault (task_count s) sheet ≡ 12) ⊎ (sheet_fault (task_count s) sheet ≡ 20)) → nested_sheet_check s sheet ≡ Err r
      go (inl z) = let x : ◌≡◌ {A = Checked} (Ok tt) (Err r) = (rw z at numbers) ∙ e in let n : ◌≡◌ {A = ℕ} 0 1 = cc in absurd (omega arith)
      go (inr (inl z)) = rw z ((rw z at numbers) ∙ e)
      go (inr (inr z)) = rw z ((rw z at numbers) ∙ e)

  module _ (passed : numbers_check t sheet ≡ Ok tt) where
    none : sheet_fault (task_count s) sheet ≡ 0
    none = go (fault_is (task_count s) sheet)
      where
        go : (sheet_fault (task_count s) sheet ≡ 0) ⊎ ((sheet_fault (task_count s) sheet ≡ 12) ⊎ (sheet_fault (task_count s) sheet ≡ 20)) → sheet_fault (task_count s) sheet ≡ 0
        go (inl z) = z
        go (inr (inl z)) = let x : ◌≡◌ {A = Checked} (Err (refusal SheetRules no_task)) (Ok tt) = (rw z at numbers) ∙ passed in let n : ◌≡◌ {A = ℕ} 0 1 = cc in absurd (omega arith)
        go (inr (inr z)) = let x : ◌≡◌ {A = Checked} (Err (refusal TooDeep no_task)) (Ok tt) = (rw z at numbers) ∙ passed in let n : ◌≡◌ {A = ℕ} 0 1 = cc in absurd (omega arith)

    pub sheet-reads : RunReads s sheet 7 0
    sheet-reads =
        let kept = kept-numbers (task_count s) sheet none in
        record { file = file; run = kept.rules.run; list = kept.rules.list; ends = omega (arith, kept.ends) }

    pub sheet-runs : nested_sheet_check s sheet ≡ runs_check s sheet
    sheet-runs = go (nested_right (tasks_of s) (nested_run_of sheet)) (nested_unmasked (tasks_of s) (nested_run_of sheet)) refl refl
      where
        go : (r m : Bool) → nested_right (tasks_of s) (nested_run_of sheet) ≡ r → nested_unmasked (tasks_of s) (nested_run_of sheet) ≡ m
            → nested_sheet_check s sheet ≡ runs_check s sheet
        go true true er em = rw (none, er, em)
        go true false er em = rw (none, er, em)
        go false m er em = rw (none, er)

-- the check of the numbers, by what `sheet_fault` answers
pub numbers_by : (t : ℕ) (sheet : List ℕ) {f : ℕ} {c : Checked} → f ≡ sheet_fault t sheet
    → cond (eqb f 12) (Err (refusal SheetRules no_task)) (cond (eqb f 20) (Err (refusal TooDeep no_task)) (Ok tt)) ≡ c → c ≡ numbers_check t sheet
numbers_by t sheet e q = sym q ∙ rw e

-- ---- checks 13 and 16 by what is told of the outer run

module _ (s sheet : List ℕ) where
  pub runs_13 : None ≡ checked_run s sheet 7 0 → Err (refusal WrongPath 255) ≡ runs_check s sheet
  runs_13 e = sym (rw (told_wrong (nested_right (tasks_of s) (nested_run_of sheet)) (nested_unmasked (tasks_of s) (nested_run_of sheet)) (own_list 7 sheet 0).next e))

  module _ {r : Right} (e : Some r ≡ checked_run s sheet 7 0) where
    told : (nested_right (tasks_of s) (nested_run_of sheet) ≡ true) × (r.unmasked ≡ nested_unmasked (tasks_of s) (nested_run_of sheet)) × (r.next ≡ (own_list 7 sheet 0).next)
    told = told_right (nested_right (tasks_of s) (nested_run_of sheet)) _ _ e

    pub runs_16 : r.unmasked ≡ false → Err (refusal MaskedPoint 255) ≡ runs_check s sheet
    runs_16 q = sym (rw (told.0, ← told.1, q))

    pub runs-passed : r.unmasked ≡ true → Ok tt ≡ runs_check s sheet
    runs-passed q = sym (rw (told.0, ← told.1, q))

-- what passing the checks on the sheet says
pub record SheetPassed (s sheet : List ℕ) : Type 0 where
  pub none : sheet_fault (task_count s) sheet ≡ 0
  pub right : nested_right (tasks_of s) (nested_run_of sheet) ≡ true
  pub unmasked : nested_unmasked (tasks_of s) (nested_run_of sheet) ≡ true

pub passed-sheet : (s sheet : List ℕ) → nested_sheet_check s sheet ≡ Ok tt → SheetPassed s sheet
passed-sheet s sheet e =
    let (e12, r) = unless-passed SheetRules no_task (nested12 s sheet) _ e in
    let (e20, q) = unless-passed TooDeep no_task (nested20 s sheet) _ r in
    let (e13, p) = unless-passed WrongPath no_task (nested13 s sheet) _ q in
    let e16 = (unless-passed MaskedPoint no_task (nested16 s sheet) _ p).0 in
    record {
      none = go e12 e20 (fault_is (task_count s) sheet);
      right = not-false (nested_right (tasks_of s) (nested_run_of sheet)) e13;
      unmasked = not-false (nested_unmasked (tasks_of s) (nested_run_of sheet)) e16;
    }
  where
    go : nested12 s sheet ≡ false → nested20 s sheet ≡ false → (sheet_fault (task_count s) sheet ≡ 0) ⊎ ((sheet_fault (task_count s) sheet ≡ 12) ⊎ (sheet_fault (task_count s) sheet ≡ 20))
        → sheet_fault (task_count s) sheet ≡ 0
    go e12 e20 (inl z) = z
    go e12 e20 (inr (inl z)) = absurd (true≢false (sym (eq-eqb (sheet_fault (task_count s) sheet) 12 z) ∙ e12))
    go e12 e20 (inr (inr z)) = absurd (true≢false (sym (eq-eqb (sheet_fault (task_count s) sheet) 20 z) ∙ e20))

-- and what makes them pass
pub passes_by : (s sheet : List ℕ) → SheetPassed s sheet → nested_sheet_check s sheet ≡ Ok tt
passes_by s sheet p = rw (p.none, p.right, p.unmasked)

-- the checks of the file, and those on the sheet
pub nested_parts : (s sheet : List ℕ) → nested_check s sheet ≡ and_then (file_check s) (nested_sheet_check s sheet)
nested_parts s sheet = verdict_append (file_checks s) (nested_sheet_checks s sheet)

-- the answer by what the checks say
pub answer-by : (s sheet : List ℕ) (r : Checked) → nested_check s sheet ≡ r → nested_replaying_of s sheet ≡ answered r (total_in s (nested_run_of sheet))
answer-by s sheet r e = ap (λ (c : Checked). answered c (total_in s (nested_run_of sheet))) e

-- a file that isn't accepted
pub call_refused : (s sheet : List ℕ) {r : Refusal} → reading_of s ≡ Err r → Err r ≡ nested_replaying_of s sheet
call_refused s sheet {r} e = sym (answer-by s sheet (Err r) (nested_parts s sheet ∙ rw (refused_check s e)))

-- ---- the answer for an accepted file

module _ (s sheet : List ℕ) (file : accepted (reading_of s) ≡ true) where
  checks : nested_check s sheet ≡ nested_sheet_check s sheet
  checks =
      nested_parts s sheet
      ∙ ap (λ (c : Checked). and_then c (nested_sheet_check s sheet)) (accepted-passed s (counts_of s) (reading s file)).0

  pub call_sheet : {r : Refusal} → nested_sheet_check s sheet ≡ Err r → Err r ≡ nested_replaying_of s sheet
  call_sheet {r} q = sym (answer-by s sheet (Err r) (checks ∙ q))

  module _ (q : nested_sheet_check s sheet ≡ Ok tt) where
    pub ready : RunReplays s sheet 7 0
    ready =
        let p = passed-sheet s sheet q in
        let right = (nested_right_lem (tasks_of s) (nested_run_of sheet)).0 p.right in
        record { reads = sheet-reads s sheet file refl (sym (numbers_by (task_count s) sheet (sym p.none) refl)); complete = right.0; right = right.1 }

    pub call_counted : {x : ℕ} → x ≡ total_in s (nested_run_of sheet) → Ok x ≡ nested_replaying_of s sheet
    call_counted ex = ap (λ (n : ℕ). Ok n) ex ∙ sym (answer-by s sheet (Ok tt) (checks ∙ q))

-- ---- what the reading of a file gives

pub tasks_of_lem : (s : List ℕ) {a : Accepted} → reading_of s ≡ Ok a → {t : ℕ} → t ≡ a.t → t ≡ task_count s
tasks_of_lem s {a} e q = q ∙ (accepted-passed s a e).2
