-- The checks on a sheet: their answers in the code's words, that each test is the document's fault, and what passing them says.
-- The idea: each check passed leaves the checks that follow.
use Rattle.std.specs.Prelude.{Ok, Err}
use Rattle.project.specs.declared.answers.Check.TheVariants.{MaskedPoint, SheetRules, WrongPath}
use Rattle.project.specs.Checklist.{refusal}
use mathlib.Core.Path.{◌≡◌, sym, ap, ◌∙◌, refl}
use mathlib.Core.Bool.{Bool, true, false, ◌&&◌, not, true≢false, false≢true}
use mathlib.Core.List.{List}
use mathlib.Core.Logic.{◌↔◌}
use Prim.Native.Nat.{ℕ}
use lib.ListN.{length}
use borrow.Author.Tests.{not-false, not-true}
use Rattle.model.proofs.Membership.{both_left, both_right}
use Rattle.project.specs.File.{task_count}
use Rattle.project.specs.Checklist.{no_task, Agreeing}
use Rattle.project.specs.Reading.{reading_of}
use Rattle.project.specs.Bodies.{accepted}
use Rattle.project.specs.Tasks.{tasks_of}
use Rattle.project.proofs.Accepted.{unless-passed}
use Rattle.reader.proofs.TaskBodies.{tasks_long}
use Rattle.sheet.specs.Parsed.{parse, kept_sheet, complete_all, done_all, unmasked_all, Parsed, broken, parsed, run_of}
use Rattle.sheet.specs.Sheet.{Fault12, Fault13, Fault16}
use Rattle.sheet.proofs.Parsing.{broken_fault, fault_broken}
use Rattle.sheet.proofs.SheetRuns.{incomplete_exact, masked_exact}
use Rattle.sheet_checks.specs.SheetChecks.{run_in, test12, test13, test16, sheet_checks, sheet_check, Passed12, Passed13}

-- ---- the checks on the sheet: b says whether it keeps the rules, d whether all paths are complete and all numbers of references done are right, m
-- whether it avoids masked blocks

module _ (s sheet : List ℕ) {t : ℕ} {b : Bool} (file : accepted (reading_of s) ≡ true) (et : t ≡ task_count s) (eb : b ≡ kept_sheet (parse t sheet)) where
  kept : kept_sheet (parse (task_count s) sheet) ≡ b
  kept = sym (eb ∙ ap (λ (k : ℕ). kept_sheet (parse k sheet)) et)

  pub sheet_12 : b ≡ false → Err (refusal SheetRules 255) ≡ sheet_check s sheet
  sheet_12 q = sym (rw (kept, q))

  pub passed_12 : b ≡ true → Passed12 s sheet
  passed_12 q = record { file = file; kept = kept ∙ q }

  module _ {d : Bool} (q : b ≡ true) (ed : d ≡ complete_all (tasks_of s) (run_in s sheet) && done_all (tasks_of s) (run_in s sheet)) where
    pub sheet_13 : d ≡ false → Err (refusal WrongPath 255) ≡ sheet_check s sheet
    sheet_13 g = sym (rw (kept, q, ← ed, g))

    pub passed_13 : d ≡ true → Passed13 s sheet
    passed_13 g = record {
      rules = passed_12 q;
      complete = both_left (complete_all (tasks_of s) (run_in s sheet)) _ (sym ed ∙ g);
      done = both_right (complete_all (tasks_of s) (run_in s sheet)) _ (sym ed ∙ g);
    }

    module _ {m : Bool} (g : d ≡ true) (em : m ≡ unmasked_all (tasks_of s) (run_in s sheet)) where
      pub sheet_16 : m ≡ false → Err (refusal MaskedPoint 255) ≡ sheet_check s sheet
      sheet_16 x = sym (rw (kept, q, ← ed, g, ← em, x))

      pub sheet-passed : m ≡ true → Ok tt ≡ sheet_check s sheet
      sheet-passed x = sym (rw (kept, q, ← ed, g, ← em, x))

-- what passing the checks on the sheet says
pub record SheetPassed (s sheet : List ℕ) : Type 0 where
  pub kept : kept_sheet (parse (task_count s) sheet) ≡ true
  pub complete : complete_all (tasks_of s) (run_in s sheet) ≡ true
  pub done : done_all (tasks_of s) (run_in s sheet) ≡ true
  pub unmasked : unmasked_all (tasks_of s) (run_in s sheet) ≡ true

pub passed-sheet : (s sheet : List ℕ) → sheet_check s sheet ≡ Ok tt → SheetPassed s sheet
passed-sheet s sheet e =
    let (e12, r) = unless-passed SheetRules no_task (test12 s sheet) _ e in
    let (e13, q) = unless-passed WrongPath no_task (test13 s sheet) _ r in
    let e16 = (unless-passed MaskedPoint no_task (test16 s sheet) (Ok tt) q).0 in
    let right = not-false (complete_all (tasks_of s) (run_in s sheet) && done_all (tasks_of s) (run_in s sheet)) e13 in
    record {
      kept = not-false (kept_sheet (parse (task_count s) sheet)) e12;
      complete = both_left (complete_all (tasks_of s) (run_in s sheet)) _ right;
      done = both_right (complete_all (tasks_of s) (run_in s sheet)) _ right;
      unmasked = not-false (unmasked_all (tasks_of s) (run_in s sheet)) e16;
    }

-- ---- each test is the fault

broken-by : (d : Parsed) → kept_sheet d ≡ false → d ≡ broken
broken-by broken e = refl
broken-by (parsed r) e = absurd (true≢false e)

parsed-by : (d : Parsed) → kept_sheet d ≡ true → d ≡ parsed (run_of d)
parsed-by broken e = absurd (false≢true e)
parsed-by (parsed r) e = refl

module _ (s sheet : List ℕ) where
  exact12 : (test12 s sheet ≡ true) ↔ Fault12 (task_count s) sheet
  exact12 = (
    λ e. broken_fault (task_count s) sheet (broken-by _ (not-true (kept_sheet (parse (task_count s) sheet)) e)),
    λ f. ap (λ (d : Parsed). not (kept_sheet d)) (fault_broken (task_count s) sheet f),
  )

  -- a sheet without a fault of check 12 tells its run
  module _ (k : kept_sheet (parse (task_count s) sheet) ≡ true) where
    pub is-parsed : parse (length (tasks_of s)) sheet ≡ parsed (run_in s sheet)
    is-parsed = rw (tasks_long s) (parsed-by _ k)

    exact13 : (test13 s sheet ≡ true) ↔ Fault13 (tasks_of s) sheet
    exact13 = incomplete_exact (tasks_of s) sheet (run_in s sheet) is-parsed

    exact16 : (test16 s sheet ≡ true) ↔ Fault16 (tasks_of s) sheet
    exact16 = masked_exact (tasks_of s) sheet (run_in s sheet) is-parsed

  kept_by : (Fault12 (task_count s) sheet → ⊥) → kept_sheet (parse (task_count s) sheet) ≡ true
  kept_by none = go (kept_sheet (parse (task_count s) sheet)) refl
    where
      go : (b : Bool) → kept_sheet (parse (task_count s) sheet) ≡ b → kept_sheet (parse (task_count s) sheet) ≡ true
      go true e = e
      go false e = absurd (none (broken_fault (task_count s) sheet (broken-by _ e)))

  pub sheet_agreeing : Agreeing (sheet_checks s sheet)
  sheet_agreeing = (exact12, λ p12. (exact13 (kept_by p12), λ p13. (exact16 (kept_by p12), λ p16. tt)))
