-- The ways out of the call: what each answers, and what it leaves in the sheet, is what the definitions say.
-- The idea: a check that passed leaves the next one.
use mathlib.Core.Path.{◌≡◌, refl, sym, ap, subst, ◌∙◌}
use mathlib.Core.Bool.{false}
use mathlib.Core.List.{List, ◌++◌}
use Prim.Native.Nat.{ℕ, ◌+◌, ◌≤◌}
use native.Mathlib.Omega.{arith}
use lib.ListN.{length, drop, length-append}
use borrow.Author.Tests.{eq-eqb, ne_eqb, ltb-false}
use Rattle.std.specs.Prelude.{Ok, Err}
use Rattle.project.specs.declared.answers.Check.TheVariants.{ListLength, SameTasks, SheetLength}
use Rattle.project.specs.declared.answers.Refusal.{Refusal}
use Rattle.project.specs.Writing.{Writing}
use Rattle.project.specs.File.{task_count}
use Rattle.project.specs.Checklist.{no_task, refusal, Checked, and_then, unless, verdict_of}
use Rattle.project.specs.Reading.{file_checks, file_check, reading_of}
use Rattle.project.specs.Tasks.{tasks_of}
use Rattle.project.proofs.Checklists.{verdict_append, ok-not-err}
use Rattle.project.proofs.Accepted.{unless-passed}
use Rattle.reader.proofs.TaskBodies.{refused_check}
use Rattle.rows.specs.Rows.{area_length}
use Rattle.sheet.specs.Sheet.{run_numbers}
use Rattle.costliest.specs.Costliest.{test18, test19, asked_checks, two_checks, costliest_check, CostliestAnswer}
use Rattle.run_sheet.specs.Joined.{costliest_sheet_length}

-- the answer by another form of the verdict
pub answer_as : (s : List ℕ) (i j : ℕ) (old new : List ℕ) (answer : Writing) {a b : Checked} → a ≡ b → CostliestAnswer b s i j old answer new → CostliestAnswer a s i j old answer new
answer_as s i j old new answer e h = subst (λ (r : Checked). CostliestAnswer r s i j old answer new) (sym e) h

-- a check that fails leaves the sheet
pub refused_as : (s : List ℕ) (i j : ℕ) (old : List ℕ) {r : Checked} {x : Refusal} {answer : Writing} → r ≡ Err x → answer ≡ Err x → CostliestAnswer r s i j old answer old
refused_as s i j old {answer = answer} e q = answer_as s i j old old answer e (q, refl)

-- what checks 18 and 19 leave where they pass
pub asked_passed : (t i j : ℕ) (sheet : List ℕ) → verdict_of (asked_checks t i j sheet) ≡ Ok tt → (test18 t i j ≡ false) × (costliest_sheet_length ≤ length sheet)
asked_passed t i j sheet e =
    let (none, rest) = unless-passed SameTasks no_task (test18 t i j) (and_then (unless SheetLength no_task (test19 sheet)) (Ok tt)) e in
    (none, ltb-false (length sheet) costliest_sheet_length (unless-passed SheetLength no_task (test19 sheet) (Ok tt) rest).0)

module _ (w : ℕ) (s : List ℕ) (i j : ℕ) (first second sheet : List ℕ) where
  -- check 1: another length of either area
  pub other-first : (length first ≡ area_length w → ⊥) → costliest_check w s i j first second sheet ≡ Err (refusal ListLength no_task)
  other-first h = rw (ne_eqb (length first) (area_length w) h)

  pub other_second : length first ≡ area_length w → (length second ≡ area_length w → ⊥) → costliest_check w s i j first second sheet ≡ Err (refusal ListLength no_task)
  other_second g h = rw (eq-eqb (length first) (area_length w) g, ne_eqb (length second) (area_length w) h)

  module _ (g : length first ≡ area_length w) (h : length second ≡ area_length w) where
    -- the checks after 1: those of the file, 18 and 19, and 11 of the two
    later : costliest_check w s i j first second sheet ≡ and_then (file_check s) (and_then (verdict_of (asked_checks (task_count s) i j sheet)) (verdict_of (two_checks w s i j)))
    later =
        rw (eq-eqb (length first) (area_length w) g, eq-eqb (length second) (area_length w) h)
        (verdict_append (file_checks s) (asked_checks (task_count s) i j sheet ++ two_checks w s i j)
        ∙ ap (and_then (file_check s)) (verdict_append (asked_checks (task_count s) i j sheet) (two_checks w s i j)))

    pub not_read : {r : Refusal} → reading_of s ≡ Err r → costliest_check w s i j first second sheet ≡ Err r
    not_read e = later ∙ ap (λ (r : Checked). and_then r (and_then (verdict_of (asked_checks (task_count s) i j sheet)) (verdict_of (two_checks w s i j)))) (refused_check s e)

    module _ (passed : file_check s ≡ Ok tt) where
      after-file : costliest_check w s i j first second sheet ≡ and_then (verdict_of (asked_checks (task_count s) i j sheet)) (verdict_of (two_checks w s i j))
      after-file = later ∙ ap (λ (r : Checked). and_then r (and_then (verdict_of (asked_checks (task_count s) i j sheet)) (verdict_of (two_checks w s i j)))) passed

      pub asked_fails : {t : ℕ} {r : Refusal} → t ≡ task_count s → verdict_of (asked_checks t i j sheet) ≡ Err r → costliest_check w s i j first second sheet ≡ Err r
      asked_fails q e = after-file ∙ ap (λ (r : Checked). and_then r (verdict_of (two_checks w s i j))) (ap (λ (n : ℕ). verdict_of (asked_checks n i j sheet)) (sym q) ∙ e)

      pub two_left : {t : ℕ} → t ≡ task_count s → verdict_of (asked_checks t i j sheet) ≡ Ok tt → costliest_check w s i j first second sheet ≡ verdict_of (two_checks w s i j)
      two_left q e = after-file ∙ ap (λ (r : Checked). and_then r (verdict_of (two_checks w s i j))) (ap (λ (n : ℕ). verdict_of (asked_checks n i j sheet)) (sym q) ∙ e)

-- ---- the answered length lies within the lent sheet

within : (verdict : Checked) (s : List ℕ) (i j : ℕ) (old new : List ℕ) {told : Writing} {l : ℕ} → CostliestAnswer verdict s i j old told new → told ≡ Ok l → l ≤ length new
within (Ok passed) s i j old new {l = l} h e =
    let run = run_numbers (tasks_of s) h.run in
    let both : ◌≡◌ {A = Writing} (Ok l) (Ok (length run)) = sym e ∙ h.answered in
    let same : l ≡ length run = cc in
    let whole : length new ≡ length run + length (drop (length run) old) = ap length h.sheet ∙ length-append run (drop (length run) old) in
    omega arith
within (Err r) s i j old new {l = l} h e = absurd (ok-not-err (sym e ∙ h.0))

pub written_within : (s : List ℕ) (i j : ℕ) (first second old new : List ℕ) {told : Writing} {l : ℕ}
    → CostliestAnswer (costliest_check 16 s i j first second old) s i j old told new → told ≡ Ok l → l ≤ length new
written_within s i j first second old new h e = within (costliest_check 16 s i j first second old) s i j old new h e
