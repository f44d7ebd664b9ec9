-- What Nested replay answers is the verdict of the definitions, `nested_verdict`; every nested run of an accepted file that a sheet can hold has its answer,
-- `nested_replayed`, and its sheet has two-byte numbers, `nested_two_bytes`.
-- The idea: the checks of the file are the reader's; checks 12, 20, 13 and 16 are the tests of the sheet, whose run is a nested run.
use Rattle.std.specs.Prelude.{Result, Ok, Err}
use Rattle.project.specs.Checklist.{Checked, answered}
use mathlib.Core.Path.{◌≡◌, refl, sym, ap, subst, ◌∙◌}
use mathlib.Core.Logic.{◌⊎◌, inl, inr, ◌↔◌}
use mathlib.Core.Bool.{true}
use mathlib.Core.List.{List, [], ◌∷◌}
use Prim.Native.Nat.{ℕ, zero, suc, ◌≤◌, ◌<◌}
use native.Mathlib.Omega.{arith}
use lib.ListN.{length, get_or}
use borrow.Author.Tests.{eq-eqb}
use Rattle.cache.specs.References.{All}
use Rattle.cache.specs.Cache.{empty_row}
use Rattle.model.specs.Tasks.{Path, task}
use Rattle.model.specs.Nested.{RunList, no_run, a_run, RunsIn, NestedRun, total}
use Rattle.model.proofs.Membership.{all_join}
use Rattle.body.proofs.Decoded.{few-references}
use Rattle.project.specs.declared.answers.Refusal.{Refusal}
use Rattle.project.specs.File.{task_count}
use Rattle.project.specs.Checklist.{numbers, Verdict, Agreeing}
use Rattle.project.specs.Reading.{file_checks, file_check, counts_of, reading_of}
use Rattle.project.specs.Bodies.{accepted}
use Rattle.project.specs.Tasks.{tasks_of, file_cache}
use Rattle.project.proofs.Checklists.{verdict_exact, agreeing_append}
use Rattle.project.proofs.Verdicts.{file_agreeing}
use Rattle.project.proofs.Accepted.{then_passed, passing, accepted-passed}
use Rattle.reader.proofs.TaskBodies.{reading, passing_accepted, tasks_long, task-bounds}
use Rattle.sheet.specs.Sheet.{longest_path}
use Rattle.sheet.proofs.CompletePaths.{complete_exact}
use Rattle.runs.specs.Parts.{references_at}
use Rattle.runs.proofs.Segments.{done_le}
use Rattle.sheet_checks.proofs.OwnPath.{path_two_bytes}
use Rattle.nested_sheet.specs.NestedSheet.{NestedSheetRun, how_many, with_head, list_numbers, Nested13, Nested16, ListFits, NestedFits, nested_sheet, deepest}
use Rattle.nested_sheet.specs.FrontToBack.{Nested12, Nested20}
use Rattle.nested_sheet.specs.Reading.{sheet_fault}
use Rattle.nested_sheet.specs.NestedRuns.{nested_run_of, nested_right, nested_unmasked}
use Rattle.nested_sheet.proofs.Faults.{exact_12, exact_20, fault_is}
use Rattle.nested_sheet.proofs.Kept.{kept-numbers}
use Rattle.nested_sheet.proofs.SheetNests.{incomplete_exact, masked_exact, accepted_nested, nested_sheet_lem}
use Rattle.nested_replay.specs.NestedReplay.{nested13, nested16, nested_sheet_checks, nested_sheet_check, nested_checks, nested_check, total_in, nested_replaying_of}
use Rattle.nested_replay.specs.NestedVerdict.{NestedReplayed, NestedVerdict}
use Rattle.nested_replay.proofs.CallLaws.{nested_parts, answer-by, SheetPassed, passed-sheet, passes_by}

-- ---- the verdict

module _ (s sheet : List ℕ) where
  -- a sheet without a fault of checks 12 and 20 tells its run
  module _ (k : sheet_fault (task_count s) sheet ≡ 0) where
    no_fault : sheet_fault (length (tasks_of s)) sheet ≡ 0
    no_fault = rw (tasks_long s) k

    exact13 : (nested13 s sheet ≡ true) ↔ Nested13 (tasks_of s) sheet
    exact13 = incomplete_exact (tasks_of s) sheet no_fault

    exact16 : (nested16 s sheet ≡ true) ↔ Nested16 (tasks_of s) sheet
    exact16 = masked_exact (tasks_of s) sheet no_fault

  its_run : SheetPassed s sheet → NestedReplayed s sheet (total_in s (nested_run_of sheet))
  its_run p =
      let kept = kept-numbers (length (tasks_of s)) sheet (no_fault p.none) in
      record { run = accepted_nested (tasks_of s) sheet kept p.right p.unmasked; sheet_of_lem = kept.numbers; counted = refl }

  none-by : (Nested12 (task_count s) sheet → ⊥) → (Nested20 (task_count s) sheet → ⊥) → sheet_fault (task_count s) sheet ≡ 0
  none-by none12 none20 = go (fault_is (task_count s) sheet)
    where
      go : (sheet_fault (task_count s) sheet ≡ 0) ⊎ ((sheet_fault (task_count s) sheet ≡ 12) ⊎ (sheet_fault (task_count s) sheet ≡ 20)) → sheet_fault (task_count s) sheet ≡ 0
      go (inl e) = e
      go (inr (inl e)) = absurd (none12 ((exact_12 (task_count s) sheet).0 (eq-eqb (sheet_fault (task_count s) sheet) 12 e)))
      go (inr (inr e)) = absurd (none20 ((exact_20 (task_count s) sheet).0 (eq-eqb (sheet_fault (task_count s) sheet) 20 e)))

  nested_agreeing : All (λ (x : ℕ). x < 256) s → Agreeing (nested_checks s sheet)
  nested_agreeing h =
      agreeing_append (file_checks s) (nested_sheet_checks s sheet) (file_agreeing s h)
      (λ all. (exact_12 (task_count s) sheet, λ p12. (exact_20 (task_count s) sheet, λ p20. (exact13 (none-by p12 p20), λ p13. (exact16 (none-by p12 p20), λ p16. tt)))))

  -- what Nested replay answers is the verdict, for every list of bytes and every sheet
  pub nested_verdict : All (λ (x : ℕ). x < 256) s → NestedVerdict s sheet (nested_replaying_of s sheet)
  nested_verdict h = go (nested_check s sheet) refl (verdict_exact (nested_checks s sheet) (nested_agreeing h))
    where
      go : (r : Checked) → nested_check s sheet ≡ r → Verdict (nested_checks s sheet) r → NestedVerdict s sheet (answered r (total_in s (nested_run_of sheet)))
      go (Ok tt) e v = (v, its_run (passed-sheet s sheet (then_passed (file_check s) (nested_sheet_check s sheet) (sym (nested_parts s sheet) ∙ e)).1))
      go (Err r) e v = v

  -- the file's checks; then 12 and 20, of which one decides; "13 and then 16 follow"
  pub nested_order : numbers (nested_checks s sheet) ≡ 2 ∷ 3 ∷ 4 ∷ 5 ∷ 6 ∷ 7 ∷ 8 ∷ 9 ∷ 12 ∷ 20 ∷ 13 ∷ 16 ∷ []
  nested_order = refl

-- ---- a counted run, from the answer

pub accepted-file : (s sheet : List ℕ) (x : ℕ) → nested_replaying_of s sheet ≡ Ok x → reading_of s ≡ Ok (counts_of s)
accepted-file s sheet x e = reading s (passing_accepted s (then_passed (file_check s) _ (sym (nested_parts s sheet) ∙ go (nested_check s sheet) refl)).0)
  where
    go : (c : Checked) → nested_check s sheet ≡ c → nested_check s sheet ≡ Ok tt
    go (Ok tt) q = q
    go (Err r) q =
        let y : ◌≡◌ {A = Result ℕ Refusal} (Err r) (Ok x) = sym (answer-by s sheet (Err r) q) ∙ e in
        let z : ◌≡◌ {A = ℕ} 0 1 = cc in
        absurd (omega arith)

pub replayed : (s : List ℕ) → All (λ (x : ℕ). x < 256) s → (sheet : List ℕ) (x : ℕ) → nested_replaying_of s sheet ≡ Ok x → NestedReplayed s sheet x
replayed s h sheet x e = (subst (λ (y : Result ℕ Refusal). NestedVerdict s sheet y) e (nested_verdict s sheet h)).1

-- ---- a run of an accepted file that a sheet can hold: the answer, and that its numbers are of two bytes

pub nested_replayed : (s : List ℕ) → accepted (reading_of s) ≡ true → (run : NestedRun (tasks_of s)) → NestedFits (tasks_of s) run
    → nested_replaying_of s (nested_sheet (tasks_of s) run) ≡ Ok (total (file_cache s) (empty_row (file_cache s)) run)
nested_replayed s h run f =
    let o = nested_sheet_lem (tasks_of s) run f in
    let sheet = nested_sheet (tasks_of s) run in
    let p : SheetPassed s sheet = record {
      none = subst (λ (k : ℕ). sheet_fault k sheet ≡ 0) (tasks_long s) o.passes;
      right = ap (nested_right (tasks_of s)) o.reads ∙ o.right;
      unmasked = ap (nested_unmasked (tasks_of s)) o.reads ∙ o.unmasked;
    } in
    let all : nested_check s sheet ≡ Ok tt = nested_parts s sheet ∙ rw (accepted-passed s (counts_of s) (reading s h)).0 (passes_by s sheet p) in
    answer-by s sheet (Ok tt) all ∙ ap (λ (r : NestedSheetRun). Ok (total_in s r)) o.reads

module _ (s : List ℕ) (h : accepted (reading_of s) ≡ true) where
  few : task_count s ≤ 8
  few = (passing s (accepted-passed s (counts_of s) (reading s h)).0).t_high

  head_below : (p : ℕ) (path : Path) (count : ℕ) (list : List ℕ) → p < length (tasks_of s) → length path ≤ longest_path → All (λ (x : ℕ). x < 65536) path → count ≤ 16
      → All (λ (x : ℕ). x < 65536) list → All (λ (x : ℕ). x < 65536) (with_head p path count list)
  head_below p path count list l short b c a =
      (omega (arith, l, tasks_long s, few), (omega (arith, short), all_join (λ (x : ℕ). x < 65536) path (count ∷ list) b (omega (arith, c), a)))

  list-below : (deep : ℕ) (around : List ℕ) (p : ℕ) (path : Path) (xs : RunList) → p < length (tasks_of s) → length path ≤ longest_path → RunsIn (tasks_of s) around p path xs → ListFits deep xs
      → All (λ (x : ℕ). x < 65536) (list_numbers xs)
  list-below deep around p path no_run l k e f = tt
  list-below zero around p path (a_run i d by own inner rest) l k e f = absurd f
  list-below (suc deep) around p path (a_run i d by own inner rest) l k (x, o, u, ei, er) (short, count, fi, fr) = (
    omega (arith, x.in_path, k),
    (
      omega (
        arith,
        done_le (references_at (task (tasks_of s) p) path i) d x.right,
        few-references (task (tasks_of s) p) (task-bounds s p h (rw (tasks_long s) at l)) (get_or path i 0),
      ),
      all_join (λ (x : ℕ). x < 65536) (with_head by own (how_many inner) (list_numbers inner)) (list_numbers rest)
          (head_below by own (how_many inner) (list_numbers inner) x.there short (path_two_bytes s h by own x.there ((complete_exact (task (tasks_of s) by) own).1 x.complete)) count
          (list-below deep (p ∷ around) by own inner x.there short ei fi))
          (list-below (suc deep) around p path rest l k er fr),
    ),
  )

  pub nested_two_bytes : (run : NestedRun (tasks_of s)) → NestedFits (tasks_of s) run → All (λ (x : ℕ). x < 65536) (nested_sheet (tasks_of s) run)
  nested_two_bytes run f =
      head_below run.p run.path (how_many run.runs) (list_numbers run.runs) run.there f.short
      (path_two_bytes s h run.p run.path run.there ((complete_exact (task (tasks_of s) run.p) run.path).1 run.complete)) f.few
      (list-below deepest [] run.p run.path run.runs run.there f.short run.within f.each)
