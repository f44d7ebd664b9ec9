-- What Replay answers is the verdict of the definitions; every disturbed run of an accepted file that a sheet can hold has its answer; demand 3 of the answers.
-- The idea: the checks of the file are the reader's; checks 12, 13 and 16 are the tests of the sheet, whose run is a disturbed run.
use Rattle.std.specs.Prelude.{Result, Ok, Err}
use Rattle.project.specs.Checklist.{Checked, answered}
use mathlib.Core.Path.{◌≡◌, refl, sym, subst, ◌∙◌}
use mathlib.Core.Bool.{true}
use mathlib.Core.List.{List, [], ◌∷◌}
use Prim.Native.Nat.{ℕ, ◌+◌, ◌≤◌, ◌<◌}
use native.Mathlib.Omega.{arith}
use lib.ListN.{length, get_or}
use Rattle.cache.specs.References.{All}
use Rattle.model.specs.Lists.{Each}
use Rattle.model.specs.Tasks.{task}
use Rattle.model.specs.Runs.{Preemption, Preempts, DisturbedRun, U, D, lost_hits}
use Rattle.model.specs.Demand.{pair_sum}
use Rattle.model.proofs.Membership.{all_join}
use Rattle.project.specs.File.{task_count}
use Rattle.project.specs.Checklist.{numbers, Verdict, Agreeing}
use Rattle.project.specs.Reading.{file_checks, file_check, counts_of, reading_of}
use Rattle.project.specs.Bodies.{accepted}
use Rattle.project.specs.Tasks.{tasks_of, file_cache}
use Rattle.project.proofs.Checklists.{verdict_exact, agreeing_append}
use Rattle.project.proofs.Verdicts.{file_agreeing}
use Rattle.project.proofs.Accepted.{then_passed, passing, accepted-passed}
use Rattle.project.proofs.FileRules.{file-demand_3}
use Rattle.reader.proofs.TaskBodies.{reading, passing_accepted, tasks_long, task-bounds}
use Rattle.sheet.specs.Sheet.{preemption_numbers, sheet_numbers, longest_path, Fits, sheet_run}
use Rattle.sheet.specs.Parsed.{parsed, parse}
use Rattle.sheet.proofs.Parsing.{parsed-rules}
use Rattle.sheet.proofs.CompletePaths.{complete_exact}
use Rattle.sheet.proofs.SheetRuns.{accepted_run, run-sheet}
use Rattle.runs.specs.Parts.{references_at}
use Rattle.sheet_checks.specs.SheetChecks.{run_in, sheet_checks, sheet_check}
use Rattle.sheet_checks.proofs.OwnPath.{path_two_bytes}
use Rattle.sheet_checks.proofs.CheckLaws.{SheetPassed, passed-sheet, is-parsed, sheet_agreeing}
use Rattle.body.proofs.Decoded.{few-references}
use Rattle.runs.proofs.Segments.{done_le}
use Rattle.replay.specs.Replay.{counted, replay_checks, replay_check, undisturbed_in, disturbed_in, lost_in, counted_in, replaying_of}
use Rattle.project.specs.declared.answers.Refusal.{Refusal}
use Rattle.replay.specs.declared.Counted.{Counted}
use Rattle.replay.specs.ReplayVerdict.{Replayed, ReplayVerdict}
use Rattle.replay.proofs.CallLaws.{replay_parts, answer-by}

-- ---- the verdict

module _ (s sheet : List ℕ) where
  its_run : SheetPassed s sheet → Replayed s sheet (undisturbed_in s (run_in s sheet)) (disturbed_in s (run_in s sheet)) (lost_in s (run_in s sheet))
  its_run p = record {
    run = accepted_run (tasks_of s) sheet (run_in s sheet) (is-parsed s sheet p.kept) p.complete p.done p.unmasked;
    sheet_of_lem = (parsed-rules (length (tasks_of s)) sheet (run_in s sheet) (is-parsed s sheet p.kept)).numbers;
    undisturbed = refl;
    disturbed = refl;
    lost = refl;
  }

  replay_agreeing : All (λ (x : ℕ). x < 256) s → Agreeing (replay_checks s sheet)
  replay_agreeing h = agreeing_append (file_checks s) (sheet_checks s sheet) (file_agreeing s h) (λ all. sheet_agreeing s sheet)

  -- what Replay answers is the verdict, for every list of bytes and every sheet
  pub replay_verdict : All (λ (x : ℕ). x < 256) s → ReplayVerdict s sheet (replaying_of s sheet)
  replay_verdict h = go (replay_check s sheet) refl (verdict_exact (replay_checks s sheet) (replay_agreeing h))
    where
      go : (r : Checked) → replay_check s sheet ≡ r → Verdict (replay_checks s sheet) r → ReplayVerdict s sheet (answered r (counted_in s (run_in s sheet)))
      go (Ok tt) e v = (v, its_run (passed-sheet s sheet (then_passed (file_check s) (sheet_check s sheet) (sym (replay_parts s sheet) ∙ e)).1))
      go (Err r) e v = v

  -- "Replay checks 2 to 10, 12, 13.", and then 16; without 10 (document 02, Point 5)
  pub replay_order : numbers (replay_checks s sheet) ≡ 2 ∷ 3 ∷ 4 ∷ 5 ∷ 6 ∷ 7 ∷ 8 ∷ 9 ∷ 12 ∷ 13 ∷ 16 ∷ []
  replay_order = refl

-- ---- a counted run, from the answer

pub accepted-file : (s sheet : List ℕ) (u d l : ℕ) → replaying_of s sheet ≡ Ok (counted u d l) → reading_of s ≡ Ok (counts_of s)
accepted-file s sheet u d l e = reading s (passing_accepted s (then_passed (file_check s) _ (sym (replay_parts s sheet) ∙ go (replay_check s sheet) refl)).0)
  where
    go : (c : Checked) → replay_check s sheet ≡ c → replay_check s sheet ≡ Ok tt
    go (Ok tt) q = q
    go (Err r) q =
        let x : ◌≡◌ {A = Result Counted Refusal} (Err r) (Ok (counted u d l)) = sym (answer-by s sheet (Err r) q) ∙ e in
        let z : ◌≡◌ {A = ℕ} 0 1 = cc in
        absurd (omega arith)

pub replayed : (s : List ℕ) → All (λ (x : ℕ). x < 256) s → (sheet : List ℕ) (u d l : ℕ) → replaying_of s sheet ≡ Ok (counted u d l) → Replayed s sheet u d l
replayed s h sheet u d l e = (subst (λ (x : Result Counted Refusal). ReplayVerdict s sheet x) e (replay_verdict s sheet h)).1

-- demand 3 of what Replay answers; document 02, Point 5: "That number is what a pair number bounds in sum", and "D .. still never passes U plus the sum."
pub record ReplayBounded (s sheet : List ℕ) (u d l : ℕ) : Type 0 where
  pub is : Replayed s sheet u d l
  pub lost : l ≤ pair_sum (file_cache s) (tasks_of s) is.run.p is.run.preemptions
  pub upper : d ≤ u + pair_sum (file_cache s) (tasks_of s) is.run.p is.run.preemptions

pub replay_bounded : (s : List ℕ) → All (λ (x : ℕ). x < 256) s → (sheet : List ℕ) (u d l : ℕ) → replaying_of s sheet ≡ Ok (counted u d l) → ReplayBounded s sheet u d l
replay_bounded s h sheet u d l e =
    let x = replayed s h sheet u d l e in
    let b = (file-demand_3 s h (counts_of s) (accepted-file s sheet u d l e)).bounds x.run in
    record { is = x; lost = omega (arith, x.lost, b.lost); upper = omega (arith, x.undisturbed, x.disturbed, b.upper) }

-- ---- a run of an accepted file that a sheet can hold: the answer, and that its numbers are of two bytes

pub run-replayed : (s : List ℕ) → accepted (reading_of s) ≡ true → (run : DisturbedRun (tasks_of s)) → Fits (tasks_of s) run
    → replaying_of s (sheet_numbers (sheet_run (tasks_of s) run)) ≡ Ok (counted (U (file_cache s) run) (D (file_cache s) run) (lost_hits (file_cache s) run))
run-replayed s h run f =
    let o = run-sheet (tasks_of s) run f in
    let sheet = sheet_numbers (sheet_run (tasks_of s) run) in
    let q : parse (task_count s) sheet ≡ parsed (sheet_run (tasks_of s) run) = rw (tasks_long s) at o.parses in
    answer-by s sheet (Ok tt) (replay_parts s sheet ∙ rw ((accepted-passed s (counts_of s) (reading s h)).0, q, o.complete, o.right, o.unmasked)) ∙ rw q

module _ (s : List ℕ) (h : accepted (reading_of s) ≡ true) where
  each_below : (p : ℕ) (path : List ℕ) (xs : List Preemption) → p < length (tasks_of s) → length path ≤ longest_path → Each (Preempts (tasks_of s) p path) xs
      → Each (λ (x : Preemption). length x.path ≤ longest_path) xs → All (λ (x : ℕ). x < 65536) (preemption_numbers xs)
  each_below p path [] l k e f = tt
  each_below p path (x ∷ xs) l k e f = (
    omega (arith, e.0.in_path),
    (
      omega (
        arith,
        done_le (references_at (task (tasks_of s) p) path x.position) x.done e.0.right,
        few-references (task (tasks_of s) p) (task-bounds s p h (rw (tasks_long s) at l)) (get_or path x.position 0),
      ),
      (
        omega (arith, e.0.there, tasks_long s, few),
        (
          omega (arith, f.0),
          all_join (λ (x : ℕ). x < 65536) x.path (preemption_numbers xs)
              (path_two_bytes s h x.by x.path e.0.there ((complete_exact (task (tasks_of s) x.by) x.path).1 e.0.complete)) (each_below p path xs l k e.1 f.1),
        ),
      ),
    ),
  )
    where
      few : task_count s ≤ 8
      few = (passing s (accepted-passed s (counts_of s) (reading s h)).0).t_high

  pub sheet_two_bytes : (run : DisturbedRun (tasks_of s)) → Fits (tasks_of s) run → All (λ (x : ℕ). x < 65536) (sheet_numbers (sheet_run (tasks_of s) run))
  sheet_two_bytes run f = (
    omega (arith, run.there, tasks_long s, (passing s (accepted-passed s (counts_of s) (reading s h)).0).t_high),
    (
      omega (arith, f.short),
      all_join (λ (x : ℕ). x < 65536) run.path (length run.preemptions ∷ preemption_numbers run.preemptions)
          (path_two_bytes s h run.p run.path run.there ((complete_exact (task (tasks_of s) run.p) run.path).1 run.complete))
          (omega (arith, f.few), each_below run.p run.path run.preemptions run.there f.short run.each f.each),
    ),
  )
