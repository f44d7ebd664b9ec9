-- An accepted sheet describes a disturbed run, and every disturbed run within the bounds of a sheet has one; checks 13 and 16 as faults.
-- The idea: the rules of a sheet, complete paths, right numbers of references done and points at unmasked blocks are together the conditions of a
-- disturbed run.
use mathlib.Core.Path.{◌≡◌, refl, sym, ap, ◌∙◌}
use mathlib.Core.Logic.{◌↔◌}
use mathlib.Core.Bool.{Bool, true, false, not, ◌&&◌, false≢true}
use mathlib.Core.List.{List, [], ◌∷◌}
use Prim.Native.Nat.{ℕ, ◌≤◌}
use native.Mathlib.Omega.{arith}
use lib.ListN.{length, get_or}
use Rattle.model.specs.Lists.{Each}
use Rattle.model.specs.Tasks.{Task, block, Unmasked, Done, Complete, task}
use Rattle.model.specs.Runs.{Preemption, Preempts, DisturbedRun}
use Rattle.model.proofs.Membership.{both_left, both_right}
use Rattle.sheet.specs.Sheet.{SheetRun, sheet_numbers, longest_path, PreemptionInRules, InRules, AllComplete, RightDone, Fault13, AvoidsMasked, Fault16, Fits, sheet_run}
use Rattle.sheet.specs.Parsed.{parsed, parse, complete_all, done_all, unmasked_all}
use Rattle.sheet.proofs.Parsing.{parse-numbers, Parses, parsed-rules, one-run}
use Rattle.sheet.proofs.CompletePaths.{all-complete, all_done_lem, all-unmasked}

-- ---- from a sheet to a disturbed run

pub preempting : (ts : List Task) (p : ℕ) (path : List ℕ) (xs : List Preemption) → Each (PreemptionInRules (length ts) p (length path)) xs
    → Each (λ (x : Preemption). Complete (task ts x.by) x.path) xs
    → Each (λ (x : Preemption). Done (block (task ts p) (get_or path x.position 0)).references x.done) xs
    → Each (λ (x : Preemption). Unmasked (task ts p) (get_or path x.position 0)) xs
    → Each (Preempts ts p path) xs
preempting ts p path [] h c d m = tt
preempting ts p path (x ∷ xs) h c d m = (
  record { in_path = h.0.in_path; right = d.0; there = h.0.there; other = h.0.other; unmasked = m.0; complete = c.0 },
  preempting ts p path xs h.1 c.1 d.1 m.1,
)

-- a run that keeps the rules of a sheet, whose paths are complete and numbers of references done are right, and which avoids masked blocks
abbrev pub disturbed_run : (ts : List Task) (r : SheetRun) → InRules (length ts) r → AllComplete ts r → RightDone ts r → AvoidsMasked ts r → DisturbedRun ts
disturbed_run ts r h c d m = record {
  p = r.p;
  path = r.path;
  preemptions = r.preemptions;
  there = h.there;
  complete = c.own;
  each = preempting ts r.p r.path r.preemptions h.each c.each d m;
  rising = h.rising;
}

-- the run of a sheet that passes checks 12, 13 and 16
abbrev pub accepted_run : (ts : List Task) (s : List ℕ) (r : SheetRun) → parse (length ts) s ≡ parsed r → complete_all ts r ≡ true → done_all ts r ≡ true → unmasked_all ts r ≡ true
    → DisturbedRun ts
accepted_run ts s r e c d m = disturbed_run ts r (parsed-rules (length ts) s r e).rules ((all-complete ts r).0 c) ((all_done_lem ts r).0 d) ((all-unmasked ts r).0 m)

-- ---- from a disturbed run to a sheet

complete-some : (t : Task) (path : List ℕ) → Complete t path → 1 ≤ length path
complete-some t [] h = absurd h
complete-some t (b ∷ path) h = omega arith

in_rules : (ts : List Task) (p : ℕ) (path : List ℕ) (xs : List Preemption) → Each (Preempts ts p path) xs → Each (λ (x : Preemption). length x.path ≤ longest_path) xs
    → Each (PreemptionInRules (length ts) p (length path)) xs
in_rules ts p path [] h b = tt
in_rules ts p path (x ∷ xs) h b = (
  record {
    in_path = h.0.in_path;
    there = h.0.there;
    other = h.0.other;
    bounds = record { some = complete-some (task ts x.by) x.path h.0.complete; few = b.0 };
  },
  in_rules ts p path xs h.1 b.1,
)

each_of : (P Q : Preemption → Type 0) → ((x : Preemption) → P x → Q x) → (xs : List Preemption) → Each P xs → Each Q xs
each_of P Q f [] h = tt
each_of P Q f (x ∷ xs) h = (f x h.0, each_of P Q f xs h.1)

pub run-rules : (ts : List Task) (run : DisturbedRun ts) → Fits ts run → InRules (length ts) (sheet_run ts run)
run-rules ts run f = record {
  there = run.there;
  bounds = record { some = complete-some (task ts run.p) run.path run.complete; few = f.short };
  few = f.few;
  each = in_rules ts run.p run.path run.preemptions run.each f.each;
  rising = run.rising;
}

-- the sheet of a run parses to it, all its paths are complete, its numbers of references done are right and it avoids masked blocks
pub record SheetOf (ts : List Task) (run : DisturbedRun ts) : Type 0 where
  pub parses : parse (length ts) (sheet_numbers (sheet_run ts run)) ≡ parsed (sheet_run ts run)
  pub complete : complete_all ts (sheet_run ts run) ≡ true
  pub right : done_all ts (sheet_run ts run) ≡ true
  pub unmasked : unmasked_all ts (sheet_run ts run) ≡ true

pub run-sheet : (ts : List Task) (run : DisturbedRun ts) → Fits ts run → SheetOf ts run
run-sheet ts run f = record {
  parses = parse-numbers (length ts) (sheet_run ts run) (run-rules ts run f);
  complete = (all-complete ts (sheet_run ts run)).1 (record {
    own = run.complete;
    each = each_of (Preempts ts run.p run.path) (λ (x : Preemption). Complete (task ts x.by) x.path) (λ x h. h.complete) run.preemptions run.each;
  });
  right = (all_done_lem ts (sheet_run ts run)).1
      (each_of (Preempts ts run.p run.path) (λ (x : Preemption). Done (block (task ts run.p) (get_or run.path x.position 0)).references x.done) (λ x h. h.right) run.preemptions run.each);
  unmasked = (all-unmasked ts (sheet_run ts run)).1
      (each_of (Preempts ts run.p run.path) (λ (x : Preemption). Unmasked (task ts run.p) (get_or run.path x.position 0)) (λ x h. h.unmasked) run.preemptions run.each);
}

-- ---- checks 13 and 16 of a sheet that keeps the rules

-- where a test agrees with a rule of runs, it fails just where the sheet's run breaks the rule
module _ (ts : List Task) (s : List ℕ) (r : SheetRun) (e : parse (length ts) s ≡ parsed r) (Rule : SheetRun → Type 0) (test : SheetRun → Bool) (exact : (q : SheetRun) → (test q ≡ true) ↔ Rule q) where
  rule_exact : (not (test r) ≡ true) ↔ ((q : SheetRun) × InRules (length ts) q × (s ≡ sheet_numbers q) × (Rule q → ⊥))
  rule_exact = (λ c. (r, h.rules, h.numbers, λ a. broken (test r) ((exact r).1 a) c), λ (q, g, d, none). fails q g d none (test r) refl)
    where
      h : Parses (length ts) s r
      h = parsed-rules (length ts) s r e

      broken : (b : Bool) → b ≡ true → not b ≡ true → ⊥
      broken true q c = false≢true c
      broken false q c = false≢true q

      fails : (q : SheetRun) → InRules (length ts) q → s ≡ sheet_numbers q → (Rule q → ⊥) → (b : Bool) → test r ≡ b → not b ≡ true
      fails q g d none false c = refl
      fails q g d none true c = absurd (none ((exact q).0 (sym (ap test (one-run (length ts) r q h.rules g (sym h.numbers ∙ d))) ∙ c)))

-- both tests of check 13 pass just where all paths are complete and all numbers of references done are right
complete-done : (ts : List Task) (r : SheetRun) → ((complete_all ts r && done_all ts r) ≡ true) ↔ (AllComplete ts r × RightDone ts r)
complete-done ts r = (
  λ e. ((all-complete ts r).0 (both_left (complete_all ts r) _ e), (all_done_lem ts r).0 (both_right (complete_all ts r) _ e)),
  λ h. rw ((all-complete ts r).1 h.0, (all_done_lem ts r).1 h.1),
)

pub incomplete_exact : (ts : List Task) (s : List ℕ) (r : SheetRun) → parse (length ts) s ≡ parsed r → (not (complete_all ts r && done_all ts r) ≡ true) ↔ Fault13 ts s
incomplete_exact ts s r e = rule_exact ts s r e (λ (q : SheetRun). AllComplete ts q × RightDone ts q) (λ (q : SheetRun). complete_all ts q && done_all ts q) (complete-done ts)

pub masked_exact : (ts : List Task) (s : List ℕ) (r : SheetRun) → parse (length ts) s ≡ parsed r → (not (unmasked_all ts r) ≡ true) ↔ Fault16 ts s
masked_exact ts s r e = rule_exact ts s r e (AvoidsMasked ts) (unmasked_all ts) (all-unmasked ts)
