-- The nested run of a sheet: the tests of checks 13 and 16 agree with their faults, `incomplete_exact`, `masked_exact`; a sheet that passes all checks is that of a
-- nested run, `accepted_nested`, and a nested run that a sheet can hold passes them, `nested_sheet_lem`. Each is an induction on the list of runs.
use mathlib.Core.Path.{◌≡◌, refl, sym, ap, ◌∙◌}
use mathlib.Core.Logic.{◌↔◌}
use mathlib.Core.Bool.{Bool, true, false, not, ◌&&◌, false≢true}
use mathlib.Core.List.{List, [], ◌∷◌}
use Prim.Native.Nat.{ℕ, zero, suc, ◌≤◌}
use native.Mathlib.Omega.{arith}
use lib.ListN.{length, get_or}
use Rattle.model.specs.Tasks.{Task, block, Path, Complete, task}
use Rattle.model.specs.Nested.{RunList, no_run, a_run, RunsIn, NestedRun}
use Rattle.model.specs.Computed.{unmasked}
use Rattle.model.proofs.Membership.{both_left, both_right}
use Rattle.model.proofs.Most.{unmasked_exact}
use Rattle.sheet.specs.Sheet.{Sheet}
use Rattle.sheet.specs.Parsed.{complete_path, right_done}
use Rattle.sheet.proofs.CompletePaths.{complete_exact, right-done_exact}
use Rattle.nested_sheet.specs.NestedSheet.{NestedSheetRun, nested_numbers, ListInRules, ListWithin, NestedInRules, KeepsNested, ListRight, ListUnmasked, Nested13, Nested16, ListFits, NestedFits, nested_sheet_run, nested_sheet, deepest}
use Rattle.nested_sheet.specs.Reading.{sheet_fault}
use Rattle.nested_sheet.specs.NestedRuns.{nested_run_of, list_right, list_unmasked, nested_right, nested_unmasked}
use Rattle.nested_sheet.proofs.Numbers.{numbers_pass, run_of-numbers}
use Rattle.nested_sheet.proofs.Kept.{SheetKept, kept-numbers}

-- ---- the tests over all runs

module _ (ts : List Task) where
  right-all : (t : Task) (path : Path) (xs : RunList) → list_right ts t path xs ≡ true → ListRight ts t path xs
  right-all t path no_run e = tt
  right-all t path (a_run i d by own inner rest) e =
      let done = right_done (block t (get_or path i 0)).references d in
      let e1 = both_right done _ e in
      let e2 = both_left (complete_path (task ts by) own && list_right ts (task ts by) own inner) _ e1 in (
        (right-done_exact (block t (get_or path i 0)).references d).0 (both_left done _ e),
        (complete_exact (task ts by) own).0 (both_left (complete_path (task ts by) own) _ e2),
        right-all (task ts by) own inner (both_right (complete_path (task ts by) own) _ e2),
        right-all t path rest (both_right (complete_path (task ts by) own && list_right ts (task ts by) own inner) _ e1),
      )

  all_right : (t : Task) (path : Path) (xs : RunList) → ListRight ts t path xs → list_right ts t path xs ≡ true
  all_right t path no_run h = refl
  all_right t path (a_run i d by own inner rest) (a, b, c, g) =
      rw ((right-done_exact (block t (get_or path i 0)).references d).1 a, (complete_exact (task ts by) own).1 b, all_right (task ts by) own inner c, all_right t path rest g)

  unmasked-all : (t : Task) (path : Path) (xs : RunList) → list_unmasked ts t path xs ≡ true → ListUnmasked ts t path xs
  unmasked-all t path no_run e = tt
  unmasked-all t path (a_run i d by own inner rest) e =
      let e1 = both_right (unmasked t (get_or path i 0)) _ e in (
        (unmasked_exact t (get_or path i 0)).0 (both_left (unmasked t (get_or path i 0)) _ e),
        unmasked-all (task ts by) own inner (both_left (list_unmasked ts (task ts by) own inner) _ e1),
        unmasked-all t path rest (both_right (list_unmasked ts (task ts by) own inner) _ e1),
      )

  all-unmasked : (t : Task) (path : Path) (xs : RunList) → ListUnmasked ts t path xs → list_unmasked ts t path xs ≡ true
  all-unmasked t path no_run h = refl
  all-unmasked t path (a_run i d by own inner rest) (a, b, c) =
      rw ((unmasked_exact t (get_or path i 0)).1 a, all-unmasked (task ts by) own inner b, all-unmasked t path rest c)

  pub nested_right_lem : (r : NestedSheetRun) → (nested_right ts r ≡ true) ↔ (Complete (task ts r.p) r.path × ListRight ts (task ts r.p) r.path r.runs)
  nested_right_lem r = (
    λ e. (
      (complete_exact (task ts r.p) r.path).0 (both_left (complete_path (task ts r.p) r.path) _ e),
      right-all (task ts r.p) r.path r.runs (both_right (complete_path (task ts r.p) r.path) _ e),
    ),
    λ h. rw ((complete_exact (task ts r.p) r.path).1 h.0, all_right (task ts r.p) r.path r.runs h.1),
  )

  pub nested_unmasked_lem : (r : NestedSheetRun) → (nested_unmasked ts r ≡ true) ↔ ListUnmasked ts (task ts r.p) r.path r.runs
  nested_unmasked_lem r = (unmasked-all (task ts r.p) r.path r.runs, all-unmasked (task ts r.p) r.path r.runs)

-- ---- checks 12 and 20

-- a sheet passes them just where it is the numbers of a nested run that keeps their rules
pub keeps_exact : (t : ℕ) (sheet : Sheet) → (sheet_fault t sheet ≡ 0) ↔ KeepsNested t sheet
keeps_exact t sheet = (
  λ e. let k = kept-numbers t sheet e in (nested_run_of sheet, k.rules, k.numbers),
  λ (r, rules, e). ap (sheet_fault t) e ∙ numbers_pass t r rules,
)

-- ---- checks 13 and 16 of a sheet that passes these

module _ (ts : List Task) (sheet : Sheet) (e : sheet_fault (length ts) sheet ≡ 0) (Rule : NestedSheetRun → Type 0) (test : NestedSheetRun → Bool)
    (exact : (q : NestedSheetRun) → (test q ≡ true) ↔ Rule q) where
  -- where a test agrees with a rule of nested runs, it fails just where the sheet's run breaks the rule
  rule_exact : (not (test (nested_run_of sheet)) ≡ true) ↔ ((q : NestedSheetRun) × NestedInRules (length ts) q × (sheet ≡ nested_numbers q) × (Rule q → ⊥))
  rule_exact = (λ c. (nested_run_of sheet, h.rules, h.numbers, λ a. broken (test (nested_run_of sheet)) ((exact (nested_run_of sheet)).1 a) c), λ (q, g, d, none). fails q g d none (test (nested_run_of sheet)) refl)
    where
      h : SheetKept (length ts) sheet
      h = kept-numbers (length ts) sheet e

      broken : (b : Bool) → b ≡ true → not b ≡ true → ⊥
      broken true q c = false≢true c
      broken false q c = false≢true q

      fails : (q : NestedSheetRun) → NestedInRules (length ts) q → sheet ≡ nested_numbers q → (Rule q → ⊥) → (b : Bool) → test (nested_run_of sheet) ≡ b → not b ≡ true
      fails q g d none false c = refl
      fails q g d none true c = absurd (none ((exact q).0 (sym (ap test (ap nested_run_of d ∙ run_of-numbers (length ts) q g)) ∙ c)))

pub incomplete_exact : (ts : List Task) (sheet : Sheet) → sheet_fault (length ts) sheet ≡ 0 → (not (nested_right ts (nested_run_of sheet)) ≡ true) ↔ Nested13 ts sheet
incomplete_exact ts sheet e =
    rule_exact ts sheet e (λ (q : NestedSheetRun). Complete (task ts q.p) q.path × ListRight ts (task ts q.p) q.path q.runs) (nested_right ts) (nested_right_lem ts)

pub masked_exact : (ts : List Task) (sheet : Sheet) → sheet_fault (length ts) sheet ≡ 0 → (not (nested_unmasked ts (nested_run_of sheet)) ≡ true) ↔ Nested16 ts sheet
masked_exact ts sheet e = rule_exact ts sheet e (λ (q : NestedSheetRun). ListUnmasked ts (task ts q.p) q.path q.runs) (nested_unmasked ts) (nested_unmasked_lem ts)

-- ---- a sheet that passes all checks is that of a nested run

module _ (ts : List Task) where
  pub runs_in : (deep : ℕ) (around : List ℕ) (p : ℕ) (path : Path) (xs : RunList) → ListInRules (length ts) (length path) xs → ListWithin deep (p ∷ around) xs
      → ListRight ts (task ts p) path xs → ListUnmasked ts (task ts p) path xs → RunsIn ts around p path xs
  runs_in deep around p path no_run r w g u = tt
  runs_in zero around p path (a_run i d by own inner rest) r w g u = absurd w
  runs_in (suc deep) around p path (a_run i d by own inner rest) (l, k, ri, rr) (o, wi, wr) (done, whole, gi, gr) (free, ui, ur) = (
    record { in_path = l; right = done; there = k.there; other = o.0; unmasked = free; complete = whole },
    o.1,
    k.rising,
    runs_in deep (p ∷ around) by own inner ri wi gi ui,
    runs_in (suc deep) around p path rest rr wr gr ur,
  )

  abbrev pub accepted_nested : (sheet : Sheet) → SheetKept (length ts) sheet → nested_right ts (nested_run_of sheet) ≡ true → nested_unmasked ts (nested_run_of sheet) ≡ true → NestedRun ts
  accepted_nested sheet k g u = record {
    p = (nested_run_of sheet).p;
    path = (nested_run_of sheet).path;
    runs = (nested_run_of sheet).runs;
    there = k.rules.run.there;
    complete = ((nested_right_lem ts (nested_run_of sheet)).0 g).0;
    rising = k.rules.run.rising;
    within = runs_in deepest [] (nested_run_of sheet).p (nested_run_of sheet).path (nested_run_of sheet).runs k.rules.list k.rules.within ((nested_right_lem ts (nested_run_of sheet)).0 g).1
        ((nested_unmasked_lem ts (nested_run_of sheet)).0 u);
  }

  -- ---- a nested run that a sheet can hold passes them

  complete-some : (t : Task) (path : Path) → Complete t path → 1 ≤ length path
  complete-some t [] h = absurd h
  complete-some t (b ∷ path) h = omega arith

  in_rules : (deep : ℕ) (around : List ℕ) (p : ℕ) (path : Path) (xs : RunList) → RunsIn ts around p path xs → ListFits deep xs → ListInRules (length ts) (length path) xs
  in_rules deep around p path no_run h f = tt
  in_rules zero around p path (a_run i d by own inner rest) h f = absurd f
  in_rules (suc deep) around p path (a_run i d by own inner rest) (x, o, u, hi, hr) (short, few, fi, fr) = (
    x.in_path,
    record { there = x.there; bounds = record { some = complete-some (task ts by) own x.complete; few = short }; few = few; rising = u },
    in_rules deep (p ∷ around) by own inner hi fi,
    in_rules (suc deep) around p path rest hr fr,
  )

  in_depth : (deep : ℕ) (around : List ℕ) (p : ℕ) (path : Path) (xs : RunList) → RunsIn ts around p path xs → ListFits deep xs → ListWithin deep (p ∷ around) xs
  in_depth deep around p path no_run h f = tt
  in_depth zero around p path (a_run i d by own inner rest) h f = absurd f
  in_depth (suc deep) around p path (a_run i d by own inner rest) (x, o, u, hi, hr) (short, few, fi, fr) =
      ((x.other, o), in_depth deep (p ∷ around) by own inner hi fi, in_depth (suc deep) around p path rest hr fr)

  right_in : (around : List ℕ) (p : ℕ) (path : Path) (xs : RunList) → RunsIn ts around p path xs → ListRight ts (task ts p) path xs
  right_in around p path no_run h = tt
  right_in around p path (a_run i d by own inner rest) (x, o, u, hi, hr) = (x.right, x.complete, right_in (p ∷ around) by own inner hi, right_in around p path rest hr)

  unmasked_in : (around : List ℕ) (p : ℕ) (path : Path) (xs : RunList) → RunsIn ts around p path xs → ListUnmasked ts (task ts p) path xs
  unmasked_in around p path no_run h = tt
  unmasked_in around p path (a_run i d by own inner rest) (x, o, u, hi, hr) = (x.unmasked, unmasked_in (p ∷ around) by own inner hi, unmasked_in around p path rest hr)

  pub record NestedSheetOf (run : NestedRun ts) : Type 0 where
    pub passes : sheet_fault (length ts) (nested_sheet ts run) ≡ 0
    pub reads : nested_run_of (nested_sheet ts run) ≡ nested_sheet_run ts run
    pub right : nested_right ts (nested_sheet_run ts run) ≡ true
    pub unmasked : nested_unmasked ts (nested_sheet_run ts run) ≡ true

  pub nested_sheet_lem : (run : NestedRun ts) → NestedFits ts run → NestedSheetOf run
  nested_sheet_lem run f =
      let rules : NestedInRules (length ts) (nested_sheet_run ts run) = record {
        run = record { there = run.there; bounds = record { some = complete-some (task ts run.p) run.path run.complete; few = f.short }; few = f.few; rising = run.rising };
        list = in_rules deepest [] run.p run.path run.runs run.within f.each;
        within = in_depth deepest [] run.p run.path run.runs run.within f.each;
      } in
      record {
        passes = numbers_pass (length ts) (nested_sheet_run ts run) rules;
        reads = run_of-numbers (length ts) (nested_sheet_run ts run) rules;
        right = (nested_right_lem ts (nested_sheet_run ts run)).1 (run.complete, right_in [] run.p run.path run.runs run.within);
        unmasked = (nested_unmasked_lem ts (nested_sheet_run ts run)).1 (unmasked_in [] run.p run.path run.runs run.within);
      }
