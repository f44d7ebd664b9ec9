-- A sheet parses to a run just where it is the numbers of that run and the run keeps the rules; so check 12 fails just where it does not parse.
-- The idea: both ways are inductions on the list of preemptions, which carry the point before along.
use mathlib.Core.Path.{◌≡◌, refl, sym, ap, ap₂, ◌∙◌}
use mathlib.Core.Logic.{inl, inr, ⊎_elim}
use mathlib.Core.Bool.{Bool, true, false, not, ◌&&◌, false≢true, cond}
use mathlib.Core.List.{List, [], ◌∷◌, ◌++◌}
use Prim.Native.Nat.{ℕ, zero, suc, ◌+◌, ◌≤◌}
use native.Mathlib.Omega.{arith}
use lib.Dec.{eqb, ltb, leb}
use lib.ListN.{length, take, drop, length-append, length-take, take-append-drop}
use lib.Seq.{take_at, drop_at}
use borrow.Author.Tests.{eqb-true, eqb-false, eq-eqb, ne_eqb, ltb-true, lt-ltb, le-ltb, leb-true, le-leb, not-true}
use Rattle.model.specs.Lists.{Each}
use Rattle.model.specs.Runs.{Preemption, NotBefore, NeverFall}
use Rattle.model.proofs.Membership.{or_cases, both_left, both_right}
use Rattle.sheet.specs.Sheet.{SheetRun, preemption_numbers, sheet_numbers, longest_path, PathInBounds, PreemptionInRules, InRules, Fault12}
use Rattle.sheet.specs.Parsed.{ParsedList, broken_list, parsed_list, with_preemption, path_test, not_before, preemption_test, preemptions_from, Parsed, broken, parsed, with_path, after_path, parse, kept_sheet, run_of}

-- ---- points that never fall, from the point (low, lowDone) on

abbrev RisesFrom : ℕ → ℕ → List Preemption → Type 0
RisesFrom low low_done [] = Unit {0}
RisesFrom low low_done (x ∷ xs) = NotBefore low low_done x.position x.done × RisesFrom x.position x.done xs

rising-from : (x : Preemption) (xs : List Preemption) → NeverFall (x ∷ xs) → RisesFrom x.position x.done xs
rising-from x [] h = tt
rising-from x (y ∷ xs) h = (h.0, rising-from y xs h.1)

-- no point comes before (0, 0)
not-before-first : (i d : ℕ) → NotBefore 0 0 i d
not-before-first zero d = inr (refl, omega arith)
not-before-first (suc i) d = inl (omega arith)

rising-all : (xs : List Preemption) → NeverFall xs → RisesFrom 0 0 xs
rising-all [] h = tt
rising-all (x ∷ xs) h = (not-before-first x.position x.done, rising-from x xs h)

never_fall : (low low_done : ℕ) (xs : List Preemption) → RisesFrom low low_done xs → NeverFall xs
never_fall low low_done [] h = tt
never_fall low low_done (x ∷ []) h = tt
never_fall low low_done (x ∷ y ∷ xs) h = (h.1.0, never_fall x.position x.done (y ∷ xs) h.1)

-- the test of two points agrees with `NotBefore`
not-before_passes : (i d j e : ℕ) → NotBefore i d j e → not_before i d j e ≡ true
not-before_passes i d j e (inl h) = rw (lt-ltb i j h)
not-before_passes i d j e (inr (q, h)) = rw (le-ltb i j (omega arith), eq-eqb i j q, le-leb d e h)

pub passes_not_before : (i d j e : ℕ) → not_before i d j e ≡ true → NotBefore i d j e
passes_not_before i d j e h =
    ⊎_elim (λ q. inl (ltb-true i j q)) (λ q. inr (eqb-true i j (both_left (eqb i j) _ q), leb-true d e (both_right (eqb i j) _ q)))
    (or_cases (ltb i j) (eqb i j && leb d e) h)

-- ---- the numbers of a run parse to it

path_passes : (path rest : List ℕ) → PathInBounds path → path_test (length path) (path ++ rest) ≡ true
path_passes path rest h =
    rw (length-append path rest, le-leb 1 (length path) h.some, le-leb (length path) longest_path h.few, le-leb (length path) (length path + length rest) (omega arith))

preemption_passes : (t p long low low_done : ℕ) (x : Preemption) (rest : List ℕ) → PreemptionInRules t p long x → NotBefore low low_done x.position x.done
    → preemption_test t p long low low_done x.position x.done x.by (length x.path) (x.path ++ rest) ≡ true
preemption_passes t p long low low_done x rest h l =
    rw (
      not-before_passes low low_done x.position x.done l,
      lt-ltb x.position long h.in_path,
      lt-ltb x.by t h.there,
      ne_eqb x.by p h.other,
    )
    (path_passes x.path rest h.bounds)

list_parses : (t p long low low_done : ℕ) (xs : List Preemption) → Each (PreemptionInRules t p long) xs → RisesFrom low low_done xs
    → preemptions_from t p long (length xs) low low_done (preemption_numbers xs) ≡ parsed_list xs
unfolding preemptions_from
list_parses t p long low low_done [] e r = refl
list_parses t p long low low_done (x ∷ xs) e r =
    rw (
      preemption_passes t p long low low_done x (preemption_numbers xs) e.0 r.0,
      take_at x.path (preemption_numbers xs) (length x.path) refl,
      drop_at x.path (preemption_numbers xs) (length x.path) refl,
      list_parses t p long x.position x.done xs e.1 r.1,
    )

pub parse-numbers : (t : ℕ) (r : SheetRun) → InRules t r → parse t (sheet_numbers r) ≡ parsed r
unfolding parse after_path
parse-numbers t r h =
    let rest = length r.preemptions ∷ preemption_numbers r.preemptions in
    rw (
      lt-ltb r.p t h.there,
      path_passes r.path rest h.bounds,
      take_at r.path rest (length r.path) refl,
      drop_at r.path rest (length r.path) refl,
      le-leb (length r.preemptions) 16 h.few,
      list_parses t r.p (length r.path) 0 0 r.preemptions h.each (rising-all r.preemptions h.rising),
    )

-- ---- what parses to a run is its numbers, and the run keeps the rules

-- what `path_test` says of the path of k blocks at the beginning of rest
pub record PathRead (k : ℕ) (rest : List ℕ) : Type 0 where
  pub long : length (take k rest) ≡ k
  pub bounds : PathInBounds (take k rest)

pub path-there : (k : ℕ) (rest : List ℕ) → path_test k rest ≡ true → k ≤ length rest
path-there k rest e = leb-true k (length rest) (both_right (leb k longest_path) _ (both_right (leb 1 k) _ e))

pub path_read : (k : ℕ) (rest : List ℕ) → path_test k rest ≡ true → PathRead k rest
path_read k rest e =
    let e1 = both_right (leb 1 k) _ e in
    let some = leb-true 1 k (both_left (leb 1 k) _ e) in
    let few = leb-true k longest_path (both_left (leb k longest_path) _ e1) in
    let there = path-there k rest e in
    let long : length (take k rest) ≡ k = simp length-take (omega arith) in
    record { long = long; bounds = record { some = omega arith; few = omega arith } }

record PreemptionRead (t p long low low_done position done by k : ℕ) (rest : List ℕ) : Type 0 where
  keeps : PreemptionInRules t p long (record { position = position; done = done; by = by; path = take k rest })
  rises : NotBefore low low_done position done
  length-is : length (take k rest) ≡ k

preemption_read : (t p long low low_done position done by k : ℕ) (rest : List ℕ) → preemption_test t p long low low_done position done by k rest ≡ true → PreemptionRead t p long low low_done position done by k rest
preemption_read t p long low low_done position done by k rest e =
    let e1 = both_right (not_before low low_done position done) _ e in
    let e2 = both_right (ltb position long) _ e1 in
    let e3 = both_right (ltb by t) _ e2 in
    let path = path_read k rest (both_right (not (eqb by p)) _ e3) in
    record {
      keeps = record {
        in_path = ltb-true position long (both_left (ltb position long) _ e1);
        there = ltb-true by t (both_left (ltb by t) _ e2);
        other = eqb-false by p (not-true (eqb by p) (both_left (not (eqb by p)) _ e3));
        bounds = path.bounds;
      };
      rises = passes_not_before low low_done position done (both_left (not_before low low_done position done) _ e);
      length-is = path.long;
    }

-- the numbers s are those of `left` preemptions that keep the rules
record ListRead (t p long left low low_done : ℕ) (s : List ℕ) (xs : List Preemption) : Type 0 where
  count : length xs ≡ left
  each : Each (PreemptionInRules t p long) xs
  rises : RisesFrom low low_done xs
  numbers : s ≡ preemption_numbers xs

no_list : {X : Type 0} {xs : List Preemption} → broken_list ≡ parsed_list xs → X
no_list e = let z : ◌≡◌ {A = ℕ} 0 1 = cc in absurd (omega arith)

no_run : {X : Type 0} {r : SheetRun} → broken ≡ parsed r → X
no_run e = let z : ◌≡◌ {A = ℕ} 0 1 = cc in absurd (omega arith)

list_read : (t p long left low low_done : ℕ) (s : List ℕ) (xs : List Preemption) → preemptions_from t p long left low low_done s ≡ parsed_list xs → ListRead t p long left low low_done s xs
unfolding preemptions_from
list_read t p long zero low low_done [] xs e = let z : [] ≡ xs = cc in rw (← z) (record { count = refl; each = tt; rises = tt; numbers = refl })
list_read t p long zero low low_done (x ∷ s) xs e = no_list e
list_read t p long (suc left) low low_done [] xs e = no_list e
list_read t p long (suc left) low low_done (position ∷ []) xs e = no_list e
list_read t p long (suc left) low low_done (position ∷ done ∷ []) xs e = no_list e
list_read t p long (suc left) low low_done (position ∷ done ∷ by ∷ []) xs e = no_list e
list_read t p long (suc left) low low_done (position ∷ done ∷ by ∷ k ∷ rest) xs e =
    go (preemption_test t p long low low_done position done by k rest) (preemptions_from t p long left position done (drop k rest)) refl refl e (list_read t p long left position done (drop k rest))
  where
    first : Preemption
    first = record { position = position; done = done; by = by; path = take k rest }

    more : (ys : List Preemption) → PreemptionRead t p long low low_done position done by k rest → ListRead t p long left position done (drop k rest) ys
        → ListRead t p long (suc left) low low_done (position ∷ done ∷ by ∷ k ∷ rest) (first ∷ ys)
    more ys h r = record {
      count = ap suc r.count;
      each = (h.keeps, r.each);
      rises = (h.rises, r.rises);
      numbers = ap₂ (λ (n : ℕ) (l : List ℕ). position ∷ done ∷ by ∷ n ∷ l) (sym h.length-is) (sym (take-append-drop k rest) ∙ ap (λ l. take k rest ++ l) r.numbers);
    }

    go : (b : Bool) (d : ParsedList) → preemption_test t p long low low_done position done by k rest ≡ b → preemptions_from t p long left position done (drop k rest) ≡ d
        → cond b (with_preemption first d) broken_list ≡ parsed_list xs
        → ((ys : List Preemption) → preemptions_from t p long left position done (drop k rest) ≡ parsed_list ys → ListRead t p long left position done (drop k rest) ys)
        → ListRead t p long (suc left) low low_done (position ∷ done ∷ by ∷ k ∷ rest) xs
    go false d q g e ih = no_list e
    go true broken_list q g e ih = no_list e
    go true (parsed_list ys) q g e ih =
        let z : first ∷ ys ≡ xs = cc in
        rw (← z) (more ys (preemption_read t p long low low_done position done by k rest q) (ih ys g))

-- the numbers s after the path of the task p are the count and the preemptions of the run r
record AfterRead (t p : ℕ) (path s : List ℕ) (r : SheetRun) : Type 0 where
  xs : List Preemption
  same : record { p = p; path = path; preemptions = xs } ≡ r
  few : length xs ≤ 16
  list : ListRead t p (length path) (length xs) 0 0 (preemption_numbers xs) xs
  numbers : s ≡ length xs ∷ preemption_numbers xs

after_read : (t p : ℕ) (path s : List ℕ) (r : SheetRun) → after_path t p path s ≡ parsed r → AfterRead t p path s r
unfolding after_path
after_read t p path [] r e = no_run e
after_read t p path (count ∷ rest) r e = go (leb count 16) (preemptions_from t p (length path) count 0 0 rest) refl refl e
  where
    go : (b : Bool) (d : ParsedList) → leb count 16 ≡ b → preemptions_from t p (length path) count 0 0 rest ≡ d
        → cond b (with_path p path d) broken ≡ parsed r → AfterRead t p path (count ∷ rest) r
    go false d q g e = no_run e
    go true broken_list q g e = no_run e
    go true (parsed_list xs) q g e =
        let l = list_read t p (length path) count 0 0 rest xs g in
        let few = leb-true count 16 q in
        record {
          xs = xs;
          same = cc;
          few = omega (arith, l.count);
          list = record { count = refl; each = l.each; rises = l.rises; numbers = refl };
          numbers = ap₂ (λ (n : ℕ) (l : List ℕ). n ∷ l) (sym l.count) l.numbers;
        }

pub record Parses (t : ℕ) (s : List ℕ) (r : SheetRun) : Type 0 where
  pub rules : InRules t r
  pub numbers : s ≡ sheet_numbers r

pub parsed-rules : (t : ℕ) (s : List ℕ) (r : SheetRun) → parse t s ≡ parsed r → Parses t s r
unfolding parse
parsed-rules t [] r e = no_run e
parsed-rules t (p ∷ []) r e = no_run e
parsed-rules t (p ∷ l ∷ rest) r e = go (ltb p t && path_test l rest) refl e
  where
    found : (ltb p t && path_test l rest) ≡ true → AfterRead t p (take l rest) (drop l rest) r → Parses t (p ∷ l ∷ rest) r
    found q a =
        let path = path_read l rest (both_right (ltb p t) _ q) in
        rw (← a.same) (record {
          rules = record {
            there = ltb-true p t (both_left (ltb p t) _ q);
            bounds = path.bounds;
            few = a.few;
            each = a.list.each;
            rising = never_fall 0 0 a.xs a.list.rises;
          };
          numbers = ap₂ (λ (n : ℕ) (m : List ℕ). p ∷ n ∷ m) (sym path.long) (sym (take-append-drop l rest) ∙ ap (λ m. take l rest ++ m) a.numbers);
        })

    go : (b : Bool) → (ltb p t && path_test l rest) ≡ b → cond b (after_path t p (take l rest) (drop l rest)) broken ≡ parsed r → Parses t (p ∷ l ∷ rest) r
    go false q e = no_run e
    go true q e = found q (after_read t p (take l rest) (drop l rest) r e)

-- the run of a sheet that keeps the rules
pub kept_parses : (t : ℕ) (s : List ℕ) → kept_sheet (parse t s) ≡ true → Parses t s (run_of (parse t s))
kept_parses t s h = parsed-rules t s (run_of (parse t s)) (go (parse t s) h)
  where
    go : (d : Parsed) → kept_sheet d ≡ true → d ≡ parsed (run_of d)
    go broken h = absurd (false≢true h)
    go (parsed r) h = refl

-- ---- check 12

pub broken_fault : (t : ℕ) (s : List ℕ) → parse t s ≡ broken → Fault12 t s
broken_fault t s e (r, h, q) = no_run (sym e ∙ ap (parse t) q ∙ parse-numbers t r h)

pub fault_broken : (t : ℕ) (s : List ℕ) → Fault12 t s → parse t s ≡ broken
fault_broken t s f = go (parse t s) refl
  where
    go : (d : Parsed) → parse t s ≡ d → d ≡ broken
    go broken e = refl
    go (parsed r) e = let h = parsed-rules t s r e in absurd (f (r, h.rules, h.numbers))

-- a sheet is the numbers of at most one run
pub one-run : (t : ℕ) (r q : SheetRun) → InRules t r → InRules t q → sheet_numbers r ≡ sheet_numbers q → r ≡ q
one-run t r q h g e = let z : parsed r ≡ parsed q = sym (parse-numbers t r h) ∙ ap (parse t) e ∙ parse-numbers t q g in cc
