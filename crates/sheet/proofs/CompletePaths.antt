-- The test of a path agrees with `Complete`, that of all paths of a run with `AllComplete`, and those of all its points with `RightDone` and
-- `AvoidsMasked`; so checks 13 and 16 fail just where their tests do. Each is an induction on the path or on the list of preemptions.
use mathlib.Core.Path.{◌≡◌, refl, subst}
use mathlib.Core.Logic.{◌↔◌}
use mathlib.Core.Bool.{Bool, true, false≢true}
use mathlib.Core.List.{List, [], ◌∷◌}
use Prim.Native.Nat.{ℕ, ◌<◌}
use lib.Dec.{eqb, ltb, leb}
use lib.ListN.{length, get_or}
use borrow.Author.Tests.{eqb-true, eq-eqb, ltb-true, lt-ltb, leb-true, le-leb}
use Rattle.cache.specs.References.{All}
use Rattle.model.specs.Lists.{mem, Each}
use Rattle.model.specs.Tasks.{Task, block, Unmasked, Done, end, PathFrom, stay, step, Complete, task}
use Rattle.model.specs.Runs.{Preemption}
use Rattle.model.proofs.Membership.{both_left, both_right}
use Rattle.model.proofs.Paths.{successor_below}
use Rattle.model.proofs.Most.{unmasked_exact}
use Rattle.sheet.specs.Sheet.{SheetRun, AllComplete, RightDone, AvoidsMasked}
use Rattle.sheet.specs.Parsed.{leads_to_end, complete_path, each_passes, complete_by, complete_all, right_done, done_point, done_all, unmasked_point, unmasked_all}

leads-path : (t : Task) (b : ℕ) (path : List ℕ) → leads_to_end t b path ≡ true → PathFrom t b path (end t)
leads-path t b [] e =
    subst (λ (x : ℕ). PathFrom t b [] x) (eqb-true b (end t) (both_right (ltb b (length t)) _ e)) (stay (ltb-true b (length t) (both_left (ltb b (length t)) _ e)))
leads-path t b (c ∷ path) e =
    step (both_left (mem eqb c (block t b).successors) _ e) (leads-path t c path (both_right (mem eqb c (block t b).successors) _ e))

path-leads : (t : Task) {b e : ℕ} {path : List ℕ} → PathFrom t b path e → e ≡ end t → leads_to_end t b path ≡ true
path-leads t {b} (stay h) q = rw (lt-ltb b (length t) h, eq-eqb b (end t) q)
path-leads t (step m w) q = rw (m, path-leads t w q)

pub complete_exact : (t : Task) (path : List ℕ) → (complete_path t path ≡ true) ↔ Complete t path
complete_exact t path = (there path, back path)
  where
    there : (path : List ℕ) → complete_path t path ≡ true → Complete t path
    there [] e = absurd (false≢true e)
    there (b ∷ path) e = (eqb-true b 0 (both_left (eqb b 0) _ e), leads-path t b path (both_right (eqb b 0) _ e))

    back : (path : List ℕ) → Complete t path → complete_path t path ≡ true
    back [] h = absurd h
    back (b ∷ path) h = rw (eq-eqb b 0 h.0, path-leads t h.1 refl)

-- ---- all preemptions of a run, where a test agrees with a property of each

module _ (P : Preemption → Type 0) (test : Preemption → Bool) (exact : (x : Preemption) → (test x ≡ true) ↔ P x) where
  each_has : (xs : List Preemption) → each_passes test xs ≡ true → Each P xs
  each_has [] e = tt
  each_has (x ∷ xs) e = ((exact x).0 (both_left (test x) _ e), each_has xs (both_right (test x) _ e))

  has_each : (xs : List Preemption) → Each P xs → each_passes test xs ≡ true
  has_each [] h = refl
  has_each (x ∷ xs) h = rw ((exact x).1 h.0, has_each xs h.1)

  each_exact : (xs : List Preemption) → (each_passes test xs ≡ true) ↔ Each P xs
  each_exact xs = (each_has xs, has_each xs)

pub all-complete : (ts : List Task) (r : SheetRun) → (complete_all ts r ≡ true) ↔ AllComplete ts r
all-complete ts r = (
  λ e. record {
    own = own.0 (both_left (complete_path (task ts r.p) r.path) _ e);
    each = each.0 (both_right (complete_path (task ts r.p) r.path) _ e);
  },
  λ h. rw (own.1 h.own, each.1 h.each),
)
  where
    own : (complete_path (task ts r.p) r.path ≡ true) ↔ Complete (task ts r.p) r.path
    own = complete_exact (task ts r.p) r.path

    each : (each_passes (complete_by ts) r.preemptions ≡ true) ↔ Each (λ (x : Preemption). Complete (task ts x.by) x.path) r.preemptions
    each = each_exact (λ (x : Preemption). Complete (task ts x.by) x.path) (complete_by ts) (λ x. complete_exact (task ts x.by) x.path) r.preemptions

pub right-done_exact : (ms : List ℕ) (d : ℕ) → (right_done ms d ≡ true) ↔ Done ms d
right-done_exact [] d = (eqb-true d 0, eq-eqb d 0)
right-done_exact (m ∷ ms) d = (
  λ e. (leb-true 1 d (both_left (leb 1 d) _ e), leb-true d (length (m ∷ ms)) (both_right (leb 1 d) _ e)),
  λ h. rw (le-leb 1 d h.0, le-leb d (length (m ∷ ms)) h.1),
)

pub all_done_lem : (ts : List Task) (r : SheetRun) → (done_all ts r ≡ true) ↔ RightDone ts r
all_done_lem ts r =
    each_exact (λ (x : Preemption). Done (block (task ts r.p) (get_or r.path x.position 0)).references x.done) (done_point (task ts r.p) r.path)
    (λ x. right-done_exact (block (task ts r.p) (get_or r.path x.position 0)).references x.done) r.preemptions

pub all-unmasked : (ts : List Task) (r : SheetRun) → (unmasked_all ts r ≡ true) ↔ AvoidsMasked ts r
all-unmasked ts r =
    each_exact (λ (x : Preemption). Unmasked (task ts r.p) (get_or r.path x.position 0)) (unmasked_point (task ts r.p) r.path)
    (λ x. unmasked_exact (task ts r.p) (get_or r.path x.position 0)) r.preemptions

-- ---- the blocks of a complete path are blocks of the task

leads-blocks : (t : Task) (b : ℕ) (p : List ℕ) → leads_to_end t b p ≡ true → All (λ (c : ℕ). c < length t) (b ∷ p)
leads-blocks t b [] e = (ltb-true b (length t) (both_left (ltb b (length t)) _ e), tt)
leads-blocks t b (c ∷ p) e = (
  successor_below t b c (both_left (mem eqb c (block t b).successors) _ e),
  leads-blocks t c p (both_right (mem eqb c (block t b).successors) _ e),
)

pub complete-blocks : (t : Task) (path : List ℕ) → complete_path t path ≡ true → All (λ (c : ℕ). c < length t) path
complete-blocks t [] e = tt
complete-blocks t (b ∷ p) e = leads-blocks t b p (both_right (eqb b 0) _ e)
