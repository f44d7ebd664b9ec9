-- One theorem for every list of checks: what is computed is the verdict, `verdict_exact`, and there is only one, `verdict_unique`.
-- The idea: a test that holds is its fault, and the first one to hold is the first fault; two first faults are the same one.
use mathlib.Core.Path.{◌≡◌, refl, sym, ap, ap₂, ◌∙◌}
use mathlib.Core.Logic.{inl, inr, ◌↔◌}
use mathlib.Core.Bool.{Bool, true, false, cond, true≢false, false≢true}
use mathlib.Core.List.{List, [], ◌∷◌, ◌++◌, map}
use Prim.Native.Nat.{ℕ, zero, suc, ◌+◌, ◌<◌}
use native.Mathlib.Nat.{zero-add, add-zero, add-suc, suc-add, not-suc-le-zero}
use native.Mathlib.Omega.{arith}
use lib.Dec.{eqb, ltb}
use lib.ListN.{length, get_or}
use borrow.Author.Tests.{ltb-true, ltb-false}
use Rattle.std.specs.Prelude.{Result, Ok, Err, IsErr, IsErrAnd}
use Rattle.project.specs.declared.answers.Check.{Check}
use Rattle.project.specs.declared.answers.Check.TheVariants.{ListLength, FileLength, WrongMark, WrongEdition, CacheBlocks, TaskCount, WrongContents, BrokenLayout, OffPath, TooManyStates, SheetRules, WrongPath, OutLength, NoSuchTask, MaskedPoint, OutOfBounds, SameTasks, SheetLength, TooDeep, WrongTimes}
use Rattle.project.specs.declared.answers.Refusal.{Refusal}
use Rattle.project.specs.Checklist.{number_of, refusal, Checked, answered, Entry, one, each, Of, Lowest, Fails, Passes, AllPass, Verdict, and_then, unless, lowest, outcome, verdict_of, Agreeing}

-- ---- the first test that holds, of a list of tests

data Found (c : Check) (from : ℕ) (tests : List Bool) (r : Checked) : Type 0 where
  first : (j : ℕ) → r ≡ Err (refusal c (from + j)) → get_or tests j false ≡ true → ((i : ℕ) → i < j → get_or tests i false ≡ false) → Found c from tests r
  none : r ≡ Ok tt → ((i : ℕ) → get_or tests i false ≡ false) → Found c from tests r

lowest-found : (c : Check) (from : ℕ) (tests : List Bool) → Found c from tests (lowest c from tests)
lowest-found c from [] = none refl (λ i. refl)
lowest-found c from (true ∷ tests) = first 0 (ap (λ (k : ℕ). Err (refusal c k)) (sym (add-zero from))) refl (λ i h. absurd (not-suc-le-zero h))
lowest-found c from (false ∷ tests) = later (lowest-found c (suc from) tests)
  where
    at : (P : ℕ → Type 0) → ((i : ℕ) → P (suc i) → get_or tests i false ≡ false) → (i : ℕ) → P i → get_or (false ∷ tests) i false ≡ false
    at P f zero h = refl
    at P f (suc i) h = f i h

    later : Found c (suc from) tests (lowest c (suc from) tests) → Found c from (false ∷ tests) (lowest c from (false ∷ tests))
    later (first j q e f) =
        first (suc j) (q ∙ ap (λ (k : ℕ). Err (refusal c k)) (suc-add from j ∙ sym (add-suc from j))) e (at (λ i. i < suc j) (λ i h. f i (omega arith)))
    later (none q f) = none q (λ i. at (λ i. Unit {0}) (λ i h. f i) i tt)

-- ---- what is computed is the verdict

no_fault : {Fault : Type 0} (test : Bool) → ((test ≡ true) ↔ Fault) → test ≡ false → Fault → ⊥
no_fault test h e f = true≢false (sym (h.1 f) ∙ e)

-- the checks that are left decide where one passes
passed_on : (e : Entry) (es : List Entry) (r : Checked) → Passes e → Verdict es r → Verdict (e ∷ es) r
passed_on e es (Ok x) p v = (p, v)
passed_on e es (Err r) p v = inr (p, v)

pub verdict_exact : (es : List Entry) → Agreeing es → Verdict es (verdict_of es)
verdict_exact [] h = tt
verdict_exact (one c a test Fault ∷ es) h = go test refl (λ p. verdict_exact es (h.1 p))
  where
    go : (b : Bool) → test ≡ b → (Passes (one c a test Fault) → Verdict es (verdict_of es)) → Verdict (one c a test Fault ∷ es) (and_then (unless c a b) (verdict_of es))
    go true e ih = inl (refl, refl, h.0.0 e)
    go false e ih = let p = no_fault test h.0 e in passed_on (one c a test Fault) es (verdict_of es) p (ih p)
verdict_exact (each c tests Fault ∷ es) h = go (lowest c 0 tests) (lowest-found c 0 tests) (λ p. verdict_exact es (h.1 p))
  where
    go : (r : Checked) → Found c 0 tests r → (Passes (each c tests Fault) → Verdict es (verdict_of es)) → Verdict (each c tests Fault ∷ es) (and_then r (verdict_of es))
    go r (first j q e f) ih = rw (q, zero-add j) (inl (refl, ((h.0 j).0 e, λ i l. no_fault (get_or tests i false) (h.0 i) (f i l))))
    go r (none q f) ih =
        let p : Passes (each c tests Fault) = λ i. no_fault (get_or tests i false) (h.0 i) (f i) in
        rw q (passed_on (each c tests Fault) es (verdict_of es) p (ih p))

-- ---- there is only one verdict

lowest-one : (Fault : ℕ → Type 0) (i j : ℕ) → Lowest Fault i → Lowest Fault j → i ≡ j
lowest-one Fault i j (f, u) (g, v) = go (ltb i j) (ltb j i) refl refl
  where
    go : (a b : Bool) → ltb i j ≡ a → ltb j i ≡ b → i ≡ j
    go true b p q = absurd (v i (ltb-true i j p) f)
    go false true p q = absurd (u j (ltb-true j i q) g)
    go false false p q = omega (arith, ltb-false i j p, ltb-false j i q)

-- no two checks have one number: the check of a number
check_of : ℕ → Check
check_of n =
    cond (eqb n 1) ListLength
    (cond (eqb n 2) FileLength
    (cond (eqb n 3) WrongMark
    (cond (eqb n 4) WrongEdition
    (cond (eqb n 5) CacheBlocks
    (cond (eqb n 6) TaskCount
    (cond (eqb n 7) WrongContents
    (cond (eqb n 8) BrokenLayout
    (cond (eqb n 9) OffPath
    (cond (eqb n 11) TooManyStates
    (cond (eqb n 12) SheetRules
    (cond (eqb n 13) WrongPath
    (cond (eqb n 14) OutLength
    (cond (eqb n 15) NoSuchTask
    (cond (eqb n 16) MaskedPoint
    (cond (eqb n 17) OutOfBounds
    (cond (eqb n 18) SameTasks
    (cond (eqb n 19) SheetLength
    (cond (eqb n 20) TooDeep
    WrongTimes))))))))))))))))))

check_of_number : (c : Check) → check_of (number_of c) ≡ c
unfolding check_of
check_of_number ListLength = refl
check_of_number FileLength = refl
check_of_number WrongMark = refl
check_of_number WrongEdition = refl
check_of_number CacheBlocks = refl
check_of_number TaskCount = refl
check_of_number WrongContents = refl
check_of_number BrokenLayout = refl
check_of_number OffPath = refl
check_of_number TooManyStates = refl
check_of_number SheetRules = refl
check_of_number WrongPath = refl
check_of_number OutLength = refl
check_of_number NoSuchTask = refl
check_of_number MaskedPoint = refl
check_of_number OutOfBounds = refl
check_of_number SameTasks = refl
check_of_number SheetLength = refl
check_of_number TooDeep = refl
check_of_number WrongTimes = refl

pub one_number : (c d : Check) → number_of c ≡ number_of d → c ≡ d
one_number c d e = sym (check_of_number c) ∙ ap check_of e ∙ check_of_number d

fails_one : (e : Entry) (c a d b : ℕ) → Fails e c a → Fails e d b → (c ≡ d) × (a ≡ b)
fails_one (one check named test Fault) c a d b (p, q, f) (x, y, g) = (p ∙ sym x, q ∙ sym y)
fails_one (each check tests Fault) c a d b (p, f) (x, g) = (p ∙ sym x, lowest-one Fault a b f g)

-- two first faults are one refusal
one_refusal : (r q : Refusal) → (number_of r.check ≡ number_of q.check) × (r.task ≡ q.task) → ◌≡◌ {A = Checked} (Err r) (Err q)
one_refusal r q (c, a) = ap₂ (λ (k : Check) (j : ℕ). Err (refusal k j)) (one_number r.check q.check c) a

not-both : (e : Entry) (c a : ℕ) → Fails e c a → Passes e → ⊥
not-both (one check named test Fault) c a (p, q, f) pass = pass f
not-both (each check tests Fault) c a (p, f) pass = pass a f.0

pub verdict_unique : (es : List Entry) (r q : Checked) → Verdict es r → Verdict es q → r ≡ q
verdict_unique [] (Ok x) (Err q) v w = elim w [ ]
verdict_unique [] (Err r) q v w = elim v [ ]
verdict_unique [] (Ok x) (Ok y) v w = refl
verdict_unique (e ∷ es) (Ok x) (Ok y) v w = refl
verdict_unique (e ∷ es) (Ok x) (Err q) (p, v) (inl g) = absurd (not-both e (number_of q.check) q.task g p)
verdict_unique (e ∷ es) (Ok x) (Err q) (p, v) (inr (y, w)) = verdict_unique es (Ok x) (Err q) v w
verdict_unique (e ∷ es) (Err r) (Ok y) (inl f) (p, w) = absurd (not-both e (number_of r.check) r.task f p)
verdict_unique (e ∷ es) (Err r) (Ok y) (inr (x, v)) (p, w) = verdict_unique es (Err r) (Ok y) v w
verdict_unique (e ∷ es) (Err r) (Err q) (inl f) (inl g) =
    one_refusal r q (fails_one e (number_of r.check) r.task (number_of q.check) q.task f g)
verdict_unique (e ∷ es) (Err r) (Err q) (inl f) (inr (x, w)) = absurd (not-both e (number_of r.check) r.task f x)
verdict_unique (e ∷ es) (Err r) (Err q) (inr (x, v)) (inl g) = absurd (not-both e (number_of q.check) q.task g x)
verdict_unique (e ∷ es) (Err r) (Err q) (inr (x, v)) (inr (y, w)) = verdict_unique es (Err r) (Err q) v w

-- checks none of which has a fault pass
pub passed_computed : (es : List Entry) → Agreeing es → AllPass es → verdict_of es ≡ Ok tt
passed_computed es h p = verdict_unique es (verdict_of es) (Ok tt) (verdict_exact es h) p

-- an answer is no refusal
pub ok-not-err : {A : Type 0} {x : A} {r : Refusal} → ◌≡◌ {A = Result A Refusal} (Ok x) (Err r) → ⊥
ok-not-err e = cc

-- what `?` hands on of a refusal is the refusal
pub refused_by : {A : Type 0} {q : Result A Refusal} {r : Refusal} → IsErr q × IsErrAnd q (λ e. e ≡ r) → q ≡ Err r
refused_by {A} {q} {r} h = go q h.0 h.1
  where
    go : (p : Result A Refusal) → IsErr p → IsErrAnd p (λ e. e ≡ r) → p ≡ Err r
    go (Ok x) f e = absurd e
    go (Err x) f e = ap (λ (k : Refusal). Err k) e

-- what a call answers tells what its checks say
pub answered_ok : {A : Type 0} (r : Checked) (x : A) {y : A} → answered r x ≡ Ok y → (r ≡ Ok tt) × (x ≡ y)
answered_ok (Ok passed) x e = (refl, cc)
answered_ok (Err q) x e = absurd (ok-not-err (sym e))

pub answered_err : {A : Type 0} (r : Checked) (x : A) {q : Refusal} → answered r x ≡ Err q → r ≡ Err q
answered_err (Ok passed) x e = absurd (ok-not-err e)
answered_err (Err q) x e = cc

-- ---- lists joined

pub then_none : (r : Checked) → and_then r (Ok tt) ≡ r
then_none (Ok x) = refl
then_none (Err x) = refl

then_then : (q r t : Checked) → and_then (and_then q r) t ≡ and_then q (and_then r t)
then_then (Ok x) r t = refl
then_then (Err x) r t = refl

pub verdict_append : (es fs : List Entry) → verdict_of (es ++ fs) ≡ and_then (verdict_of es) (verdict_of fs)
verdict_append [] fs = refl
verdict_append (e ∷ es) fs = ap (and_then (outcome e)) (verdict_append es fs) ∙ sym (then_then (outcome e) (verdict_of es) (verdict_of fs))

pub agreeing_append : (es fs : List Entry) → Agreeing es → (AllPass es → Agreeing fs) → Agreeing (es ++ fs)
agreeing_append [] fs h k = k tt
agreeing_append (e ∷ es) fs h k = (h.0, λ p. agreeing_append es fs (h.1 p) (λ all. k (p, all)))

-- ---- a test of each element of a list

pub of_exact : {A : Type 0} (test : A → Bool) (Fault : A → Type 0) (default : A) (l : List A)
    → ((j : ℕ) → j < length l → (test (get_or l j default) ≡ true) ↔ Fault (get_or l j default))
    → (j : ℕ) → (get_or (map test l) j false ≡ true) ↔ Of Fault default l j
of_exact test Fault default [] h j = (λ e. absurd (false≢true e), λ f. absurd (not-suc-le-zero f.0))
of_exact test Fault default (x ∷ l) h zero = (λ e. (omega arith, (h 0 (omega arith)).0 e), λ f. (h 0 (omega arith)).1 f.1)
of_exact test Fault default (x ∷ l) h (suc j) =
    let ih = of_exact test Fault default l (λ i k. h (suc i) (omega arith)) j in
    (λ e. let (k, f) = ih.0 e in (omega arith, f), λ f. ih.1 (omega (arith, f.0), f.1))
