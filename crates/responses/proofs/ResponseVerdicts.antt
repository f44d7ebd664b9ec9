-- What the call answers is the verdict on its checks, `response_verdict`, and a list that it sets has each R of the document's equation,
-- `responded-is`, `response_filled`; no other list has them, `responded_only`.
-- The idea: 1 to 11 are Table's, 21 compares the numbers of each record, and the least number that meets an equation is one.
use mathlib.Core.Path.{◌≡◌, refl, sym, ap, ap₂, subst, ◌∙◌}
use mathlib.Core.Logic.{◌↔◌, inl, inr, ◌≢◌}
use mathlib.Core.Bool.{Bool, true, false, not, ◌||◌}
use mathlib.Core.List.{List, [], ◌∷◌, ◌++◌}
use Prim.Native.Nat.{ℕ, suc, ◌+◌, ◌*◌, ◌≤◌, ◌<◌}
use native.Mathlib.Nat.{zero-add, le_refl}
use native.Mathlib.Omega.{arith}
use lib.Dec.{eqb, ltb}
use lib.ListN.{length, get_or}
use borrow.Author.Tests.{ltb-true, ltb-false, lt-ltb}
use Rattle.cache.specs.Sets.{useful_replaced}
use Rattle.model.specs.States.{Fault11}
use Rattle.model.specs.Tasks.{Allows, task}
use Rattle.model.proofs.Most.{most_unique, pair_is}
use Rattle.project.specs.File.{File, task_count}
use Rattle.project.specs.Checklist.{Agreeing, Verdict, numbers, one, no_task}
use Rattle.project.specs.Checks.{Outside}
use Rattle.project.specs.Reading.{outside, file_checks}
use Rattle.project.specs.Tasks.{tasks_of, file_cache_in, file_cache, file_pair, PairNumbers}
use Rattle.project.proofs.Checklists.{verdict_exact, agreeing_append, of_exact}
use Rattle.project.proofs.TaskFaults.{Bytes}
use Rattle.project.proofs.Verdicts.{outside_exact, differ_exact, either_exact, file_agreeing}
use Rattle.rows.specs.Rows.{area_length}
use Rattle.graphs.specs.TaskRows.{test11}
use Rattle.std.specs.Prelude.{Ok, Err}
use Rattle.project.specs.declared.answers.Check.TheVariants.{WrongTimes}
use Rattle.project.specs.declared.answers.Refusal.{Refusal}
use Rattle.table.specs.Table.{full_checks, table_answer, table_after}
use Rattle.table.proofs.TableVerdicts.{exact11}
use Rattle.table.proofs.Entries.{table_entries}
use Rattle.response.specs.declared.Record.{Record}
use Rattle.response.specs.Response.{Answer, Fits}
use Rattle.response.specs.Times.{record_of, record_side, record_response, late_mark, with_response}
use Rattle.response.proofs.ResponseLaws.{answer_unique, same_answer, same_right}
use Rattle.response.proofs.Answers.{answer-is, in_time}
use Rattle.responses.specs.Responses.{largest_time, largest_penalty, Wrong, Fault21, wrong, any, wrong_record, test21, response_checks, response_answer, responded, response_after, Responded}
use Rattle.responses.proofs.TimesLaws.{any_has, any_some}
use Rattle.responses.proofs.ListLaws.{set-length, set_at}

-- ---- check 21

exact_wrong : (x : Record) → (wrong x.c x.t x.d ≡ true) ↔ Wrong x
exact_wrong x =
    either_exact (outside largest_time x.c) (outside largest_time x.t || (outside largest_time x.d || ltb x.t x.d)) (outside_exact x.c 1 largest_time x.c)
    (either_exact (outside largest_time x.t) (outside largest_time x.d || ltb x.t x.d) (outside_exact x.t 1 largest_time x.t)
    (either_exact (outside largest_time x.d) (ltb x.t x.d) (outside_exact x.d 1 largest_time x.d) (ltb-true x.t x.d, lt-ltb x.t x.d)))

pub exact21 : (t : ℕ) (xs : List Record) (penalty : ℕ) → (test21 t xs penalty ≡ true) ↔ Fault21 t xs penalty
exact21 t xs penalty =
    either_exact (not (eqb (length xs) t)) (ltb largest_penalty penalty || any (length xs) (wrong_record xs)) (differ_exact (length xs) t)
    (either_exact (ltb largest_penalty penalty) (any (length xs) (wrong_record xs)) (ltb-true largest_penalty penalty, lt-ltb largest_penalty penalty) (
      (λ e. let (i, l, h) = any_some (wrong_record xs) (length xs) e in (i, l, (exact_wrong (record_of xs i)).0 h)),
      (λ (i, l, h). any_has (wrong_record xs) (length xs) i l ((exact_wrong (record_of xs i)).1 h)),
    ))

-- ---- the verdict

module _ (w : ℕ) (wide_enough : 16 ≤ w) (s : File) (h : Bytes s) (area : List ℕ) (xs : List Record) (penalty : ℕ) where
  response_agreeing : Agreeing (response_checks w s area xs penalty)
  response_agreeing = (
    differ_exact (length area) (area_length w),
    λ p1. agreeing_append (file_checks s) (full_checks w s ++ (one WrongTimes no_task (test21 (task_count s) xs penalty) (Fault21 (task_count s) xs penalty) ∷ [])) (file_agreeing s h)
        (λ all. (of_exact (test11 (file_cache_in w s)) (Fault11 (file_cache s)) [] (tasks_of s) (exact11 w wide_enough s h area [] all), λ p11. (exact21 (task_count s) xs penalty, λ p21. tt))),
  )

  -- what the call answers, for every list of bytes, area, list of records and penalty
  pub response_verdict : Verdict (response_checks w s area xs penalty) (response_answer w s area xs penalty)
  response_verdict = verdict_exact (response_checks w s area xs penalty) response_agreeing

  -- 1, those of the file, 11 and 21
  pub response_order : numbers (response_checks w s area xs penalty) ≡ 1 ∷ 2 ∷ 3 ∷ 4 ∷ 5 ∷ 6 ∷ 7 ∷ 8 ∷ 9 ∷ 11 ∷ 21 ∷ []
  response_order = refl

-- ---- the list that is set

module _ (s : File) (xs : List Record) (penalty : ℕ) where
  record_at : (i : ℕ) → i < length xs → record_of (responded s xs penalty) i ≡ with_response (record_of xs i) (record_response xs (file_pair s) penalty i)
  record_at i l =
      set_at (record_response xs (file_pair s) penalty) 0 (length xs) xs i l (le_refl (length xs))
      ∙ ap (λ (k : ℕ). with_response (record_of xs i) (record_response xs (file_pair s) penalty k)) (zero-add i)

  -- the R and the marks that are set are those of the document
  pub responded-is : Responded s xs penalty (responded s xs penalty)
  responded-is = record {
    pair = file_pair s;
    numbers = λ i j. pair_is (file_cache s) (task (tasks_of s) i) (task (tasks_of s) j);
    long = set-length (record_response xs (file_pair s) penalty) 0 (length xs) xs;
    kept = λ i l. let e = record_at i l in (ap (λ (x : Record). x.c) e, ap (λ (x : Record). x.t) e, ap (λ (x : Record). x.d) e);
    answers = λ i l. let e = record_at i l in
        subst (Answer (record_side xs (file_pair s) penalty i) (record_of xs i).d) (sym (ap (λ (x : Record). x.r) e))
        (answer-is (record_side xs (file_pair s) penalty i) (record_of xs i).d);
    marked = λ i l. let e = record_at i l in ap (λ (x : Record). x.late) e ∙ sym (ap (λ (x : Record). late_mark x.r) e);
  }

-- what the call leaves: where it is done, the R and the marks of the document; "any refusal keeps the list"
module _ (w : ℕ) (s : File) (area : List ℕ) (xs : List Record) (penalty : ℕ) where
  pub response_filled : response_answer w s area xs penalty ≡ Ok tt → Responded s xs penalty (response_after w s area xs penalty)
  response_filled e = rw e (responded-is s xs penalty)

  pub response_kept : {r : Refusal} → response_answer w s area xs penalty ≡ Err r → response_after w s area xs penalty ≡ xs
  response_kept e = rw e

-- the pair numbers over paths are the computed ones, and so "where table answers" its entries
pub pairs_only : (s : File) (pair : ℕ → ℕ → ℕ) → PairNumbers s pair → (i j : ℕ) → pair i j ≡ file_pair s i j
pairs_only s pair h i j =
    let k = file_cache s in
    let a = task (tasks_of s) i in
    let b = task (tasks_of s) j in
    most_unique (useful_replaced k) k a b (Allows a) (pair i j) (file_pair s i j) (h i j) (pair_is k a b)

pub responded-entries : (w : ℕ) (s : File) (xs : List Record) (penalty : ℕ) (ys : List Record) (x : Responded s xs penalty ys) (area table : List ℕ)
    → table_answer w s area table ≡ Ok tt → (i j : ℕ) → i < task_count s → j < task_count s → j ≢ i
    → get_or (table_after w s area table) (8 * i + j) 0 ≡ x.pair i j
responded-entries w s xs penalty ys x area table e i j hi hj d = table_entries w s area table e i j hi hj d ∙ sym (pairs_only s x.pair x.numbers i j)

-- a record by its fields
same_record : (x y : Record) → x.c ≡ y.c → x.t ≡ y.t → x.d ≡ y.d → x.r ≡ y.r → x.late ≡ y.late → x ≡ y
same_record x y c t d r m = λ i. record { c = c i; t = t i; d = d i; r = r i; late = m i }

-- lists of the same records
same_list_lem : (ys zs : List Record) → length ys ≡ length zs → ((i : ℕ) → i < length zs → record_of ys i ≡ record_of zs i) → ys ≡ zs
same_list_lem [] [] e h = refl
same_list_lem [] (z ∷ zs) e h = absurd (omega arith)
same_list_lem (y ∷ ys) [] e h = absurd (omega arith)
same_list_lem (y ∷ ys) (z ∷ zs) e h = ap₂ (λ (r : Record) (l : List Record). r ∷ l) (h 0 (omega arith)) (same_list_lem ys zs (omega arith) (λ i l. h (suc i) (omega arith)))

-- no other list has them
pub responded_only : (s : File) (xs : List Record) (penalty : ℕ) (ys zs : List Record) → Responded s xs penalty ys → Responded s xs penalty zs → ys ≡ zs
responded_only s xs penalty ys zs p q = same_list_lem ys zs (p.long ∙ sym q.long) (λ i l.
    let k : i < length xs = omega (arith, q.long) in
    let (pc, pt, pd) = p.kept i k in
    let (qc, qt, qd) = q.kept i k in
    let c : ℕ → ℕ = λ j. (record_of xs j).c in
    let t : ℕ → ℕ = λ j. (record_of xs j).t in
    let same = same_right c c t t p.pair q.pair penalty i (λ j m. (refl, refl))
    (λ h j a b. pairs_only s p.pair p.numbers h j ∙ sym (pairs_only s q.pair q.numbers h j)) in
    let r : (record_of ys i).r ≡ (record_of zs i).r =
    answer_unique (record_side xs p.pair penalty i) (record_of xs i).d (record_of ys i).r (p.answers i k)
    ∙ same_answer (record_side xs p.pair penalty i) (record_side xs q.pair penalty i) (record_of xs i).d same
    ∙ sym (answer_unique (record_side xs q.pair penalty i) (record_of xs i).d (record_of zs i).r (q.answers i k)) in
    same_record (record_of ys i) (record_of zs i) (pc ∙ sym qc) (pt ∙ sym qt) (pd ∙ sym qd) r (p.marked i k ∙ ap late_mark r ∙ sym (q.marked i k)))

-- ---- where check 21 passes

-- a number that is not outside its bounds is positive
inside-some : (largest x : ℕ) → (Outside largest x → ⊥) → 0 < x
inside-some largest x h = go (ltb x 1) refl
  where
    go : (b : Bool) → ltb x 1 ≡ b → 0 < x
    go true e = absurd (h (inl (ltb-true x 1 e)))
    go false e = ltb-false x 1 e

-- a task of an answered list is in time exactly when at some time up to its deadline all that is asked for until then fits
pub responded_in_time : (s : File) (t : ℕ) (xs : List Record) (penalty : ℕ) (ys : List Record) → (Fault21 t xs penalty → ⊥) → (x : Responded s xs penalty ys) (i : ℕ)
    → i < length xs → ((record_of ys i).r ≢ 0) ↔ Fits (record_side xs x.pair penalty i) (record_of xs i).d
responded_in_time s t xs penalty ys none x i l =
    in_time (λ j. (record_of xs j).c) (λ j. (record_of xs j).t) x.pair penalty i
    (inside-some largest_time (record_of xs i).c (λ f. none (inr (inr (i, l, inl f)))))
    (λ j k. inside-some largest_time (record_of xs j).t (λ f. none (inr (inr (j, omega arith, inr (inl f))))))
    (record_of xs i).d (record_of ys i).r (x.answers i l)
