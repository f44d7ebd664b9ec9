-- The plan that the call makes, in the code's words: what Table answers decides first, and then check 21.
use mathlib.Core.Path.{◌≡◌, refl, sym, ap, ap₂, subst, ◌∙◌}
use mathlib.Core.Bool.{Bool, true, false, not, ◌||◌}
use mathlib.Core.List.{List, [], ◌∷◌, ◌++◌}
use Prim.Native.Nat.{ℕ, ◌+◌, ◌*◌, ◌≤◌, ◌<◌}
use native.Mathlib.Omega.{arith}
use lib.Dec.{eqb, ltb}
use lib.ListN.{length, get_or, take, replicate}
use borrow.Author.Tests.{eqb-true, ltb-false, lt-ltb, ne_eqb, not-false}
use Rattle.std.specs.Prelude.{Result, Ok, Err}
use Rattle.project.specs.declared.answers.Check.TheVariants.{ListLength, WrongTimes}
use Rattle.project.specs.declared.answers.Refusal.{Refusal}
use Rattle.project.specs.File.{task_count}
use Rattle.project.specs.Checklist.{one, refusal, Checked, and_then, unless, no_task, verdict_of}
use Rattle.project.specs.Reading.{outside, file_checks}
use Rattle.project.specs.Tasks.{file_pair}
use Rattle.project.proofs.Accepted.{Passing, passing, then_passed, unless-passed, or_false_left, or_false_right}
use Rattle.project.proofs.Checklists.{then_none, verdict_append}
use Rattle.file_pairs.specs.FilePairs.{table_of}
use Rattle.table.specs.Table.{full_checks, table_check, table_answer, table_after}
use Rattle.table.proofs.Entries.{refused_failed, passed-file, table_place}
use Rattle.response.specs.declared.Record.{Record}
use Rattle.response.specs.declared.Times.{Times}
use Rattle.response.specs.Times.{record_of, no_times, times_response, record_response, TaskTimes, table_pair, with_responses}
use Rattle.response.proofs.ResponseLaws.{same_response}
use Rattle.responses.specs.declared.plan.Plan.{Plan}
use Rattle.responses.specs.declared.plan.Unplanned.{Unplanned}
use Rattle.responses.specs.Responses.{largest_time, Fault1, test1, Fault21, any, wrong_record, test21, response_check, response_answer, response_after}
use Rattle.responses.specs.Plan.{times_of, wrong_at, times_test21, plan_check, pick_plan, plan_made, plan_of, plan_response, Ready}
use Rattle.responses.proofs.TimesLaws.{any_cong, any_none, times_count, times_at}
use Rattle.responses.proofs.ListLaws.{set_same}

module _ (w : ℕ) (s area : List ℕ) (x : Times) (penalty : ℕ) {answer : Checked} (told : answer ≡ table_answer w s area (replicate 64 0)) where
  -- Table's refusal is the plan's
  pub plan_refused : {r : Refusal} {numbers : List ℕ} → answer ≡ Err r → numbers ≡ table_after w s area (replicate 64 0)
      → Err (record { refusal = r; times = x; numbers = numbers }) ≡ plan_of w s area x penalty
  plan_refused e en = rw (en, refused_failed w s area (replicate 64 0) (sym told ∙ e))

  module _ (e : answer ≡ Ok tt) where
    pub plan_passing : Passing 1 s
    plan_passing = passing s (passed-file w s area (replicate 64 0) (sym told ∙ e))

    -- check 21 decides
    module _ {t p : ℕ} {wrong : Bool} (et : t ≡ task_count s) (ep : p ≡ penalty) (ew : wrong ≡ times_test21 t x p) where
      pub plan_wrong : {r : Refusal} {numbers : List ℕ} → wrong ≡ true → r ≡ refusal WrongTimes no_task → numbers ≡ table_after w s area (replicate 64 0)
          → Err (record { refusal = r; times = x; numbers = numbers }) ≡ plan_of w s area x penalty
      plan_wrong f q en =
          let test : times_test21 (task_count s) x penalty ≡ true = rw (et, ep) at (sym ew ∙ f) in
          let failed : plan_check w s area x penalty ≡ Err (refusal WrongTimes no_task) = rw (sym told ∙ e, test) in
          rw (q, en, failed)

      pub plan_decided : {numbers : List ℕ} → wrong ≡ false → numbers ≡ table_after w s area (replicate 64 0)
          → Ok (record { times = x; numbers = numbers; penalty = p; count = x.count }) ≡ plan_of w s area x penalty
      plan_decided f en =
          let test : times_test21 (task_count s) x penalty ≡ false = rw (et, ep) at (sym ew ∙ f) in
          let passed : plan_check w s area x penalty ≡ Ok tt = rw (sym told ∙ e, test) in
          rw (en, ep, passed)

-- ---- what a plan tells of the checks

module _ (x : Times) (numbers : List ℕ) (penalty : ℕ) where
  plan-not-none : {plan : Plan} {none : Unplanned} → ◌≡◌ {A = Result Plan Unplanned} (Ok plan) (Err none) → ⊥
  plan-not-none e = cc

  picked_ok : (k : Checked) {plan : Plan} → pick_plan k x numbers penalty ≡ Ok plan
      → (k ≡ Ok tt) × (record { times = x; numbers = numbers; penalty = penalty; count = x.count } ≡ plan)
  picked_ok (Ok passed) e = (refl, cc)
  picked_ok (Err r) e = absurd (plan-not-none (sym e))

  picked_err : (k : Checked) {none : Unplanned} → pick_plan k x numbers penalty ≡ Err none → k ≡ Err none.refusal
  picked_err (Ok passed) e = absurd (plan-not-none e)
  picked_err (Err r) {none} e =
      let told : ◌≡◌ {A = Unplanned} (record { refusal = r; times = x; numbers = numbers }) none = cc in
      ap (λ (u : Unplanned). Err u.refusal) told

-- ---- the plan of a list of records

wrong-none : (x : Times) (j : ℕ) → wrong_at x j ≡ false → TaskTimes x j
wrong-none x j e =
    let c = get_or x.c j 0 in
    let t = get_or x.t j 0 in
    let d = get_or x.d j 0 in
    let ec = or_false_left (outside largest_time c) (outside largest_time t || (outside largest_time d || ltb t d)) e in
    let rest = or_false_right (outside largest_time c) (outside largest_time t || (outside largest_time d || ltb t d)) e in
    let et = or_false_left (outside largest_time t) (outside largest_time d || ltb t d) rest in
    let last = or_false_right (outside largest_time t) (outside largest_time d || ltb t d) rest in
    let ed = or_false_left (outside largest_time d) (ltb t d) last in
    record {
      some_c = ltb-false c 1 (or_false_left (ltb c 1) (ltb 1000000 c) ec);
      most_c = ltb-false 1000000 c (or_false_right (ltb c 1) (ltb 1000000 c) ec);
      some_t = ltb-false t 1 (or_false_left (ltb t 1) (ltb 1000000 t) et);
      most_t = ltb-false 1000000 t (or_false_right (ltb t 1) (ltb 1000000 t) et);
      some_d = ltb-false d 1 (or_false_left (ltb d 1) (ltb 1000000 d) ed);
      order = ltb-false t d (or_false_right (outside largest_time d) (ltb t d) last);
    }

module _ (w : ℕ) (s area : List ℕ) (xs : List Record) (penalty : ℕ) where
  abbrev t : ℕ
  t = task_count s

  abbrev x : Times
  x = times_of xs

  abbrev zeros : List ℕ
  zeros = replicate 64 0

  count-is : x.count ≡ length xs
  count-is = times_count (no_times (length xs)) 0 (take 8 xs)

  same_wrong : (i : ℕ) → length xs ≤ 8 → i < length xs → wrong_record xs i ≡ wrong_at x i
  same_wrong i few l = let (c, p, d) = times_at xs i l (omega arith) in rw (c, p, d) refl

  -- check 21 by the records is that by the times
  same_21 : t ≤ 8 → test21 t xs penalty ≡ times_test21 t x penalty
  same_21 few = rw count-is (go (eqb (length xs) t) refl)
    where
      go : (b : Bool) → eqb (length xs) t ≡ b → (not b || (ltb 1000 penalty || any (length xs) (wrong_record xs))) ≡ (not b || (ltb 1000 penalty || any t (wrong_at x)))
      go true e =
          let z : length xs ≡ t = eqb-true (length xs) t e in
          ap (λ (k : Bool). ltb 1000 penalty || k) (any_cong (wrong_record xs) (wrong_at x) (length xs) (λ i l. same_wrong i (omega arith) l) ∙ ap (λ (k : ℕ). any k (wrong_at x)) z)
      go false e = refl

  -- the checks of the call are those of the plan
  pub same_check : response_check w s area xs penalty ≡ plan_check w s area x penalty
  same_check =
      verdict_append (one ListLength no_task (test1 w area) (Fault1 w area) ∷ (file_checks s ++ full_checks w s)) (one WrongTimes no_task (test21 t xs penalty) (Fault21 t xs penalty) ∷ [])
      ∙ ap₂ and_then (ap (λ (b : Bool). and_then (unless ListLength no_task b) (verdict_of (file_checks s ++ full_checks w s))) (right (test1 w area))) (then_none (unless WrongTimes no_task (test21 t xs penalty)))
      ∙ go (table_check w s area zeros) refl
    where
      right : (b : Bool) → b ≡ (b || false)
      right true = refl
      right false = refl

      go : (r : Checked) → table_check w s area zeros ≡ r → and_then r (unless WrongTimes no_task (test21 t xs penalty)) ≡ and_then r (unless WrongTimes no_task (times_test21 t x penalty))
      go (Ok y) e = ap (unless WrongTimes no_task) (same_21 (passing s (passed-file w s area zeros e)).t_high)
      go (Err y) e = refl

  -- what is known where all checks pass
  record Planned : Type 0 where
    few : length xs ≤ 8
    all : length xs ≡ t
    low : penalty ≤ 1000
    each : (j : ℕ) → j < length xs → TaskTimes x j
    table : table_after w s area zeros ≡ table_of s

  all_planned : plan_check w s area x penalty ≡ Ok tt → Planned
  all_planned e =
      let (p, q) = then_passed (table_check w s area zeros) (unless WrongTimes no_task (times_test21 t x penalty)) e in
      let f = (unless-passed WrongTimes no_task (times_test21 t x penalty) (Ok tt) (then_none (unless WrongTimes no_task (times_test21 t x penalty)) ∙ q)).0 in
      let h = (passing s (passed-file w s area zeros p)).t_high in
      let e1 = or_false_left (not (eqb x.count t)) (ltb 1000 penalty || any t (wrong_at x)) f in
      let e2 = or_false_right (not (eqb x.count t)) (ltb 1000 penalty || any t (wrong_at x)) f in
      let same : length xs ≡ t = sym count-is ∙ eqb-true x.count t (not-false (eqb x.count t) e1) in
      record {
        few = omega arith;
        all = same;
        low = ltb-false 1000 penalty (or_false_left (ltb 1000 penalty) (any t (wrong_at x)) e2);
        each = λ j l. wrong-none x j (any_none (wrong_at x) t (or_false_right (ltb 1000 penalty) (any t (wrong_at x)) e2) j (omega arith));
        table = rw p;
      }

  pub plan_ready : plan_check w s area x penalty ≡ Ok tt → Ready (plan_made w s area x penalty) × (x.count ≡ length xs)
  plan_ready e =
      let p = all_planned e in
      (record { few = omega (arith, count-is, p.few); low = p.low; each = λ j l. p.each j (omega (arith, count-is)) }, count-is)

  -- the R of a plan are those of the file
  same_time : Planned → (i : ℕ) → i < length xs → times_response x (table_pair (table_after w s area zeros)) penalty i ≡ record_response xs (file_pair s) penalty i
  same_time p i l =
      same_response (λ j. get_or x.c j 0) (λ j. (record_of xs j).c) (λ j. get_or x.t j 0) (λ j. (record_of xs j).t) (table_pair (table_after w s area zeros)) (file_pair s) penalty i
      (λ j. get_or x.d j 0) (λ j. (record_of xs j).d)
      (λ j m. let (c, q, d) = times_at xs j (omega arith) (omega (arith, p.few)) in (sym c, sym q))
      (let (c, q, d) = times_at xs i l (omega (arith, p.few)) in sym d)
      (λ h j a b.
      ap (λ (m : List ℕ). get_or m (8 * h + j) 0) p.table ∙ table_place s h j (omega (arith, p.few)) (omega (arith, p.few))
      ∙ rw (lt-ltb h t (omega (arith, p.all)), lt-ltb j t (omega (arith, p.all)), ne_eqb h j (λ z. omega arith)) refl)

  -- the list that is set, and the one that is kept
  pub plan_list : plan_check w s area x penalty ≡ Ok tt → with_responses (plan_response (plan_made w s area x penalty)) 0 (length xs) xs ≡ response_after w s area xs penalty
  plan_list e =
      set_same (times_response x (table_pair (table_after w s area zeros)) penalty) (record_response xs (file_pair s) penalty) 0 (length xs) xs (λ i a b. same_time (all_planned e) i (omega arith))
      ∙ rw (same_check ∙ e)

  pub plan_kept : {r : Refusal} → plan_check w s area x penalty ≡ Err r → xs ≡ response_after w s area xs penalty
  plan_kept e = rw (same_check ∙ e)

  -- by the plan that was found, and where none was
  module _ {plan : Plan} (found : plan_of w s area x penalty ≡ Ok plan) where
    passed : plan_check w s area x penalty ≡ Ok tt
    passed = (picked_ok x (table_after w s area zeros) penalty (plan_check w s area x penalty) found).0

    made : plan_made w s area x penalty ≡ plan
    made = (picked_ok x (table_after w s area zeros) penalty (plan_check w s area x penalty) found).1

    -- as many records get their R as the plan has times of
    pub found_ready : Ready plan × (plan.count ≡ length xs) × (plan.times.count ≡ length xs)
    found_ready =
        let ready = plan_ready passed in
        subst (λ (p : Plan). Ready p × (p.count ≡ length xs) × (p.times.count ≡ length xs)) made (ready.0, ready.1, ready.1)

    pub found_list : {ys : List Record} → ys ≡ with_responses (plan_response plan) 0 (length xs) xs
        → (Ok tt ≡ response_answer w s area xs penalty) × (ys ≡ response_after w s area xs penalty)
    found_list e = (
      sym (same_check ∙ passed),
      e ∙ sym (ap (λ (p : Plan). with_responses (plan_response p) 0 (length xs) xs) made) ∙ plan_list passed,
    )

  pub none_found : {none : Unplanned} {answer : Checked} → plan_of w s area x penalty ≡ Err none → answer ≡ Err none.refusal
      → (answer ≡ response_answer w s area xs penalty) × (xs ≡ response_after w s area xs penalty)
  none_found e q =
      let f = picked_err x (table_after w s area zeros) penalty (plan_check w s area x penalty) e in
      (q ∙ sym (same_check ∙ f), plan_kept f)
