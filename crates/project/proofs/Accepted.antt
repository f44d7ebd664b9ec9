-- The round trips: what the writer writes is accepted with the same n, t and bodies, and an accepted file written again is itself.
-- The idea: checks that pass say what stands in the head; the contents and bodies are those of RoundTrips.
use mathlib.Core.Path.{◌≡◌, refl, sym, ap, ◌∙◌}
use mathlib.Core.Bool.{Bool, true, false, not, ◌||◌, cond, true≢false}
use mathlib.Core.List.{List, [], ◌∷◌, ◌++◌, map}
use Prim.Native.Nat.{ℕ, zero, suc, ◌+◌, ◌*◌, ◌≤◌}
use native.Mathlib.Omega.{arith}
use lib.Dec.{eqb, ltb}
use lib.ListN.{length, get_or, take, drop, replicate, length-append, length-replicate, take-append-drop}
use lib.Seq.{drop-cons, drop-drop, take_at}
use borrow.Author.Tests.{eqb-true, ltb-false, le-ltb, not-false}
use Rattle.cache.specs.declared.blocks.CacheShape.{CacheShape}
use Rattle.cache.specs.Shape.{Holds}
use Rattle.model.specs.Lists.{Each}
use Rattle.model.specs.Computed.{same_list}
use Rattle.model.proofs.Membership.{both_right, same_list_self, same_list_true}
use Rattle.body.proofs.Decoded.{decoded-long}
use Rattle.std.specs.Prelude.{Ok, Err}
use Rattle.project.specs.declared.answers.Check.{Check}
use Rattle.project.specs.declared.answers.Check.TheVariants.{FileLength, WrongMark, WrongEdition, CacheBlocks, TaskCount, WrongContents, BrokenLayout}
use Rattle.project.specs.declared.answers.Accepted.{Accepted}
use Rattle.project.specs.File.{mark, edition, cache_blocks, task_count, reserve, contents_start, bodies_start, offset_of, size_of, bodies, joined, contents_of, head_of, file_in}
use Rattle.project.specs.Checks.{longest}
use Rattle.project.specs.Tasks.{file_shape}
use Rattle.project.specs.Checklist.{no_task, refusal, Checked, and_then, unless, lowest}
use Rattle.project.specs.Reading.{test2, test3, test4, test5, count_test, reserve_test, test6, contents_fit, test7, test8, head_checks_up_to, contents_checks, head_check_up_to, tasks_check, file_check_up_to, file_check, counts_of, reading_up_to, reading_of}
use Rattle.project.proofs.Checklists.{answered_ok, verdict_append}
use Rattle.project.proofs.TaskFaults.{Bytes, kept-task}
use Rattle.project.proofs.RoundTrips.{length-file, length-bodies, file_contents, file-bodies, read_contents}

-- ---- checks that pass

pub unless-passed : (c : Check) (a : ℕ) (b : Bool) (r : Checked) → and_then (unless c a b) r ≡ Ok tt → (b ≡ false) × (r ≡ Ok tt)
unless-passed c a true r e = absurd cc
unless-passed c a false r e = (refl, e)

pub then_passed : (q r : Checked) → and_then q r ≡ Ok tt → (q ≡ Ok tt) × (r ≡ Ok tt)
then_passed (Ok x) r e = (refl, e)
then_passed (Err x) r e = absurd cc

pub or_false_left : (a b : Bool) → (a || b) ≡ false → a ≡ false
or_false_left true b e = e
or_false_left false b e = refl

pub or_false_right : (a b : Bool) → (a || b) ≡ false → b ≡ false
or_false_right true b e = absurd (true≢false e)
or_false_right false b e = e

-- what the head of a file says that calls accept which read the editions up to e, and that its contents fit and its tasks pass
pub record Passing (e : ℕ) (s : List ℕ) : Type 0 where
  pub long : 8 ≤ length s
  pub short : length s ≤ longest e
  pub marked : take 4 s ≡ mark
  pub k_low : 1 ≤ edition s
  pub k_high : edition s ≤ e
  pub n_low : 1 ≤ cache_blocks s
  pub n_high : cache_blocks s ≤ 16 * edition s
  pub t_low : 1 ≤ task_count s
  pub t_high : task_count s ≤ 8
  pub zero_byte : get_or s 7 0 ≡ 0
  pub zeros : take (reserve (edition s)) (drop 8 s) ≡ replicate (reserve (edition s)) 0
  pub fit : contents_fit s (task_count s) 0 (bodies_start (edition s) (task_count s)) ≡ true
  pub tasks : tasks_check (bodies s) ≡ Ok tt

module _ (e : ℕ) (s : List ℕ) where
  -- the checks of a file: those on its head, the contents, and those on its bodies
  pub file-parts : file_check_up_to e s ≡ and_then (head_check_up_to e s) (and_then (unless WrongContents no_task (test7 s)) (tasks_check (bodies s)))
  file-parts = verdict_append (head_checks_up_to e s) (contents_checks s)

  pub passing_up_to : file_check_up_to e s ≡ Ok tt → Passing e s
  passing_up_to p =
      let k = edition s in
      let (h, r) = then_passed (head_check_up_to e s) _ (sym file-parts ∙ p) in
      let (e7, tasks) = unless-passed WrongContents no_task (test7 s) (tasks_check (bodies s)) r in
      let (e2, h3) = unless-passed FileLength no_task (test2 e s) _ h in
      let (e3, h4) = unless-passed WrongMark no_task (test3 s) _ h3 in
      let (e4, h5) = unless-passed WrongEdition no_task (test4 e k) _ h4 in
      let (e5, h6) = unless-passed CacheBlocks no_task (test5 k (cache_blocks s)) _ h5 in
      let e6 = (unless-passed TaskCount no_task (test6 s) (Ok tt) h6).0 in
      let et = or_false_left (count_test (task_count s)) (not (eqb (get_or s 7 0) 0) || reserve_test s) e6 in
      let ez = or_false_right (count_test (task_count s)) (not (eqb (get_or s 7 0) 0) || reserve_test s) e6 in
      record {
        long = ltb-false (length s) 8 (or_false_left (ltb (length s) 8) (ltb (longest e) (length s)) e2);
        short = ltb-false (longest e) (length s) (or_false_right (ltb (length s) 8) (ltb (longest e) (length s)) e2);
        marked = same_list_true (take 4 s) mark (not-false (same_list (take 4 s) mark) e3);
        k_low = ltb-false k 1 (or_false_left (ltb k 1) (ltb e k) e4);
        k_high = ltb-false e k (or_false_right (ltb k 1) (ltb e k) e4);
        n_low = ltb-false (cache_blocks s) 1 (or_false_left (ltb (cache_blocks s) 1) (ltb (16 * k) (cache_blocks s)) e5);
        n_high = ltb-false (16 * k) (cache_blocks s) (or_false_right (ltb (cache_blocks s) 1) (ltb (16 * k) (cache_blocks s)) e5);
        t_low = ltb-false (task_count s) 1 (or_false_left (ltb (task_count s) 1) (ltb 8 (task_count s)) et);
        t_high = ltb-false 8 (task_count s) (or_false_right (ltb (task_count s) 1) (ltb 8 (task_count s)) et);
        zero_byte = eqb-true (get_or s 7 0) 0 (not-false (eqb (get_or s 7 0) 0) (or_false_left (not (eqb (get_or s 7 0) 0)) (reserve_test s) ez));
        zeros = same_list_true _ _ (not-false _ (or_false_right (not (eqb (get_or s 7 0) 0)) (reserve_test s) ez));
        fit = not-false (contents_fit s (task_count s) 0 (bodies_start k (task_count s))) e7;
        tasks = tasks;
      }

  pub accepted_up_to : (a : Accepted) → reading_up_to e s ≡ Ok a → (file_check_up_to e s ≡ Ok tt) × (a.n ≡ cache_blocks s) × (a.t ≡ task_count s)
  accepted_up_to a h =
      let (q, same) = answered_ok (file_check_up_to e s) (counts_of s) h in
      (q, ap (λ (k : Accepted). k.n) (sym same), ap (λ (k : Accepted). k.t) (sym same))

-- in calls that read edition 1
pub passing : (s : List ℕ) → file_check s ≡ Ok tt → Passing 1 s
passing s p = passing_up_to 1 s p

pub accepted-passed : (s : List ℕ) (a : Accepted) → reading_of s ≡ Ok a → (file_check s ≡ Ok tt) × (a.n ≡ cache_blocks s) × (a.t ≡ task_count s)
accepted-passed s a e = accepted_up_to 1 s a e

-- rows of sixteen places or more have one for each cache block of an accepted file
pub file-holds : (w : ℕ) → 16 ≤ w → (s : List ℕ) {shape : CacheShape} → file_check s ≡ Ok tt → shape ≡ file_shape s → Holds w shape
file-holds w h s p e =
    let is = passing s p in
    let same = ap (λ (x : CacheShape). x.blocks) e in
    record { some = omega (arith, same, is.n_low); room = omega (arith, same, is.n_high, is.k_high) }

-- ---- an accepted file written again

-- what stands ahead of the contents is what is written there
head_read : (e : ℕ) (s : List ℕ) → Passing e s → bodies_start (edition s) (task_count s) ≤ length s
    → s ≡ head_of (edition s) (cache_blocks s) (task_count s) ++ drop (contents_start (edition s)) s
head_read e s p h =
    let l = p.long in
    let low = p.k_low in
    let sum : contents_start (edition s) ≡ 8 + reserve (edition s) = omega arith in
    let rest : drop 8 s ≡ replicate (reserve (edition s)) 0 ++ drop (contents_start (edition s)) s
    = sym (take-append-drop (reserve (edition s)) (drop 8 s)) ∙ ap (λ x. x ++ drop (reserve (edition s)) (drop 8 s)) p.zeros
    ∙ ap (λ x. replicate (reserve (edition s)) 0 ++ x) (drop-drop (reserve (edition s)) 8 s ∙ ap (λ k. drop k s) (sym sum)) in
    sym (take-append-drop 4 s)
    ∙ rw (p.marked, drop-cons s 4 0 (omega arith), drop-cons s 5 0 (omega arith), drop-cons s 6 0 (omega arith), drop-cons s 7 0 (omega arith), p.zero_byte)
    (ap (λ x. mark ++ (edition s ∷ cache_blocks s ∷ task_count s ∷ 0 ∷ x)) rest)

pub fit_long : (s : List ℕ) (left j at : ℕ) → contents_fit s left j at ≡ true → at ≤ length s
fit_long s zero j at e = omega (arith, eqb-true at (length s) e)
fit_long s (suc left) j at e =
    omega (arith, fit_long s left (suc j) (at + size_of s j) (both_right (eqb (offset_of s j) at) (contents_fit s left (suc j) (at + size_of s j)) e))

pub written_again : (e : ℕ) (s : List ℕ) → Bytes s → Passing e s → file_in (edition s) (cache_blocks s) (bodies s) ≡ s
written_again e s h p =
    let t = task_count s in
    let start = contents_start (edition s) in
    let at = bodies_start (edition s) t in
    let l = fit_long s t 0 at p.fit in
    let none : start + 4 * 0 ≡ start = omega arith in
    let (d, c, z) = read_contents t s 0 at h p.fit (omega arith) in
    let rest : drop start s ≡ contents_of at (bodies s) ++ joined (bodies s)
    = sym (take-append-drop (4 * t) (drop start s)) ∙ ap (λ x. take (4 * t) (drop start s) ++ x) (drop-drop (4 * t) start s ∙ d)
    ∙ ap (λ x. x ++ joined (bodies s)) (ap (λ k. take (4 * t) (drop k s)) (sym none) ∙ c) in
    whole s (bodies s) (length-bodies s t 0) rest ∙ sym (head_read e s p l)
  where
    whole : (s : List ℕ) (bs : List (List ℕ)) → length bs ≡ task_count s → drop (contents_start (edition s)) s ≡ contents_of (bodies_start (edition s) (task_count s)) bs ++ joined bs
        → file_in (edition s) (cache_blocks s) bs ≡ head_of (edition s) (cache_blocks s) (task_count s) ++ drop (contents_start (edition s)) s
    whole s bs el er = rw (el, er)

-- ---- what is written is accepted

pub none-lowest : (c : Check) (j : ℕ) (test : List ℕ → Bool) (bs : List (List ℕ)) → lowest c j (map test bs) ≡ Ok tt → Each (λ (b : List ℕ). test b ≡ false) bs
none-lowest c j test [] e = tt
none-lowest c j test (b ∷ bs) e = go (test b) refl e (none-lowest c (suc j) test bs)
  where
    go : (s : Bool) → test b ≡ s → cond s (Err (refusal c j)) (lowest c (suc j) (map test bs)) ≡ Ok tt → (lowest c (suc j) (map test bs) ≡ Ok tt → Each (λ (b : List ℕ). test b ≡ false) bs)
        → Each (λ (b : List ℕ). test b ≡ false) (b ∷ bs)
    go true q e ih = absurd cc
    go false q e ih = (q, ih e)

-- bodies that pass check 8
pub tasks_kept : (bs : List (List ℕ)) → tasks_check bs ≡ Ok tt → Each (λ (b : List ℕ). test8 b ≡ false) bs
tasks_kept bs ok = none-lowest BrokenLayout 0 test8 bs (then_passed (lowest BrokenLayout 0 (map test8 bs)) _ ok).0

pub joined-long : (bs : List (List ℕ)) → Each (λ (b : List ℕ). test8 b ≡ false) bs → length (joined bs) ≤ 938 * length bs
joined-long [] k = omega arith
joined-long (b ∷ bs) k =
    let (t, q) = kept-task b k.0 in
    omega (arith, length-append b (joined bs), joined-long bs k.1, decoded-long b t q)

-- the file of an edition that is read
module _ (e k n : ℕ) (bs : List (List ℕ)) (k-ok : test4 e k ≡ false) (n-ok : test5 k n ≡ false) (t-ok : count_test (length bs) ≡ false) (ok : tasks_check bs ≡ Ok tt) where
  k_low : 1 ≤ k
  k_low = ltb-false k 1 (or_false_left (ltb k 1) (ltb e k) k-ok)

  file-short : test2 e (file_in k n bs) ≡ false
  file-short =
      let kept = tasks_kept bs ok in
      let t8 : length bs ≤ 8 = ltb-false 8 (length bs) (or_false_right (ltb (length bs) 1) (ltb 8 (length bs)) t-ok) in
      let high : k ≤ e = ltb-false e k (or_false_right (ltb k 1) (ltb e k) k-ok) in
      let len = length-file k n bs k_low in
      let long = joined-long bs kept in
      rw (le-ltb (length (file_in k n bs)) 8 (omega (arith, k_low)), le-ltb (longest e) (length (file_in k n bs)) (omega arith))

  file-reserve : reserve_test (file_in k n bs) ≡ false
  file-reserve =
      ap (λ x. not (same_list x (replicate (reserve k) 0))) (take_at (replicate (reserve k) 0) _ (reserve k) (length-replicate {A = ℕ} (reserve k) 0))
      ∙ ap not (same_list_self (replicate (reserve k) 0))

  pub written_passes : file_check_up_to e (file_in k n bs) ≡ Ok tt
  written_passes = file-parts e (file_in k n bs) ∙ rw (file-short, k-ok, n-ok, t-ok, file-reserve, (file_contents k n bs k_low).0, file-bodies k n bs k_low) ok

  pub written_accepted : reading_up_to e (file_in k n bs) ≡ Ok (record { n = n; t = length bs })
  written_accepted = rw written_passes
