-- Demand 3 over tasks that keep the rules: the bounds of every disturbed run, and a run that reaches each pair number.
-- The idea: join the paths behind the rows that give the number; where it is 0, any rows at a point of an unmasked block give it.
use mathlib.Core.Path.{◌≡◌, refl, sym, ap, ◌∙◌}
use mathlib.Core.Logic.{◌≢◌, ◌⊎◌, inl, inr}
use mathlib.Core.List.{List, [], ◌∷◌, ◌++◌, append_assoc}
use Prim.Native.Nat.{ℕ, ◌<◌}
use native.Mathlib.Nat.{zero-add, add-zero}
use native.Mathlib.Omega.{arith}
use lib.ListN.{length, get_or, take, drop, length-append}
use lib.Seq.{get_or-append-add}
use Rattle.cache.specs.Cache.{Cache, empty_row, with_references, first_references}
use Rattle.cache.specs.Sets.{useful_replaced}
use Rattle.cache.proofs.Rows.{length-empty_row, first_references_fold}
use Rattle.model.specs.Lists.{Each}
use Rattle.model.specs.Tasks.{Task, block, SomeUnmasked, Done, Allows, PathFrom, PathTo, Complete, end, references, task, Rules}
use Rattle.model.specs.Numbers.{Rows, counted}
use Rattle.model.specs.Runs.{Preemption, Preempts, DisturbedRun, lost_hits}
use Rattle.model.specs.Computed.{pair_number}
use Rattle.model.specs.Demand.{Reached, NonePreempted, Demand3}
use Rattle.model.proofs.Paths.{path_join, complete-inside}
use Rattle.model.proofs.Exact.{reaches_end}
use Rattle.model.proofs.OnPath.{to_and_from}
use Rattle.model.proofs.Entering.{done_all_lem, point_reaches, point_lives}
use Rattle.model.proofs.Most.{pair_is, masked_zero}
use Rattle.model.proofs.Events.{Preempt, refs, lost, Clean}
use Rattle.model.proofs.Lost.{lost-once}
use Rattle.model.proofs.RunEvents.{run-once}
use Rattle.model.proofs.Hits.{lost_events}
use Rattle.model.proofs.Bounds.{bounded, clean_run}

-- ---- a path through the block b

pub block-before : (before post : List ℕ) (b : ℕ) → get_or (before ++ (b ∷ post)) (length before) 0 ≡ b
block-before before post b = ap (λ (x : ℕ). get_or (before ++ (b ∷ post)) x 0) (sym (add-zero (length before))) ∙ get_or-append-add before (b ∷ post) 0 0

pub inside-before : (before post : List ℕ) (b : ℕ) → length before < length (before ++ (b ∷ post))
inside-before before post b = omega (arith, length-append before (b ∷ post))

pub complete_through : (t : Task) (before post : List ℕ) (b : ℕ) → PathTo t before b → PathFrom t b post (end t) → Complete t (before ++ (b ∷ post))
complete_through t before post b (p, to, e) on = rw (← (append_assoc before (b ∷ []) post), ← e) (refl, path_join t to on)

module _ (k : Cache) (ts : List Task) (ok : Rules ts) (i j : ℕ) (hi : i < length ts) (hj : j < length ts) (ne : j ≢ i) where
  -- the run of i with one preemption by j at a point of its path
  abbrev pub once : (path : List ℕ) (position done : ℕ) (q : List ℕ) → Complete (task ts i) path → position < length path → Allows (task ts i) (get_or path position 0) done
      → Complete (task ts j) q → DisturbedRun ts
  once path position done q c l u d = record {
    p = i;
    path = path;
    preemptions = record { position = position; done = done; by = j; path = q } ∷ [];
    there = hi;
    complete = c;
    each = (record { in_path = l; right = u.1; there = hj; other = ne; unmasked = u.0; complete = d }, tt);
    rising = tt;
  }

  reached-by : (path : List ℕ) (position done : ℕ) (q : List ℕ) (c : Complete (task ts i) path) (l : position < length path) (u : Allows (task ts i) (get_or path position 0) done)
      (d : Complete (task ts j) q) → lost_hits k (once path position done q c l u d) ≡ pair_number k (task ts i) (task ts j) → Reached k ts i j
  reached-by path position done q c l u d e = record {
    run = once path position done q c l u d;
    task_i = refl;
    once = (record { position = position; done = done; by = j; path = q }, refl, refl);
    equal = e;
  }

  -- ---- some rows of paths give the number

  -- the lost hits of a path of i, preempted in the block b, where so many of its references are done, along the complete path q of j
  pub split_lost : (before : List ℕ) (b : ℕ) (post q : List ℕ) (done : ℕ) (c : Complete (task ts i) (before ++ (b ∷ post))) (l : length before < length (before ++ (b ∷ post)))
      (u : Allows (task ts i) (get_or (before ++ (b ∷ post)) (length before) 0) done) (d : Complete (task ts j) q)
      → lost_hits k (once (before ++ (b ∷ post)) (length before) done q c l u d)
      ≡ useful_replaced k (with_references k (empty_row k) (references (task ts i) before ++ take done (block (task ts i) b).references))
      (first_references k (drop done (block (task ts i) b).references ++ references (task ts i) post)) (with_references k (empty_row k) (references (task ts j) q))
  split_lost before b post q done c l u d =
      let t = task ts i in
      let x : Preemption = record { position = length before; done = done; by = j; path = q } in
      let pre = references t before ++ take done (block t b).references in
      let rest = drop done (block t b).references ++ references t post in
      let form = run-once ts t x 0 b before post (sym (zero-add (length before))) (right-at (block-before before post b) u.1) in
      let clean : Clean (refs pre (Preempt (references (task ts j) q) ∷ refs rest []))
      = rw form at (clean_run ts ok i (before ++ (b ∷ post)) (x ∷ []) (once (before ++ (b ∷ post)) (length before) done q c l u d).each) in
      rw (first_references_fold k rest)
      (lost_events k ts t (before ++ (b ∷ post)) (x ∷ []) ∙ ap (lost k (empty_row k) (empty_row k)) form
      ∙ lost-once k pre (references (task ts j) q) rest (empty_row k) (length-empty_row k) clean)
    where
      right-at : {a : ℕ} → a ≡ b → Done (block (task ts i) a).references done → Done (block (task ts i) b).references done
      right-at e h = rw e at h

  reached-rows : (x : Rows k (task ts i) (task ts j)) → Allows (task ts i) x.at x.done → counted (useful_replaced k) x ≡ pair_number k (task ts i) (task ts j) → Reached k ts i j
  reached-rows x free e =
      let (before, to, er) = x.reaches in
      let (post, on, el) = x.lives in
      let (q, by, ef) = x.ends in
      let c = complete_through (task ts i) before post x.at to on in
      let l = inside-before before post x.at in
      let u : Allows (task ts i) (get_or (before ++ (x.at ∷ post)) (length before) 0) x.done = rw (block-before before post x.at) free in
      reached-by (before ++ (x.at ∷ post)) (length before) x.done (0 ∷ q) c l u (refl, by)
      (split_lost before x.at post (0 ∷ q) x.done c l u (refl, by) ∙ meets _ _ _ x.reaching x.live x.ending er el ef e)
    where
      meets : (r' l' f' r l f : List ℕ) → r ≡ r' → l ≡ l' → f ≡ f' → useful_replaced k r l f ≡ pair_number k (task ts i) (task ts j)
          → useful_replaced k r' l' f' ≡ pair_number k (task ts i) (task ts j)
      meets r' l' f' r l f er el ef e = rw (← er, ← el, ← ef) e

  -- ---- rows of paths at the end of an unmasked block

  some-rows : (b : ℕ) → b < length (task ts i) → Rows k (task ts i) (task ts j)
  some-rows b l =
      let ((p, v), (q, w)) = to_and_from (task ts i) b (ok.complete i b hi l) in
      let (f, c, e) = ok.complete j 0 hj (ok.some j hj) in
      record {
        at = b;
        done = length (block (task ts i) b).references;
        reaching = with_references k (empty_row k) (references (task ts i) (0 ∷ p));
        live = first_references k (references (task ts i) q);
        ending = with_references k (empty_row k) (references (task ts j) f);
        reaches = (point_reaches k (task ts i) b (with_references k (empty_row k) (references (task ts i) (0 ∷ p)))).1 (p, v, refl);
        lives = (point_lives k (task ts i) b (first_references k (references (task ts i) q))).1 (q, w, refl);
        ends = reaches_end k (task ts j) f c;
      }

  pub reached : SomeUnmasked (task ts i) → Reached k ts i j
  unfolding some-rows
  reached (b, l, u) = go (pair_is k (task ts i) (task ts j)).attained
    where
      go : (pair_number k (task ts i) (task ts j) ≡ 0)
          ⊎ ((x : Rows k (task ts i) (task ts j)) × Allows (task ts i) x.at x.done × (counted (useful_replaced k) x ≡ pair_number k (task ts i) (task ts j))) → Reached k ts i j
      go (inl z) =
          let x = some-rows b l in
          let free : Allows (task ts i) b (length (block (task ts i) b).references) = (u, done_all_lem (block (task ts i) b).references) in
          reached-rows x free (omega (arith, z, (pair_is k (task ts i) (task ts j)).bound x free))
      go (inr (x, free, e)) = reached-rows x free e

-- ---- a task with no unmasked block

pub none-preempted : (k : Cache) (ts : List Task) (i : ℕ) → (SomeUnmasked (task ts i) → ⊥) → NonePreempted k ts i
none-preempted k ts i none = record {
  numbers = λ j. masked_zero k (task ts i) j none;
  runs = λ r e. no_preemption r r.path r.preemptions e r.complete r.each;
}
  where
    no_preemption : (r : DisturbedRun ts) (path : List ℕ) (xs : List Preemption) → r.p ≡ i → Complete (task ts r.p) path → Each (Preempts ts r.p path) xs → xs ≡ []
    no_preemption r path [] e c h = refl
    no_preemption r path (x ∷ xs) e c h =
        absurd (none (get_or path x.position 0, rw e at (complete-inside (task ts r.p) path x.position c h.0.in_path), rw e at h.0.unmasked))

-- demand 3, whole
pub demand_3 : (k : Cache) (ts : List Task) → Rules ts → Demand3 k ts
demand_3 k ts ok = record {
  bounds = bounded k ts ok;
  reached = λ i j hi hj ne some. reached k ts ok i j hi hj ne some;
  masked = none-preempted k ts;
}
