-- A disturbed run as a list of events: U and D are counts over the events, and each preemption takes place, in list order.
-- Each is an induction on the points of the path or on the list of preemptions.
use mathlib.Core.Path.{◌≡◌, refl, sym, ap, ◌∙◌}
use mathlib.Core.Logic.{◌⊎◌, inl, inr}
use mathlib.Core.Bool.{not}
use mathlib.Core.List.{List, [], ◌∷◌, ◌++◌, append_assoc}
use Prim.Native.Nat.{ℕ, zero, suc, ◌+◌, ◌≤◌, ◌<◌}
use native.Mathlib.Nat.{add-zero}
use native.Mathlib.Omega.{arith}
use lib.ListN.{length, get_or, take, drop}
use borrow.Author.Tests.{eq-eqb}
use Rattle.cache.specs.Sum.{bit}
use Rattle.cache.specs.Cache.{Cache, Policy, one_line, empty_row, refer_all, with_references, misses_on, misses}
use Rattle.model.specs.Lists.{Each}
use Rattle.model.specs.Tasks.{Task, block, Done, references, task}
use Rattle.model.specs.Runs.{Preemption, NeverFall, Point, points_from, block_points, points, RowCount, at_first_on, own_references_on, preempted_on, preempted_by_on, with_point, after_point_on, run_on, count_at_end_on, own_references, count_at_end}
use Rattle.model.proofs.Events.{Event, Preempt, refs, disturbed_on, disturbed}
use Rattle.model.proofs.Taken.{Before, before_differs, after_differs, taken, InOrder, taken_all}
use Rattle.model.proofs.Incoming.{refs_join, comings, events_of, run-quiet}

-- ---- the events of a run

-- the point of a preemption, and the references that it makes
abbrev pub position_of : Preemption → ℕ
position_of x = x.position

abbrev pub done_of : Preemption → ℕ
done_of x = x.done

abbrev pub all_of : List Task → Preemption → List ℕ
all_of ts x = references (task ts x.by) x.path

-- preemptions in list order, and then the events es
abbrev pub preempts : List Task → List Preemption → List Event → List Event
preempts ts xs es = comings position_of done_of (all_of ts) xs es

-- the events at some points of the path
abbrev pub run_events : List Task → List Preemption → List Point → List Event
run_events ts xs ps = events_of position_of done_of (all_of ts) xs ps

-- ---- the count of a run is the count over its events

module _ (k : Policy) (ts : List Task) where
  own-count : (ms : List ℕ) (s : RowCount) (es : List Event)
      → (own_references_on k s ms).count + disturbed_on k (own_references_on k s ms).row es ≡ s.count + disturbed_on k s.row (refs ms es)
  own-count [] s es = refl
  own-count (m ∷ ms) s es =
      omega (arith, own-count ms (record { row = k.refer s.row m; count = s.count + bit (not (k.found s.row m)) }) es)

  preempted-count : (xs : List Preemption) (s : RowCount) (es : List Event)
      → (preempted_by_on k ts s xs).count + disturbed_on k (preempted_by_on k ts s xs).row es ≡ s.count + disturbed_on k s.row (preempts ts xs es)
  preempted-count [] s es = refl
  preempted-count (x ∷ xs) s es = preempted-count xs (preempted_on k ts s x) es

  run-count : (xs : List Preemption) (ps : List Point) (s : RowCount) → (run_on k ts xs s ps).count ≡ s.count + disturbed_on k s.row (run_events ts xs ps)
  run-count xs [] s = omega arith
  run-count xs (p ∷ ps) s =
      run-count xs ps (after_point_on k ts xs s p)
      ∙ preempted-count (with_point p.position p.done xs) (own_references_on k s p.reference) (run_events ts xs ps)
      ∙ own-count p.reference s (preempts ts (with_point p.position p.done xs) (run_events ts xs ps))

  -- D, and U with the empty list
  pub any-count_events : (t : Task) (path : List ℕ) (xs : List Preemption) → count_at_end_on k ts t path xs ≡ disturbed_on k k.first (run_events ts xs (points t 0 path))
  any-count_events t path xs = omega (arith, run-count xs (points t 0 path) (at_first_on k))

  pub refs_misses : (ms d : List ℕ) (es : List Event) → disturbed_on k d (refs ms es) ≡ misses_on k d ms + disturbed_on k (refer_all k d ms) es
  refs_misses [] d es = omega arith
  refs_misses (m ∷ ms) d es = omega (arith, refs_misses ms (k.refer d m) es)

-- what own references leave in the row
pub any-own-row : (k : Policy) (s : RowCount) (ms : List ℕ) → (own_references_on k s ms).row ≡ refer_all k s.row ms
any-own-row k s [] = refl
any-own-row k s (m ∷ ms) = any-own-row k (record { row = k.refer s.row m; count = s.count + bit (not (k.found s.row m)) }) ms

-- U is the misses of the path's references
pub any-undisturbed : (k : Policy) (ts : List Task) (t : Task) (path : List ℕ) → count_at_end_on k ts t path [] ≡ misses_on k k.first (references t path)
any-undisturbed k ts t path =
    any-count_events k ts t path [] ∙ ap (disturbed_on k k.first) (run-quiet position_of done_of (all_of ts) t 0 path)
    ∙ omega (arith, refs_misses k ts (references t path) k.first [])

-- ---- document 01's cache

pub count_events : (k : Cache) (ts : List Task) (t : Task) (path : List ℕ) (xs : List Preemption)
    → count_at_end k ts t path xs ≡ disturbed k (empty_row k) (run_events ts xs (points t 0 path))
count_events k = any-count_events (one_line k)

pub own_row : (k : Cache) (s : RowCount) (ms : List ℕ) → (own_references k s ms).row ≡ with_references k s.row ms
own_row k = any-own-row (one_line k)

pub undisturbed : (k : Cache) (ts : List Task) (t : Task) (path : List ℕ) → count_at_end k ts t path [] ≡ misses k (empty_row k) (references t path)
undisturbed k = any-undisturbed (one_line k)

-- ---- a run with one preemption

module _ (ts : List Task) (t : Task) (x : Preemption) where
  abbrev foreign : Event
  foreign = Preempt (all_of ts x)

  -- references at another position, or after the point
  quiet-from : (i d : ℕ) (ms : List ℕ) (rest : List Point) → ((e : ℕ) → d < e → Before i e x.position x.done ⊎ Before x.position x.done i e)
      → run_events ts (x ∷ []) (points_from i d ms ++ rest) ≡ refs ms (run_events ts (x ∷ []) rest)
  quiet-from i d [] rest h = refl
  quiet-from i d (m ∷ ms) rest h = go (h (suc d) (omega arith)) (quiet-from i (suc d) ms rest (λ e l. h e (omega arith)))
    where
      go : Before i (suc d) x.position x.done ⊎ Before x.position x.done i (suc d)
          → run_events ts (x ∷ []) (points_from i (suc d) ms ++ rest) ≡ refs ms (run_events ts (x ∷ []) rest)
          → run_events ts (x ∷ []) (points_from i d (m ∷ ms) ++ rest) ≡ refs (m ∷ ms) (run_events ts (x ∷ []) rest)
      go (inl a) ih = rw (after_differs x.position x.done i (suc d) a, ih)
      go (inr a) ih = rw (before_differs x.position x.done i (suc d) a, ih)

  quiet-block : (i : ℕ) (ms : List ℕ) (rest : List Point) → (x.position < i) ⊎ (i < x.position) → run_events ts (x ∷ []) (block_points i ms ++ rest) ≡ refs ms (run_events ts (x ∷ []) rest)
  quiet-block i [] rest (inl l) = rw (before_differs x.position x.done i 0 (inl l))
  quiet-block i [] rest (inr l) = rw (after_differs x.position x.done i 0 (inl l))
  quiet-block i (m ∷ ms) rest (inl l) = quiet-from i 0 (m ∷ ms) rest (λ e p. inr (inl l))
  quiet-block i (m ∷ ms) rest (inr l) = quiet-from i 0 (m ∷ ms) rest (λ e p. inl (inl l))

  -- the path goes on after the point
  past : (i : ℕ) (p : List ℕ) → x.position < i → run_events ts (x ∷ []) (points t i p) ≡ refs (references t p) []
  past i [] h = refl
  past i (b ∷ p) h =
      quiet-block i (block t b).references (points t (suc i) p) (inl h) ∙ ap (refs (block t b).references) (past (suc i) p (omega arith))
      ∙ sym (refs_join (block t b).references (references t p) [])

  one_from : (i d c : ℕ) (ms : List ℕ) (rest : List Point) → x.position ≡ i → x.done ≡ d + suc c → suc c ≤ length ms
      → run_events ts (x ∷ []) (points_from i d ms ++ rest) ≡ refs (take (suc c) ms) (foreign ∷ refs (drop (suc c) ms) (run_events ts (x ∷ []) rest))
  one_from i d c [] rest p e l = absurd (omega arith)
  one_from i d zero (m ∷ ms) rest p e l =
      rw (eq-eqb x.position i p, eq-eqb x.done (suc d) (omega arith), quiet-from i (suc d) ms rest (λ q h. inr (inr (p, omega arith))))
  one_from i d (suc c) (m ∷ ms) rest p e l =
      rw (after_differs x.position x.done i (suc d) (inr (sym p, omega arith)), one_from i (suc d) c ms rest p (omega arith) (omega arith))

  one_block : (i : ℕ) (ms : List ℕ) (rest : List Point) → x.position ≡ i → Done ms x.done
      → run_events ts (x ∷ []) (block_points i ms ++ rest) ≡ refs (take x.done ms) (foreign ∷ refs (drop x.done ms) (run_events ts (x ∷ []) rest))
  one_block i [] rest p h = go x.done h h
    where
      go : (d : ℕ) → x.done ≡ 0 → d ≡ 0
          → run_events ts (x ∷ []) (block_points i [] ++ rest) ≡ refs (take d []) (foreign ∷ refs (drop d []) (run_events ts (x ∷ []) rest))
      go zero e q = rw (eq-eqb x.position i p, eq-eqb x.done 0 e)
      go (suc d) e q = absurd (omega arith)
  one_block i (m ∷ ms) rest p h = go x.done refl h.0 h.1
    where
      go : (d : ℕ) → x.done ≡ d → 1 ≤ d → d ≤ length (m ∷ ms)
          → run_events ts (x ∷ []) (points_from i 0 (m ∷ ms) ++ rest) ≡ refs (take d (m ∷ ms)) (foreign ∷ refs (drop d (m ∷ ms)) (run_events ts (x ∷ []) rest))
      go zero e l u = absurd (omega arith)
      go (suc c) e l u = one_from i 0 c (m ∷ ms) rest p (omega arith) u

  -- the references up to the point, the preemption, and the rest
  pub run-once : (i b : ℕ) (pre post : List ℕ) → x.position ≡ i + length pre → Done (block t b).references x.done
      → run_events ts (x ∷ []) (points t i (pre ++ (b ∷ post)))
      ≡ refs (references t pre ++ take x.done (block t b).references) (foreign ∷ refs (drop x.done (block t b).references ++ references t post) [])
  run-once i b [] post p h =
      one_block i (block t b).references (points t (suc i) post) (p ∙ add-zero i) h
      ∙ ap (λ (es : List Event). refs (take x.done (block t b).references) (foreign ∷ refs (drop x.done (block t b).references) es)) (past (suc i) post (omega arith))
      ∙ ap (λ (es : List Event). refs (take x.done (block t b).references) (foreign ∷ es)) (sym (refs_join (drop x.done (block t b).references) (references t post) []))
  run-once i b (c ∷ pre) post p h =
      quiet-block i (block t c).references (points t (suc i) (pre ++ (b ∷ post))) (inr (omega arith))
      ∙ ap (refs (block t c).references) (run-once (suc i) b pre post (omega arith) h)
      ∙ sym (refs_join (block t c).references (references t pre ++ take x.done (block t b).references) _)
      ∙ ap (λ (l : List ℕ). refs l (foreign ∷ refs (drop x.done (block t b).references ++ references t post) [])) (sym (append_assoc (block t c).references (references t pre) (take x.done (block t b).references)))

-- ---- every preemption takes place, in list order

in_order : (xs : List Preemption) → NeverFall xs → InOrder position_of done_of xs
in_order [] h = tt
in_order (x ∷ []) h = tt
in_order (x ∷ y ∷ xs) h = (h.0, in_order (y ∷ xs) h.1)

-- no preemption is dropped, and none is taken out of turn
pub all_taken : (t : Task) (path : List ℕ) (xs : List Preemption) → NeverFall xs
    → Each (λ (x : Preemption). (x.position < length path) × Done (block t (get_or path x.position 0)).references x.done) xs
    → taken position_of done_of xs (points t 0 path) ≡ xs
all_taken t path xs h e = taken_all position_of done_of t path xs (in_order xs h) e
