-- The lists of hits of a run: U and D are their misses, both have a place for each own reference, and the lost hits are those of the run's events.
-- Each is an induction on the references, on the list of preemptions or on the points of the path.
use mathlib.Core.Path.{◌≡◌, refl, sym, ap, ap₂, ◌∙◌}
use mathlib.Core.Bool.{Bool, true, false, not, ◌&&◌}
use mathlib.Core.List.{List, [], ◌∷◌, ◌++◌}
use Prim.Native.Nat.{ℕ, ◌+◌}
use native.Mathlib.Omega.{arith}
use lib.ListN.{length, length-append}
use Rattle.cache.specs.Sum.{bit}
use Rattle.cache.specs.Cache.{Cache, empty_row, hits, with_reference, with_references}
use Rattle.model.specs.Tasks.{Task, references}
use Rattle.model.specs.Runs.{Preemption, Point, points, RowCount, at_first, own_references, preempted, preempted_by, with_point, after_point, run, count_at_end, hits_of, hits_from, own_hits, lost_of, misses_in, lost_at_end}
use Rattle.model.proofs.Events.{Event, own, refs, lost}
use Rattle.model.proofs.Lost.{own_refs}
use Rattle.model.proofs.Incoming.{own-run}
use Rattle.model.proofs.RunEvents.{position_of, done_of, all_of, preempts, run_events, own_row}

module _ (k : Cache) (ts : List Task) where
  misses-own : (ms : List ℕ) (s : RowCount) (hs : List Bool) → (own_references k s ms).count + misses_in hs ≡ s.count + misses_in (hits_of k s.row ms ++ hs)
  misses-own [] s hs = refl
  misses-own (m ∷ ms) s hs =
      omega (arith, misses-own ms (record { row = with_reference k s.row m; count = s.count + bit (not (hits k s.row m)) }) hs)

  preempted_keeps : (xs : List Preemption) (s : RowCount) → (preempted_by k ts s xs).count ≡ s.count
  preempted_keeps [] s = refl
  preempted_keeps (x ∷ xs) s = preempted_keeps xs (preempted k ts s x)

  misses-from : (xs : List Preemption) (ps : List Point) (s : RowCount) → (run k ts xs s ps).count ≡ s.count + misses_in (hits_from k ts xs s ps)
  misses-from xs [] s = omega arith
  misses-from xs (p ∷ ps) s =
      let own = own_references k s p.reference in
      let next = after_point k ts xs s p in
      omega (
        arith,
        misses-from xs ps next,
        preempted_keeps (with_point p.position p.done xs) own,
        misses-own p.reference s (hits_from k ts xs next ps),
      )

  -- D is the misses of its list of hits, and so is U with the empty list
  pub misses_of_hits : (t : Task) (path : List ℕ) (xs : List Preemption) → count_at_end k ts t path xs ≡ misses_in (own_hits k ts t path xs)
  misses_of_hits t path xs = omega (arith, misses-from xs (points t 0 path) (at_first k))

  hits_of-long : (ms row : List ℕ) → length (hits_of k row ms) ≡ length ms
  hits_of-long [] row = refl
  hits_of-long (m ∷ ms) row = rw (hits_of-long ms (with_reference k row m))

  hits-from-long : (xs : List Preemption) (ps : List Point) (s : RowCount) → length (hits_from k ts xs s ps) ≡ length (own (run_events ts xs ps))
  hits-from-long xs [] s = refl
  hits-from-long xs (p ∷ ps) s =
      let ys = with_point p.position p.done xs in
      length-append (hits_of k s.row p.reference) (hits_from k ts xs (after_point k ts xs s p) ps)
      ∙ ap₂ (λ (x y : ℕ). x + y) (hits_of-long p.reference s.row) (hits-from-long xs ps (after_point k ts xs s p))
      ∙ sym (ap length (own_refs p.reference (preempts ts ys (run_events ts xs ps)) ∙ ap (λ (l : List ℕ). p.reference ++ l) (own_preempts ys (run_events ts xs ps)))
      ∙ length-append p.reference (own (run_events ts xs ps)))
    where
      own_preempts : (ys : List Preemption) (es : List Event) → own (preempts ts ys es) ≡ own es
      own_preempts [] es = refl
      own_preempts (y ∷ ys) es = own_preempts ys es

  -- both lists have a place for each own reference
  pub hits-long : (t : Task) (path : List ℕ) (xs : List Preemption) → length (own_hits k ts t path xs) ≡ length (references t path)
  hits-long t path xs = hits-from-long xs (points t 0 path) (at_first k) ∙ ap length (own-run position_of done_of (all_of ts) t xs 0 path)

  -- ---- the lost hits over the events

  lost-own : (ms u d : List ℕ) (es : List Event) (before after : List Bool) → lost_of before after ≡ lost k (with_references k d ms) (with_references k u ms) es
      → lost_of (hits_of k u ms ++ before) (hits_of k d ms ++ after) ≡ lost k d u (refs ms es)
  lost-own [] u d es before after e = e
  lost-own (m ∷ ms) u d es before after e =
      ap (λ (x : ℕ). bit (hits k u m && not (hits k d m)) + x) (lost-own ms (with_reference k u m) (with_reference k d m) es before after e)

  lost_preempts : (xs : List Preemption) (s : RowCount) (u : List ℕ) (es : List Event) → lost k (preempted_by k ts s xs).row u es ≡ lost k s.row u (preempts ts xs es)
  lost_preempts [] s u es = refl
  lost_preempts (x ∷ xs) s u es = lost_preempts xs (preempted k ts s x) u es

  lost-from : (xs : List Preemption) (ps : List Point) (u d : RowCount)
      → lost_of (hits_from k ts [] u ps) (hits_from k ts xs d ps) ≡ lost k d.row u.row (run_events ts xs ps)
  lost-from xs [] u d = refl
  lost-from xs (p ∷ ps) u d =
      let ms = p.reference in
      let ys = with_point p.position p.done xs in
      let own-d = own_references k d ms in
      let es = run_events ts xs ps in
      lost-own ms u.row d.row (preempts ts ys es) _ _
      (lost-from xs ps (own_references k u ms) (preempted_by k ts own-d ys)
      ∙ lost_preempts ys own-d (own_references k u ms).row es
      ∙ ap₂ (λ (x y : List ℕ). lost k x y (preempts ts ys es)) (own_row k d ms) (own_row k u ms))

  pub lost_events : (t : Task) (path : List ℕ) (xs : List Preemption) → lost_at_end k ts t path xs ≡ lost k (empty_row k) (empty_row k) (run_events ts xs (points t 0 path))
  lost_events t path xs = lost-from xs (points t 0 path) (at_first k) (at_first k)

-- the same list against itself
pub none-lost : (hs : List Bool) → lost_of hs hs ≡ 0
none-lost [] = refl
none-lost (true ∷ hs) = omega (arith, none-lost hs)
none-lost (false ∷ hs) = omega (arith, none-lost hs)
