-- Both runs over the events of a run: their counts at the end are U, D and the lost hits of the definitions.
-- Each is an induction on the events.
use mathlib.Core.Path.{◌≡◌, refl, ap}
use mathlib.Core.List.{List, [], ◌∷◌}
use Prim.Native.Nat.{ℕ, ◌+◌}
use native.Mathlib.Omega.{arith}
use Rattle.cache.specs.Cache.{Cache, empty_row, misses}
use Rattle.model.specs.Tasks.{Task}
use Rattle.model.specs.Runs.{Preemption, points, count_at_end, lost_at_end}
use Rattle.model.proofs.Events.{Event, Ref, Preempt, own, refs, disturbed, lost}
use Rattle.model.proofs.Incoming.{own-run}
use Rattle.model.proofs.RunEvents.{position_of, done_of, all_of, run_events, count_events, undisturbed}
use Rattle.model.proofs.Hits.{lost_events}
use Rattle.runs.specs.Running.{Both, both_first, with_both, own_both, preempted_both}

-- both runs after the events
abbrev pub both_events : Cache → Both → List Event → Both
both_events k s [] = s
both_events k s (Ref m ∷ es) = both_events k (with_both k s m) es
both_events k s (Preempt fs ∷ es) = both_events k (preempted_both k s fs) es

module _ (k : Cache) where
  -- own references first
  pub events_refs : (ms : List ℕ) (s : Both) (es : List Event) → both_events k s (refs ms es) ≡ both_events k (own_both k s ms) es
  events_refs [] s es = refl
  events_refs (m ∷ ms) s es = events_refs ms (with_both k s m) es

  -- ---- the three counts

  undisturbed-count : (es : List Event) (s : Both) → (both_events k s es).undisturbed.count ≡ s.undisturbed.count + misses k s.undisturbed.row (own es)
  undisturbed-count [] s = omega arith
  undisturbed-count (Ref m ∷ es) s = omega (arith, undisturbed-count es (with_both k s m))
  undisturbed-count (Preempt fs ∷ es) s = undisturbed-count es (preempted_both k s fs)

  disturbed-count : (es : List Event) (s : Both) → (both_events k s es).disturbed.count ≡ s.disturbed.count + disturbed k s.disturbed.row es
  disturbed-count [] s = omega arith
  disturbed-count (Ref m ∷ es) s = omega (arith, disturbed-count es (with_both k s m))
  disturbed-count (Preempt fs ∷ es) s = disturbed-count es (preempted_both k s fs)

  lost-count : (es : List Event) (s : Both) → (both_events k s es).lost ≡ s.lost + lost k s.disturbed.row s.undisturbed.row es
  lost-count [] s = omega arith
  lost-count (Ref m ∷ es) s = omega (arith, lost-count es (with_both k s m))
  lost-count (Preempt fs ∷ es) s = lost-count es (preempted_both k s fs)

  module _ (ts : List Task) (t : Task) (path : List ℕ) (xs : List Preemption) where
    -- both runs at the end
    abbrev at-end : Both
    at-end = both_events k (both_first k) (run_events ts xs (points t 0 path))

    pub end-undisturbed : at-end.undisturbed.count ≡ count_at_end k ts t path []
    end-undisturbed =
        omega (arith, undisturbed-count (run_events ts xs (points t 0 path)) (both_first k), ap (misses k (empty_row k)) (own-run position_of done_of (all_of ts) t xs 0 path), undisturbed k ts t path)

    pub end-disturbed : at-end.disturbed.count ≡ count_at_end k ts t path xs
    end-disturbed = omega (arith, disturbed-count (run_events ts xs (points t 0 path)) (both_first k), count_events k ts t path xs)

    pub end-lost : at-end.lost ≡ lost_at_end k ts t path xs
    end-lost = omega (arith, lost-count (run_events ts xs (points t 0 path)) (both_first k), lost_events k ts t path xs)
