-- The lost hits are at most the sum of the pair numbers, and D at most U + that sum, for the whole list of preemptions of a disturbed run:
-- `bounded`. For tasks that share nothing, U <= D and D = U + the lost hits: `bounded_apart`.
-- The idea: at each preemption the undisturbed row and the references to come are those of paths at its point, and the foreign row is an end row; so
-- what the preemption costs is at most the pair number, and the event lemmas bound the lost hits and D by the costs.
use mathlib.Core.Path.{◌≡◌, refl, sym, ap, ◌∙◌}
use mathlib.Core.Logic.{◌≢◌}
use mathlib.Core.Bool.{Bool, true, false}
use mathlib.Core.List.{List, [], ◌∷◌}
use Prim.Native.Nat.{ℕ, ◌≤◌, ◌<◌}
use native.Mathlib.Omega.{arith}
use lib.Dec.{eqb}
use lib.ListN.{length, get_or}
use Rattle.cache.specs.References.{Real, All}
use Rattle.cache.specs.Cache.{Cache, Policy, one_line, empty_row, misses}
use Rattle.cache.specs.Sets.{useful_replaced}
use Rattle.cache.proofs.Rows.{length-empty_row}
use Rattle.model.specs.Lists.{mem, Each}
use Rattle.model.specs.Tasks.{Task, block, Done, Allows, Complete, memory_blocks, task, Apart, Rules}
use Rattle.model.specs.Numbers.{Count}
use Rattle.model.specs.Runs.{Preemption, Preempts, NeverFall, DisturbedRun, OnceBy, points, U, D, lost_hits}
use Rattle.model.specs.Computed.{allowed, most_on, pair_number}
use Rattle.model.specs.Demand.{pair_sum, Bounded, BoundedApart}
use Rattle.model.proofs.Membership.{all_in_lem, all_of_lem}
use Rattle.model.proofs.Universe.{references_in_lem}
use Rattle.model.proofs.Paths.{references-each}
use Rattle.model.proofs.Exact.{any-reaches-end}
use Rattle.model.proofs.Policies.{Lawful, one_lawful}
use Rattle.model.proofs.Most.{any-rows_le, allowed_exact}
use Rattle.model.proofs.Events.{Event, own, disturbed, lost, total_on, total, Parts, Clean, EventsApart}
use Rattle.model.proofs.Lost.{lost_same, upper_same}
use Rattle.model.proofs.Disjoint.{disturbed-lost}
use Rattle.model.proofs.Incoming.{weigh, CostsOn, any-total_le, own-run, parts-run}
use Rattle.model.proofs.RunEvents.{position_of, done_of, all_of, run_events, count_events, undisturbed, all_taken}
use Rattle.model.proofs.Hits.{lost_events}

-- ---- what the preemptions of a run cost, by any count

module _ (v : Count) (k : Policy) (law : Lawful k) (ts : List Task) (p : ℕ) where
  abbrev t : Task
  t = task ts p

  abbrev pub number : Preemption → ℕ
  number x = most_on v k t (task ts x.by) (allowed t)

  costs-each : (path : List ℕ) (xs : List Preemption) → Each (Preempts ts p path) xs → Each (CostsOn position_of done_of (all_of ts) v k law t path number) xs
  costs-each path [] h = tt
  costs-each path (x ∷ xs) h = (
    λ e l he hl.
        any-rows_le v k law t (task ts x.by) (Allows t) (allowed t) (allowed_exact t) (get_or path x.position 0) x.done e l _ (h.0.unmasked, h.0.right) he hl
        (any-reaches-end k law (task ts x.by) x.path h.0.complete),
    costs-each path xs h.1,
  )

  -- where a preemption comes, there is a point
  points-each : (path : List ℕ) (xs : List Preemption) → Each (Preempts ts p path) xs
      → Each (λ (x : Preemption). (x.position < length path) × Done (block t (get_or path x.position 0)).references x.done) xs
  points-each path [] h = tt
  points-each path (x ∷ xs) h = ((h.0.in_path, h.0.right), points-each path xs h.1)

  pub any-run-total : (path : List ℕ) (xs : List Preemption) → Each (Preempts ts p path) xs → NeverFall xs → Complete t path
      → total_on v k k.first (run_events ts xs (points t 0 path)) ≤ weigh position_of done_of (all_of ts) number xs
  any-run-total path xs h rising c =
      rw (all_taken t path xs rising (points-each path xs h)) at (any-total_le position_of done_of (all_of ts) v k law t path number xs (costs-each path xs h) c)

-- ---- whose references the events of a run are

module _ (ts : List Task) (p : ℕ) (P Q : ℕ → Type 0) (own-P : (b m : ℕ) → mem eqb m (block (task ts p) b).references ≡ true → P m)
    (foreign-Q : (j : ℕ) → j ≢ p → (b m : ℕ) → mem eqb m (block (task ts j) b).references ≡ true → Q m) where
  foreign_each : (path : List ℕ) (xs : List Preemption) → Each (Preempts ts p path) xs → Each (λ (x : Preemption). All Q (all_of ts x)) xs
  foreign_each path [] h = tt
  foreign_each path (x ∷ xs) h =
      (all_in_lem Q (all_of ts x) (references-each (task ts x.by) Q (foreign-Q x.by h.0.other) x.path), foreign_each path xs h.1)

  parts_all : (path : List ℕ) (xs : List Preemption) → Each (Preempts ts p path) xs → Parts P Q (run_events ts xs (points (task ts p) 0 path))
  parts_all path xs h =
      parts-run position_of done_of (all_of ts) P Q xs (foreign_each path xs h) (task ts p) (λ b. all_in_lem P (block (task ts p) b).references (own-P b)) 0 path

module _ (ts : List Task) (ok : Rules ts) (p : ℕ) where
  pub real-at : (j b m : ℕ) → mem eqb m (block (task ts j) b).references ≡ true → Real m
  real-at j b m e = all_of_lem Real (memory_blocks (task ts j)) (ok.real j) m (references_in_lem (task ts j) b m e)

  -- no reference is the mark for nothing
  pub clean_run : (path : List ℕ) (xs : List Preemption) → Each (Preempts ts p path) xs → Clean (run_events ts xs (points (task ts p) 0 path))
  clean_run path xs h = parts_all ts p Real Real (real-at p) (λ j n. real-at j) path xs h

  module _ (apart : Apart ts) where
    abbrev pub mine : ℕ → Bool
    mine m = mem eqb m (memory_blocks (task ts p))

    foreign : (j : ℕ) → j ≢ p → (m : ℕ) → mem eqb m (memory_blocks (task ts j)) ≡ true → mine m ≡ false
    foreign j n m e = go (mine m) refl
      where
        go : (s : Bool) → mine m ≡ s → s ≡ false
        go true q = absurd (apart j p n (m, e, q))
        go false q = refl

    -- own references are the task's memory blocks, and no foreign reference is
    pub apart_run : (path : List ℕ) (xs : List Preemption) → Each (Preempts ts p path) xs → EventsApart mine (run_events ts xs (points (task ts p) 0 path))
    apart_run path xs h =
        parts_all ts p (λ m. (mine m ≡ true) × Real m) (λ f. (mine f ≡ false) × Real f)
        (λ b m e. (references_in_lem (task ts p) b m e, real-at p b m e))
        (λ j n b m e. (foreign j n m (references_in_lem (task ts j) b m e), real-at j b m e))
        path xs h

-- ---- the bounds

sum_weigh : (k : Cache) (ts : List Task) (p : ℕ) (xs : List Preemption) → weigh position_of done_of (all_of ts) (number (useful_replaced k) (one_line k) (one_lawful k) ts p) xs ≡ pair_sum k ts p xs
sum_weigh k ts p [] = refl
sum_weigh k ts p (x ∷ xs) = omega (arith, sum_weigh k ts p xs)

module _ (k : Cache) (ts : List Task) (ok : Rules ts) (r : DisturbedRun ts) where
  abbrev runs : Task
  runs = task ts r.p

  abbrev events : List Event
  events = run_events ts r.preemptions (points runs 0 r.path)

  is-U : U k r ≡ misses k (empty_row k) (own events)
  is-U = undisturbed k ts runs r.path ∙ sym (ap (misses k (empty_row k)) (own-run position_of done_of (all_of ts) runs r.preemptions 0 r.path))

  is-D : D k r ≡ disturbed k (empty_row k) events
  is-D = count_events k ts runs r.path r.preemptions

  is_lost : lost_hits k r ≡ lost k (empty_row k) (empty_row k) events
  is_lost = lost_events k ts runs r.path r.preemptions

  costs_le : total (useful_replaced k) k (empty_row k) events ≤ pair_sum k ts r.p r.preemptions
  costs_le = omega (arith, any-run-total (useful_replaced k) (one_line k) (one_lawful k) ts r.p r.path r.preemptions r.each r.rising r.complete, sum_weigh k ts r.p r.preemptions)

  pub bounded : Bounded k ts r
  bounded =
      let clean = clean_run ts ok r.p r.path r.preemptions r.each in
      record {
        lost = omega (arith, is_lost, lost_same k events (empty_row k) (length-empty_row k) clean, costs_le);
        upper = omega (arith, is-U, is-D, upper_same k events (empty_row k) (length-empty_row k) clean, costs_le);
      }

  pub bounded_apart : Apart ts → BoundedApart k ts r
  bounded_apart apart =
      let e = disturbed-lost k (mine ts ok r.p apart) events (empty_row k) (length-empty_row k) (apart_run ts ok r.p apart r.path r.preemptions r.each) in
      record { lower = omega (arith, is-U, is-D, e); equal = omega (arith, is-U, is-D, is_lost, e) }

-- a run with exactly one preemption loses at most its number
pub once_le : (k : Cache) (ts : List Task) → Rules ts → (r : DisturbedRun ts) (i j : ℕ) → r.p ≡ i → OnceBy j r.preemptions
    → lost_hits k r ≤ pair_number k (task ts i) (task ts j)
once_le k ts ok r i j p (x, one, by) = omega (arith, (bounded k ts ok r).lost, sum_one r.p r.preemptions p one)
  where
    sum_one : (q : ℕ) (xs : List Preemption) → q ≡ i → xs ≡ x ∷ [] → pair_sum k ts q xs ≡ pair_number k (task ts i) (task ts j)
    sum_one q xs z o = rw (z, o, by) (omega arith)
