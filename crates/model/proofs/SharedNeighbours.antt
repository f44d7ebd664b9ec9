-- Document 02, Point 5: statements next to its claims that are false for tasks that share memory blocks, each with the run that refutes it:
-- "U <= D", "D - U reaches the number", and document 01's count.
use mathlib.Core.Path.{◌≡◌, refl, ◌∙◌}
use mathlib.Core.Bool.{false≢true}
use mathlib.Core.List.{List, [], ◌∷◌}
use Prim.Native.Nat.{ℕ, zero, suc, ◌+◌, ◌≤◌, ◌<◌}
use native.Mathlib.Omega.{arith}
use lib.ListN.{get_or}
use Rattle.cache.specs.References.{nothing}
use Rattle.cache.specs.Cache.{direct}
use Rattle.model.specs.Lists.{Each}
use Rattle.model.specs.Tasks.{Task, block, Done, PathFrom, stay, step, Complete, task, Rules}
use Rattle.model.specs.Runs.{Preemption, Preempts, DisturbedRun, OnceBy, count_at_end, lost_at_end, U, D, lost_hits}
use Rattle.model.specs.Computed.{pair_number, used_number}
use Rattle.model.specs.Figures.{tasks_gain, tasks_both, tasks_same}
use Rattle.model.proofs.Membership.{one-is}
use Rattle.model.proofs.Bounds.{once_le}
use Rattle.model.proofs.Examples.{by_task1}
use Rattle.model.proofs.Neighbours.{rules_two, one-complete}

-- ---- U <= D

abbrev pub gains : DisturbedRun tasks_gain
gains = record {
  p = 0;
  path = 0 ∷ 1 ∷ [];
  preemptions = by_task1 0 0 ∷ [];
  there = omega arith;
  complete = (refl, step {b = 0} refl (stay {b = 1} (omega arith)));
  each = (record { in_path = omega arith; right = refl; there = omega arith; other = λ e. omega arith; unmasked = refl; complete = (refl, stay {b = 0} (omega arith)) }, tt);
  rising = tt;
}

pub gains_counts : (U (direct 1) gains ≡ 1) × (D (direct 1) gains ≡ 0) × (lost_hits (direct 1) gains ≡ 0)
unfolding nothing
gains_counts = (refl, refl, refl)

pub not-U-le_D : ((ts : List Task) (r : DisturbedRun ts) → U (direct 1) r ≤ D (direct 1) r) → ⊥
not-U-le_D h = omega (arith, h tasks_gain gains, gains_counts)

-- ---- D - U reaches the number

number-both : pair_number (direct 2) (task tasks_both 0) (task tasks_both 1) ≡ 1
unfolding nothing
number-both = refl

-- the runs of task 0 with one preemption by task 1: after the reference of block 0, and after each of block 1
abbrev count_both : List Preemption → ℕ
count_both xs = count_at_end (direct 2) tasks_both (task tasks_both 0) (0 ∷ 1 ∷ []) xs

pub counts_both : (count_both [] ≡ 2) × (count_both (by_task1 0 1 ∷ []) ≡ 2) × (count_both (by_task1 1 1 ∷ []) ≡ 1) × (count_both (by_task1 1 2 ∷ []) ≡ 2)
    × (lost_at_end (direct 2) tasks_both (task tasks_both 0) (0 ∷ 1 ∷ []) (by_task1 0 1 ∷ []) ≡ 1)
unfolding nothing
counts_both = (refl, refl, refl, refl, refl)

-- block 1 leads nowhere, and block 0 to block 1 alone
from_1 : {p : List ℕ} {e : ℕ} → PathFrom (task tasks_both 0) 1 p e → p ≡ []
from_1 (stay l) = refl
from_1 (step m w) = absurd (false≢true m)

from_0 : {b : ℕ} {p : List ℕ} {e : ℕ} → b ≡ 0 → e ≡ 1 → PathFrom (task tasks_both 0) b p e → p ≡ 1 ∷ []
from_0 z e (stay l) = absurd (omega arith)
from_0 z e (step {c = c} m w) = on c (one-is c 1 (rw z at m)) w
  where
    on : (c : ℕ) {p : List ℕ} {e : ℕ} → c ≡ 1 → PathFrom (task tasks_both 0) c p e → c ∷ p ≡ 1 ∷ []
    on c q w = rw (q, from_1 (rw q at w))

-- so there is one complete path of each task
only_path : (path : List ℕ) → Complete (task tasks_both 0) path → path ≡ 0 ∷ 1 ∷ []
only_path [] f = absurd f
only_path (b ∷ p) (z, w) = rw (z, from_0 z refl w)

other_path : (path : List ℕ) → Complete (task tasks_both 1) path → path ≡ 0 ∷ []
other_path [] f = absurd f
other_path (b ∷ p) (z, w) = rw (z, alone z w)
  where
    alone : {b e : ℕ} {p : List ℕ} → b ≡ 0 → PathFrom (task tasks_both 1) b p e → p ≡ []
    alone z (stay l) = refl
    alone z (step m w) = absurd (false≢true (rw z at m))

-- no run of task 0 with exactly one preemption, by task 1, has D = U + the number
pub both-never : (r : DisturbedRun tasks_both) → r.p ≡ 0 → OnceBy 1 r.preemptions → D (direct 2) r ≡ U (direct 2) r + pair_number (direct 2) (task tasks_both 0) (task tasks_both 1) → ⊥
both-never r z (x, one, by) e = go r.p r.path r.preemptions z one r.complete r.each e
  where
    at : (position done : ℕ) → position < 2 → Done (block (task tasks_both 0) (get_or (0 ∷ 1 ∷ []) position 0)).references done → count_both (by_task1 position done ∷ []) ≤ 2
    at zero zero l h = absurd (omega (arith, h.0))
    at zero (suc zero) l h = omega (arith, counts_both)
    at zero (suc (suc done)) l h = absurd (omega (arith, h.1))
    at (suc zero) zero l h = absurd (omega (arith, h.0))
    at (suc zero) (suc zero) l h = omega (arith, counts_both)
    at (suc zero) (suc (suc zero)) l h = omega (arith, counts_both)
    at (suc zero) (suc (suc (suc done))) l h = absurd (omega (arith, h.1))
    at (suc (suc position)) done l h = absurd (omega arith)

    once : (x : Preemption) → x.by ≡ 1 → x.path ≡ 0 ∷ [] → x ≡ by_task1 x.position x.done
    once x b q = rw (b, q)

    go : (p : ℕ) (path : List ℕ) (xs : List Preemption) → p ≡ 0 → xs ≡ x ∷ [] → Complete (task tasks_both p) path → Each (Preempts tasks_both p path) xs
        → count_at_end (direct 2) tasks_both (task tasks_both p) path xs
        ≡ count_at_end (direct 2) tasks_both (task tasks_both p) path [] + pair_number (direct 2) (task tasks_both 0) (task tasks_both 1) → ⊥
    go p path xs z o c h e =
        let c0 : Complete (task tasks_both 0) path = rw z at c in
        let there = only_path path c0 in
        let (pre, none) = rw o at h in
        let q = other_path x.path (rw by at pre.complete) in
        let in_path_lem : x.position < 2 = rw there at pre.in_path in
        let right : Done (block (task tasks_both 0) (get_or (0 ∷ 1 ∷ []) x.position 0)).references x.done = rw (z, there) at pre.right in
        let is : xs ≡ by_task1 x.position x.done ∷ [] = o ∙ rw (once x by q) in
        omega (arith, rw (z, there, is) at e, at x.position x.done in_path_lem right, counts_both.0, number-both)

-- ---- document 01's count

same_numbers : (used_number (direct 1) (task tasks_same 0) (task tasks_same 1) ≡ 1) × (pair_number (direct 1) (task tasks_same 0) (task tasks_same 1) ≡ 0)
unfolding nothing
same_numbers = (refl, refl)

rules_same : Rules tasks_same
unfolding nothing
rules_same =
    rules_two (task tasks_same 0) (task tasks_same 1) (omega arith) (omega arith) (one-complete (task tasks_same 0) refl) (one-complete (task tasks_same 1) refl)
    (λ e. omega arith, tt) (λ e. omega arith, tt)

-- no run of task 0 with exactly one preemption, by task 1, loses the hit that it counts
pub not-used-number : (r : DisturbedRun tasks_same) → r.p ≡ 0 → OnceBy 1 r.preemptions → lost_hits (direct 1) r ≡ used_number (direct 1) (task tasks_same 0) (task tasks_same 1) → ⊥
not-used-number r z one e = omega (arith, e, same_numbers, once_le (direct 1) tasks_same rules_same r 0 1 z one)
