-- A run's sheet is its own: what Replay answers to the sheet of a run is the run's U, D and lost hits.
-- The idea: a sheet tells its run, number by number; so an accepted sheet of a run has the bounds, and the run fits.
use mathlib.Core.Path.{◌≡◌, refl, ap, ◌∙◌}
use mathlib.Core.List.{List, [], ◌∷◌, ◌++◌}
use Prim.Native.Nat.{ℕ}
use native.Mathlib.Omega.{arith}
use lib.ListN.{length, get_or, drop}
use Rattle.model.specs.Tasks.{task}
use Rattle.model.specs.Runs.{Preemption, count_at_end, lost_at_end}
use Rattle.project.specs.Tasks.{tasks_of, file_cache}
use Rattle.project.proofs.TaskFaults.{Bytes}
use Rattle.sheet.specs.Sheet.{SheetRun, preemption_numbers, sheet_numbers, sheet_run}
use Rattle.replay.proofs.Replays.{replayed}
use Rattle.claims.specs.Demand.{sheet_of, ReplayAnswers}

pub append_split : (a b c d : List ℕ) → length a ≡ length c → a ++ b ≡ c ++ d → (a ≡ c) × (b ≡ d)
append_split [] b [] d e q = (refl, q)
append_split [] b (y ∷ c) d e q = absurd (omega arith)
append_split (x ∷ a) b [] d e q = absurd (omega arith)
append_split (x ∷ a) b (y ∷ c) d e q =
    let (h, t) = append_split a b c d (omega arith) (ap (drop 1) q) in
    let z : x ≡ y = ap (λ l. get_or l 0 0) q in
    (rw (z, h), t)

preemptions_same : (xs ys : List Preemption) → length xs ≡ length ys → preemption_numbers xs ≡ preemption_numbers ys → xs ≡ ys
preemptions_same [] [] e q = refl
preemptions_same [] (y ∷ ys) e q = absurd (omega arith)
preemptions_same (x ∷ xs) [] e q = absurd (omega arith)
preemptions_same (x ∷ xs) (y ∷ ys) e q =
    let a : x.position ≡ y.position = ap (λ l. get_or l 0 0) q in
    let d : x.done ≡ y.done = ap (λ l. get_or l 1 0) q in
    let b : x.by ≡ y.by = ap (λ l. get_or l 2 0) q in
    let c : length x.path ≡ length y.path = ap (λ l. get_or l 3 0) q in
    let (p, r) = append_split x.path (preemption_numbers xs) y.path (preemption_numbers ys) c (ap (drop 4) q) in
    same x y a d b p (preemptions_same xs ys (omega arith) r)
  where
    one : (x y : Preemption) → x.position ≡ y.position → x.done ≡ y.done → x.by ≡ y.by → x.path ≡ y.path → x ≡ y
    one x y a d b p = rw (a, d, b, p)

    same : (x y : Preemption) → x.position ≡ y.position → x.done ≡ y.done → x.by ≡ y.by → x.path ≡ y.path → xs ≡ ys → x ∷ xs ≡ y ∷ ys
    same x y a d b p t = rw (one x y a d b p, t)

-- a sheet is the numbers of one run only
sheet_same : (r q : SheetRun) → sheet_numbers r ≡ sheet_numbers q → (r.p ≡ q.p) × (r.path ≡ q.path) × (r.preemptions ≡ q.preemptions)
sheet_same r q e =
    let c : length r.path ≡ length q.path = ap (λ l. get_or l 1 0) e in
    let (p, rest) = append_split r.path (length r.preemptions ∷ preemption_numbers r.preemptions) q.path (length q.preemptions ∷ preemption_numbers q.preemptions) c (ap (drop 2) e) in
    (ap (λ l. get_or l 0 0) e, p, preemptions_same r.preemptions q.preemptions (ap (λ l. get_or l 0 0) rest) (ap (drop 1) rest))

-- what Replay answers to the sheet of a run is U, D and the lost hits of that run, whichever run it is
pub of_the_run : (s : List ℕ) → Bytes s → ReplayAnswers s
of_the_run s h run u d l e =
    let x = replayed s h (sheet_of s run) u d l e in
    let (a, b, c) = sheet_same (sheet_run (tasks_of s) run) (sheet_run (tasks_of s) x.run) x.sheet_of_lem in (
      x.undisturbed ∙ counts run.p x.run.p run.path x.run.path [] [] a b refl,
      x.disturbed ∙ counts run.p x.run.p run.path x.run.path run.preemptions x.run.preemptions a b c,
      x.lost ∙ losses run.p x.run.p run.path x.run.path run.preemptions x.run.preemptions a b c,
    )
  where
    counts : (p q : ℕ) (path other : List ℕ) (xs ys : List Preemption) → p ≡ q → path ≡ other → xs ≡ ys
        → count_at_end (file_cache s) (tasks_of s) (task (tasks_of s) q) other ys ≡ count_at_end (file_cache s) (tasks_of s) (task (tasks_of s) p) path xs
    counts p q path other xs ys a b c = rw (a, b, c)

    losses : (p q : ℕ) (path other : List ℕ) (xs ys : List Preemption) → p ≡ q → path ≡ other → xs ≡ ys
        → lost_at_end (file_cache s) (tasks_of s) (task (tasks_of s) q) other ys ≡ lost_at_end (file_cache s) (tasks_of s) (task (tasks_of s) p) path xs
    losses p q path other xs ys a b c = rw (a, b, c)
