-- Interruptions of interruptions: from whatever row, the total misses are at most the sum of each run's misses alone and of its pair numbers against the
-- runs around it, `nested_bounded`.
-- The idea: one run at a time, by the event lemmas of Lost and Incoming; what comes in costs at most what its runs cost one by one (Woven, `union`).
use mathlib.Core.Path.{◌≡◌, refl}
use mathlib.Core.Bool.{not, ◌&&◌}
use mathlib.Core.List.{List, [], ◌∷◌, ◌++◌}
use Prim.Native.Nat.{ℕ, suc, ◌+◌, ◌≤◌, ◌<◌}
use native.Mathlib.Omega.{arith}
use lib.Dec.{eqb}
use lib.ListN.{length, get_or, take, drop}
use Rattle.cache.specs.Sum.{bit}
use Rattle.cache.specs.References.{nothing, Real, All}
use Rattle.cache.specs.Cache.{Cache, held, empty_row, with_references, misses}
use Rattle.cache.specs.Firsts.{firsts_over}
use Rattle.cache.specs.Sets.{useful, useful_replaced}
use Rattle.cache.proofs.Rows.{length-empty_row}
use Rattle.model.specs.Lists.{Each}
use Rattle.model.specs.Tasks.{Task, block, end, Done, Allows, Complete, references, task, Rules}
use Rattle.model.specs.States.{Reaches}
use Rattle.model.specs.Runs.{Point, points_from, block_points, points}
use Rattle.model.specs.Computed.{allowed, pair_number}
use Rattle.model.specs.Nested.{RunList, no_run, a_run, Coming, woven, comings_of, alone, against, runs_bound, RiseFrom, RunsIn, NestedRun, NestedBounded}
use Rattle.model.proofs.Membership.{all_in_lem}
use Rattle.model.proofs.Exact.{reaches_end}
use Rattle.model.proofs.Most.{rows_le, allowed_exact}
use Rattle.model.proofs.Events.{Clean}
use Rattle.model.proofs.Lost.{upper-from_empty}
use Rattle.model.proofs.Taken.{InOrder, taken_all}
use Rattle.model.proofs.Incoming.{Costs, own-run, parts-run, total_le}
use Rattle.model.proofs.Bounds.{real-at}
use Rattle.model.proofs.Woven.{position_of, done_of, references_of, events, taken_of, sum_over, Misses, misses-woven, at-points, RealPoints, RealComings, real-woven, cost_of, union}

-- ---- sums over all runs of a list, at every depth

module _ (k : Cache) (ts : List Task) where
  -- a number for the task of each run, summed
  abbrev pub sum_by : (ℕ → ℕ) → RunList → ℕ
  sum_by q no_run = 0
  sum_by q (a_run i d by path own rest) = (q by + sum_by q own) + sum_by q rest

  -- the pair numbers of the task i against all runs
  abbrev pub cost_to : ℕ → RunList → ℕ
  cost_to i xs = sum_by (λ (j : ℕ). pair_number k (task ts i) (task ts j)) xs

  -- each run's misses alone, and its pair numbers against all runs within it
  abbrev pub weights : RunList → ℕ
  weights no_run = 0
  weights (a_run i d by path own rest) = (alone k ts by path + cost_to by own + weights own) + weights rest

  abbrev cost_to_each : List ℕ → RunList → ℕ
  cost_to_each [] xs = 0
  cost_to_each (i ∷ around) xs = cost_to i xs + cost_to_each around xs

  none_each : (around : List ℕ) → cost_to_each around no_run ≡ 0
  none_each [] = refl
  none_each (i ∷ around) = omega (arith, none_each around)

  run-each : (around : List ℕ) (i d by : ℕ) (path : List ℕ) (own rest : RunList)
      → cost_to_each around (a_run i d by path own rest) ≡ against k ts around by + cost_to_each around own + cost_to_each around rest
  run-each [] i d by path own rest = refl
  run-each (j ∷ around) i d by path own rest = omega (arith, run-each around i d by path own rest)

  -- the same sum, by the runs around and by the runs within
  bound_weights : (xs : RunList) (around : List ℕ) → runs_bound k ts around xs ≡ weights xs + cost_to_each around xs
  bound_weights no_run around = omega (arith, none_each around)
  bound_weights (a_run i d by path own rest) around =
      omega (arith, run-each around i d by path own rest, bound_weights own (by ∷ around), bound_weights rest around)

-- ---- the runs of a list come at the points of a path, in list order

in_path_lem : (ts : List Task) (around : List ℕ) (p : ℕ) (path : List ℕ) (xs : RunList) → RunsIn ts around p path xs
    → Each (λ (x : Coming). (x.position < length path) × Done (block (task ts p) (get_or path x.position 0)).references x.done) (comings_of ts xs)
in_path_lem ts around p path no_run h = tt
in_path_lem ts around p path (a_run i d by own inner rest) h = ((h.0.in_path, h.0.right), in_path_lem ts around p path rest h.4)

in_order : (ts : List Task) (i d : ℕ) (xs : RunList) → RiseFrom i d xs → InOrder position_of done_of (comings_of ts xs)
in_order ts i d no_run h = tt
in_order ts i d (a_run j e by own inner no_run) h = tt
in_order ts i d (a_run j e by own inner (a_run j' e' by' own' inner' rest)) h = (h.1.0, in_order ts j e (a_run j' e' by' own' inner' rest) h.1)

pub all_taken : (ts : List Task) (around : List ℕ) (p : ℕ) (path : List ℕ) (xs : RunList) → RiseFrom 0 0 xs → RunsIn ts around p path xs
    → taken_of (comings_of ts xs) (points (task ts p) 0 path) ≡ comings_of ts xs
all_taken ts around p path xs r h = taken_all position_of done_of (task ts p) path (comings_of ts xs) (in_order ts 0 0 xs r) (in_path_lem ts around p path xs h)

-- ---- no reference is the mark for nothing

real-from : (i d : ℕ) (ms : List ℕ) (rest : List Point) → All Real ms → RealPoints rest → RealPoints (points_from i d ms ++ rest)
real-from i d [] rest a h = h
real-from i d (m ∷ ms) rest a h = ((a.0, tt), real-from i (suc d) ms rest a.1 h)

real-block : (i : ℕ) (ms : List ℕ) (rest : List Point) → All Real ms → RealPoints rest → RealPoints (block_points i ms ++ rest)
real-block i [] rest a h = (tt, h)
real-block i (m ∷ ms) rest a h = real-from i 0 (m ∷ ms) rest a h

module _ (k : Cache) (ts : List Task) (ok : Rules ts) where
  real-references : (j b : ℕ) → All Real (block (task ts j) b).references
  real-references j b = all_in_lem Real (block (task ts j) b).references (real-at ts ok j j b)

  real-points : (j i : ℕ) (p : List ℕ) → RealPoints (points (task ts j) i p)
  real-points j i [] = tt
  real-points j i (b ∷ p) = real-block i (block (task ts j) b).references (points (task ts j) (suc i) p) (real-references j b) (real-points j (suc i) p)

  -- ---- what holds of each run

  -- its misses alone, its pair numbers against the runs within it, and the same of these
  abbrev weight_of : Coming → ℕ
  weight_of x = alone k ts x.by x.path + cost_to k ts x.by x.own + weights k ts x.own

  abbrev sum_of : (ℕ → ℕ) → Coming → ℕ
  sum_of q x = q x.by + sum_by k ts q x.own

  -- against a reaching row r and a live row l, every end row of the task j costs at most q j
  abbrev EachCosts : List ℕ → List ℕ → (ℕ → ℕ) → Type 0
  EachCosts r l q = (j : ℕ) (f : List ℕ) → Reaches k (task ts j) (end (task ts j)) f → useful_replaced k r l f ≤ q j

  record Known (x : Coming) : Type 0 where
    pub clean : All Real x.all
    pub few : Misses k weight_of x
    -- all its references cost at most what each of its runs costs by itself
    pub costs : (r l : List ℕ) (q : ℕ → ℕ) → EachCosts r l q → useful_replaced k r l (with_references k (empty_row k) x.all) ≤ sum_of q x

  known_clean : (xs : List Coming) → Each Known xs → RealComings xs
  known_clean [] h = tt
  known_clean (x ∷ xs) h = (h.0.clean, known_clean xs h.1)

  known_few : (xs : List Coming) → Each Known xs → Each (Misses k weight_of) xs
  known_few [] h = tt
  known_few (x ∷ xs) h = (h.0.few, known_few xs h.1)

  weigh_sum : (q : ℕ → ℕ) (xs : RunList) → sum_over (sum_of q) (comings_of ts xs) ≡ sum_by k ts q xs
  weigh_sum q no_run = refl
  weigh_sum q (a_run i d by path own rest) = omega (arith, weigh_sum q rest)

  weigh_weights : (xs : RunList) → sum_over weight_of (comings_of ts xs) ≡ weights k ts xs
  weigh_weights no_run = refl
  weigh_weights (a_run i d by path own rest) = omega (arith, weigh_weights rest)

  -- ---- one run, given what holds of the runs of its list

  module _ (around : List ℕ) (p : ℕ) (path : List ℕ) (xs : RunList) (rising : RiseFrom 0 0 xs) (h : RunsIn ts around p path xs) (known : Each Known (comings_of ts xs))
      (whole : Complete (task ts p) path) where
    abbrev comes : List Coming
    comes = comings_of ts xs

    abbrev ps : List Point
    ps = points (task ts p) 0 path

    abbrev number : ℕ → ℕ
    number j = pair_number k (task ts p) (task ts j)

    each-costs : (ys : RunList) → RunsIn ts around p path ys → Each Known (comings_of ts ys)
        → Each (Costs position_of done_of references_of (useful_replaced k) k (task ts p) path (sum_of number)) (comings_of ts ys)
    each-costs no_run h f = tt
    each-costs (a_run i d by own inner rest) h f = (
      λ e l he hl.
          f.0.costs (with_references k e (take d (block (task ts p) (get_or path i 0)).references)) (firsts_over k (drop d (block (task ts p) (get_or path i 0)).references) l) number
          (λ j g hg. rows_le (useful_replaced k) k (task ts p) (task ts j) (Allows (task ts p)) (allowed (task ts p)) (allowed_exact (task ts p)) (get_or path i 0) d e l g (h.0.unmasked, h.0.right) he hl hg),
      each-costs rest h.4 f.1,
    )

    clean : Clean (events comes ps)
    clean = parts-run position_of done_of references_of Real Real comes (known_clean comes known) (task ts p) (real-references p) 0 path

    run-misses : (row : List ℕ) → length row ≡ k.width → misses k row (woven comes ps) ≤ alone k ts p path + cost_to k ts p xs + weights k ts xs
    run-misses row e =
        let t = all_taken ts around p path xs rising h in
        let a = misses-woven k weight_of comes ps row e (known_few comes known) in
        let b = upper-from_empty k (events comes ps) row e clean in
        let d = total_le position_of done_of references_of (useful_replaced k) k (task ts p) path (sum_of number) comes (each-costs xs h known) whole in
        omega (arith, rw t at a, rw (own-run position_of done_of references_of (task ts p) comes 0 path) at b, rw t at d, weigh_weights xs, weigh_sum number xs)

    weigh_le : (u w : Coming → ℕ) (ys : List Coming) → Each (λ (y : Coming). u y ≤ w y) ys → sum_over u ys ≤ sum_over w ys
    weigh_le u w [] a = omega arith
    weigh_le u w (y ∷ ys) a = omega (arith, a.0, weigh_le u w ys a.1)

    -- what a row's references replace, at one cache block
    abbrev cell : List ℕ → List ℕ → ℕ → ℕ → ℕ
    cell r l c y = bit (useful r l c && (not (eqb y nothing) && not (eqb y (held r c))))

    each-cost : (r l : List ℕ) (q : ℕ → ℕ) → EachCosts r l q → (ys : List Coming) → Each Known ys → Each (λ (y : Coming). cost_of k (cell r l) y ≤ sum_of q y) ys
    each-cost r l q b [] a = tt
    each-cost r l q b (y ∷ ys) a = (a.0.costs r l q b, each-cost r l q b ys a.1)

    run-costs : (r l : List ℕ) (q : ℕ → ℕ) → EachCosts r l q → useful_replaced k r l (with_references k (empty_row k) (woven comes ps)) ≤ q p + sum_by k ts q xs
    run-costs r l q b =
        let u = union k (cell r l) comes ps (empty_row k) (known_clean comes known) (real-points p 0 path) (length-empty_row k) in
        omega (
          arith,
          rw (all_taken ts around p path xs rising h, at-points (task ts p) 0 path) at u,
          weigh_le (cost_of k (cell r l)) (sum_of q) comes (each-cost r l q b comes known),
          weigh_sum q xs,
          b p (with_references k (empty_row k) (references (task ts p) path)) (reaches_end k (task ts p) path whole),
        )

  -- ---- every run of a list, by induction on the list

  all_known : (xs : RunList) (around : List ℕ) (p : ℕ) (path : List ℕ) → RunsIn ts around p path xs → Each Known (comings_of ts xs)
  all_known no_run around p path h = tt
  all_known (a_run i d by own inner rest) around p path h =
      let g = all_known inner (p ∷ around) by own h.3 in (
        record {
          clean = real-woven (comings_of ts inner) (points (task ts by) 0 own) (known_clean (comings_of ts inner) g) (real-points by 0 own);
          few = run-misses (p ∷ around) by own inner h.2 h.3 g h.0.complete;
          costs = run-costs (p ∷ around) by own inner h.2 h.3 g h.0.complete;
        },
        all_known rest around p path h.4,
      )

  pub nested_bounded : (r : NestedRun ts) → NestedBounded k r
  nested_bounded r row e =
      omega (
        arith,
        run-misses [] r.p r.path r.runs r.rising r.within (all_known r.runs [] r.p r.path r.within) r.complete row e,
        bound_weights k ts r.runs (r.p ∷ []),
      )
