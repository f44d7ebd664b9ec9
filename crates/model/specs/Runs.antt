-- Document 01, "Paths and cache", and document 02, Points 1, 5 and 6: disturbed runs, U, D and the lost hits. Definitions only.
-- A name with `On` is over a cache of any kind, a `Policy`; the same name without it is that at document 01's cache.
use Rattle.std.specs.Prelude.{◌≡◌, ◌≢◌, ◌⊎◌, Bool, not, ◌&&◌, List, [], ◌∷◌, ◌++◌, ℕ, suc, ◌+◌, ◌≤◌, ◌<◌, eqb, length, get_or}
use Rattle.cache.specs.Sum.{bit}
use Rattle.cache.specs.Cache.{Cache, Row, hits, with_reference, Policy, one_line, refer_all}
use Rattle.model.specs.Lists.{Each, keep}
use Rattle.model.specs.Tasks.{Task, block, Unmasked, Done, Path, Complete, references, task}

-- "A preemption is a point .., a task other than p and a complete path of that task."; Point 6: "A point becomes two numbers: the position in the
-- path, and how many references of that block are done"
pub record Preemption : Type 0 where
  pub position : ℕ
  pub done : ℕ
  pub by : ℕ
  pub path : Path

-- a preemption of the path of the task p, in the file of the tasks ts; the block at its position is unmasked (Point 1: "preemptions avoid masked
-- blocks (its path may pass them)"), and the number of its references that are done is right (Point 6)
pub record Preempts (ts : List Task) (p : ℕ) (path : Path) (x : Preemption) : Type 0 where
  pub in_path : x.position < length path
  pub right : Done (block (task ts p) (get_or path x.position 0)).references x.done
  pub there : x.by < length ts
  pub other : x.by ≢ p
  pub unmasked : Unmasked (task ts p) (get_or path x.position 0)
  pub complete : Complete (task ts x.by) x.path

-- the point (j, e) doesn't come before the point (i, d): "Pairs of numbers never fall, position first"
abbrev pub NotBefore : ℕ → ℕ → ℕ → ℕ → Type 0
NotBefore i d j e = (i < j) ⊎ ((i ≡ j) × (d ≤ e))

abbrev pub NeverFall : List Preemption → Type 0
NeverFall [] = Unit {0}
NeverFall (x ∷ []) = Unit {0}
NeverFall (x ∷ y ∷ xs) = NotBefore x.position x.done y.position y.done × NeverFall (y ∷ xs)

-- "A disturbed run is, in one accepted file, a task p, a complete path of p and a list of preemptions, which may be empty.
-- .. Points lie in the path and never fall"
pub record DisturbedRun (ts : List Task) : Type 0 where
  pub p : ℕ
  pub path : Path
  pub preemptions : List Preemption
  pub there : p < length ts
  pub complete : Complete (task ts p) path
  pub each : Each (Preempts ts p path) preemptions
  pub rising : NeverFall preemptions

-- exactly one preemption, by the task j
abbrev pub OnceBy : ℕ → List Preemption → Type 0
OnceBy j xs = (x : Preemption) × (xs ≡ x ∷ []) × (x.by ≡ j)

-- ---- the points of a path

-- a point, with the reference that leads to it: none in a block without references
pub record Point : Type 0 where
  pub position : ℕ
  pub done : ℕ
  pub reference : List ℕ

-- the points of the block at position i after each of the references ms, where d come before them
abbrev pub points_from : ℕ → ℕ → List ℕ → List Point
points_from i d [] = []
points_from i d (m ∷ ms) = record { position = i; done = suc d; reference = m ∷ [] } ∷ points_from i (suc d) ms

-- "from 1 to all, or 0 where it has none"
abbrev pub block_points : ℕ → List ℕ → List Point
block_points i [] = record { position = i; done = 0; reference = [] } ∷ []
block_points i (m ∷ ms) = points_from i 0 (m ∷ ms)

-- those of the blocks of a path, whose first is at position i
abbrev pub points : Task → ℕ → Path → List Point
points t i [] = []
points t i (b ∷ p) = block_points i (block t b).references ++ points t (suc i) p

-- ---- the run

-- "The run keeps one row and one count,"
pub record RowCount : Type 0 where
  pub row : Row
  pub count : ℕ

-- "at first the empty cache and 0."
abbrev pub at_first_on : Policy → RowCount
at_first_on q = record { row = q.first; count = 0 }

abbrev pub at_first : Cache → RowCount
at_first k = at_first_on (one_line k)

-- "it makes the references .. in order and adds 1 for each miss,"
abbrev pub own_references_on : Policy → RowCount → List ℕ → RowCount
own_references_on q s [] = s
own_references_on q s (m ∷ ms) = own_references_on q (record { row = q.refer s.row m; count = s.count + bit (not (q.found s.row m)) }) ms

abbrev pub own_references : Cache → RowCount → List ℕ → RowCount
own_references k = own_references_on (one_line k)

-- "A preemption makes all references of its path in order on the row as it stands and adds nothing."
abbrev pub preempted_on : Policy → List Task → RowCount → Preemption → RowCount
preempted_on q ts s x = record { row = refer_all q s.row (references (task ts x.by) x.path); count = s.count }

abbrev pub preempted : Cache → List Task → RowCount → Preemption → RowCount
preempted k = preempted_on (one_line k)

-- "Each step gets the row that the last one left"
abbrev pub preempted_by_on : Policy → List Task → RowCount → List Preemption → RowCount
preempted_by_on q ts s [] = s
preempted_by_on q ts s (x ∷ xs) = preempted_by_on q ts (preempted_on q ts s x) xs

abbrev pub preempted_by : Cache → List Task → RowCount → List Preemption → RowCount
preempted_by k = preempted_by_on (one_line k)

-- "the preemptions with this point in list order"
abbrev pub with_point : ℕ → ℕ → List Preemption → List Preemption
with_point i d xs = keep (λ (x : Preemption). eqb x.position i && eqb x.done d) xs

-- what stands after a point: its reference is made, "then [the run] takes the preemptions with this point"
abbrev pub after_point_on : Policy → List Task → List Preemption → RowCount → Point → RowCount
after_point_on q ts xs s x = preempted_by_on q ts (own_references_on q s x.reference) (with_point x.position x.done xs)

abbrev pub after_point : Cache → List Task → List Preemption → RowCount → Point → RowCount
after_point k = after_point_on (one_line k)

-- "It takes the positions in rising order.", and in each the points in rising order: Point 6, "A preemption may follow every single reference."
abbrev pub run_on : Policy → List Task → List Preemption → RowCount → List Point → RowCount
run_on q ts xs s [] = s
run_on q ts xs s (x ∷ rest) = run_on q ts xs (after_point_on q ts xs s x) rest

abbrev pub run : Cache → List Task → List Preemption → RowCount → List Point → RowCount
run k = run_on (one_line k)

-- the count at the end of the path of a task, with a list of preemptions
abbrev pub count_at_end_on : Policy → List Task → Task → Path → List Preemption → ℕ
count_at_end_on q ts t path xs = (run_on q ts xs (at_first_on q) (points t 0 path)).count

abbrev pub count_at_end : Cache → List Task → Task → Path → List Preemption → ℕ
count_at_end k = count_at_end_on (one_line k)

-- "D is the count at the end;"
abbrev pub DOn : Policy → {ts : List Task} → DisturbedRun ts → ℕ
DOn q {ts} r = count_at_end_on q ts (task ts r.p) r.path r.preemptions

abbrev pub D : Cache → {ts : List Task} → DisturbedRun ts → ℕ
D k r = DOn (one_line k) r

-- "U is the count at the end of the same path with the empty list."
abbrev pub UOn : Policy → {ts : List Task} → DisturbedRun ts → ℕ
UOn q {ts} r = count_at_end_on q ts (task ts r.p) r.path []

abbrev pub U : Cache → {ts : List Task} → DisturbedRun ts → ℕ
U k r = UOn (one_line k) r

-- ---- document 02, Point 5: "a third number, the hits of the undisturbed run that became misses"

-- whether each of the references hits, in order, on the row as it then stands
abbrev pub hits_of : Cache → Row → List ℕ → List Bool
hits_of k row [] = []
hits_of k row (m ∷ ms) = hits k row m ∷ hits_of k (with_reference k row m) ms

-- the same of the run's own references, in order: those of some points, with the rows that `run` has there
abbrev pub hits_from : Cache → List Task → List Preemption → RowCount → List Point → List Bool
hits_from k ts xs s [] = []
hits_from k ts xs s (x ∷ rest) = hits_of k s.row x.reference ++ hits_from k ts xs (after_point k ts xs s x) rest

abbrev pub own_hits : Cache → List Task → Task → Path → List Preemption → List Bool
own_hits k ts t path xs = hits_from k ts xs (at_first k) (points t 0 path)

-- the places where the first list has a hit and the second has none
abbrev pub lost_of : List Bool → List Bool → ℕ
lost_of [] after = 0
lost_of (h ∷ before) [] = 0
lost_of (h ∷ before) (g ∷ after) = bit (h && not g) + lost_of before after

-- the misses in such a list: U and D are those of the two lists (proofs/Hits, `misses_of_hits`)
abbrev pub misses_in : List Bool → ℕ
misses_in [] = 0
misses_in (h ∷ hs) = bit (not h) + misses_in hs

-- the own references of the path of a task that hit without preemptions, and miss with them
abbrev pub lost_at_end : Cache → List Task → Task → Path → List Preemption → ℕ
lost_at_end k ts t path xs = lost_of (own_hits k ts t path []) (own_hits k ts t path xs)

abbrev pub lost_hits : Cache → {ts : List Task} → DisturbedRun ts → ℕ
lost_hits k {ts} r = lost_at_end k ts (task ts r.p) r.path r.preemptions
