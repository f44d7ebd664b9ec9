-- Document 02, Point 7: interruptions of interruptions. Definitions only.
use Rattle.std.specs.Prelude.{◌≢◌, ◌&&◌, List, [], ◌∷◌, ◌++◌, ℕ, ◌+◌, ◌≤◌, ◌<◌, ◌≡◌, eqb, length}
use Rattle.cache.specs.Cache.{Cache, Row, empty_row, misses}
use Rattle.model.specs.Lists.{Each, keep}
use Rattle.model.specs.Tasks.{Task, Path, Complete, references, task}
use Rattle.model.specs.Runs.{Preempts, NotBefore, Point, points}
use Rattle.model.specs.Computed.{pair_number}

-- "each preempting path is followed by that run's own count and list": the runs that preempt a run; of the first its point, its task, its path and its
-- own list, and then the rest of the list
pub data RunList : Type 0 where
  no_run : RunList
  a_run : (position done by : ℕ) (path : Path) (own rest : RunList) → RunList

-- ---- all references, in the order in which they are made

-- a run that comes in at a point, with all references of it and of the runs within it
pub record Coming : Type 0 where
  pub position : ℕ
  pub done : ℕ
  pub by : ℕ
  pub path : Path
  pub own : RunList
  pub all : List ℕ

-- those with this point, in list order
abbrev pub coming_at : ℕ → ℕ → List Coming → List Coming
coming_at i d xs = keep (λ (x : Coming). eqb x.position i && eqb x.done d) xs

abbrev pub all_of : List Coming → List ℕ
all_of [] = []
all_of (x ∷ xs) = x.all ++ all_of xs

-- at each point of a path its reference, and then all that comes in there
abbrev pub woven : List Coming → List Point → List ℕ
woven xs [] = []
woven xs (p ∷ ps) = p.reference ++ (all_of (coming_at p.position p.done xs) ++ woven xs ps)

-- "Replaying a task replays its list, and replaying the list replays tasks."
abbrev pub comings_of : List Task → RunList → List Coming
comings_of ts no_run = []
comings_of ts (a_run i d by path own rest) =
    record { position = i; done = d; by = by; path = path; own = own; all = woven (comings_of ts own) (points (task ts by) 0 path) } ∷ comings_of ts rest

-- the references of the run of a task along a path, and of all runs within it
abbrev pub all_references : List Task → ℕ → Path → RunList → List ℕ
all_references ts p path xs = woven (comings_of ts xs) (points (task ts p) 0 path)

-- "The total misses of all tasks", "from whatever the cache first contains"
abbrev pub total_misses : Cache → List Task → Row → ℕ → Path → RunList → ℕ
total_misses k ts row p path xs = misses k row (all_references ts p path xs)

-- ---- the bound

-- "each run's misses alone from an empty cache"
abbrev pub alone : Cache → List Task → ℕ → Path → ℕ
alone k ts p path = misses k (empty_row k) (references (task ts p) path)

-- "its pair numbers against each run that encloses it": of the task j against runs of the tasks `around`
abbrev pub against : Cache → List Task → List ℕ → ℕ → ℕ
against k ts [] j = 0
against k ts (i ∷ around) j = pair_number k (task ts i) (task ts j) + against k ts around j

-- both, "for every preempting run" of a list and within it
abbrev pub runs_bound : Cache → List Task → List ℕ → RunList → ℕ
runs_bound k ts around no_run = 0
runs_bound k ts around (a_run i d by path own rest) =
    alone k ts by path + against k ts around by + runs_bound k ts (by ∷ around) own + runs_bound k ts around rest

-- ---- the rules

-- "Pairs of numbers never fall": those of the list, from the point (i, d) on
abbrev pub RiseFrom : ℕ → ℕ → RunList → Type 0
RiseFrom i d no_run = Unit {0}
RiseFrom i d (a_run j e by path own rest) = NotBefore i d j e × RiseFrom j e rest

-- the task j isn't that of any of the runs around it: "no task occurs inside itself"
abbrev pub Outside : ℕ → List ℕ → Type 0
Outside j around = Each (λ (i : ℕ). j ≢ i) around

-- the runs of a list preempt the run of the task p along a path, which lies within runs of the tasks `around`
abbrev pub RunsIn : List Task → List ℕ → ℕ → Path → RunList → Type 0
RunsIn ts around p path no_run = Unit {0}
RunsIn ts around p path (a_run i d by own inner rest) =
    Preempts ts p path (record { position = i; done = d; by = by; path = own }) × Outside by around
    × RiseFrom 0 0 inner × RunsIn ts (p ∷ around) by own inner × RunsIn ts around p path rest

-- the outer run, and the runs within it, of any depth and count
pub record NestedRun (ts : List Task) : Type 0 where
  pub p : ℕ
  pub path : Path
  pub runs : RunList
  pub there : p < length ts
  pub complete : Complete (task ts p) path
  pub rising : RiseFrom 0 0 runs
  pub within : RunsIn ts [] p path runs

-- the total of a nested run
abbrev pub total : Cache → {ts : List Task} → Row → NestedRun ts → ℕ
total k {ts} row r = total_misses k ts row r.p r.path r.runs

-- "the sum of each run's misses alone from an empty cache plus, for every preempting run, its pair numbers against each run that encloses it"
abbrev pub nested_bound : Cache → {ts : List Task} → NestedRun ts → ℕ
nested_bound k {ts} r = alone k ts r.p r.path + runs_bound k ts (r.p ∷ []) r.runs

-- "The total misses of all tasks are at most .." that; "This holds from whatever the cache first contains."
abbrev pub NestedBounded : Cache → {ts : List Task} → NestedRun ts → Type 0
NestedBounded k r = (row : Row) → length row ≡ k.width → total k row r ≤ nested_bound k r
