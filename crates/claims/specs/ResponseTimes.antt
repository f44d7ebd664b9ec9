-- Document 02, Point 8: what g charges for a preempting run, against nested runs. Definitions only.
use Rattle.std.specs.Prelude.{◌≡◌, List, ℕ, ◌+◌, ◌≤◌, ◌<◌, length}
use Rattle.cache.specs.Cache.{Cache, Row}
use Rattle.model.specs.Tasks.{Task}
use Rattle.model.specs.Nested.{RunList, no_run, a_run, alone, NestedRun, total}
use Rattle.project.specs.File.{File}
use Rattle.project.specs.Tasks.{tasks_of, file_cache}
use Rattle.response.specs.Response.{g}

-- "The file's tasks come highest priority first": each run of the list comes from a higher task than the run of p that it preempts, and so do the runs
-- within it
abbrev pub FromHigher : ℕ → RunList → Type 0
FromHigher p no_run = Unit {0}
FromHigher p (a_run i d by path own rest) = (by < p) × FromHigher by own × FromHigher p rest

-- for every preempting run its misses alone, and what a charge says for it
abbrev pub runs_charged : Cache → List Task → (ℕ → ℕ) → RunList → ℕ
runs_charged k ts charge no_run = 0
runs_charged k ts charge (a_run i d by path own rest) =
    alone k ts by path + charge by + runs_charged k ts charge own + runs_charged k ts charge rest

-- from whatever the cache first contains, the total misses are at most the sum of each run's misses alone and of the charges
abbrev pub Charged : (s : File) → NestedRun (tasks_of s) → (ℕ → ℕ) → Type 0
Charged s r charge =
    (row : Row) → length row ≡ (file_cache s).width
    → total (file_cache s) row r ≤ alone (file_cache s) (tasks_of s) r.p r.path + runs_charged (file_cache s) (tasks_of s) charge r.runs

-- g of the outer run's task, for the pair numbers given
abbrev pub g_of : (s : File) → NestedRun (tasks_of s) → (ℕ → ℕ → ℕ) → ℕ → ℕ
g_of s r pair j = g pair r.p j
