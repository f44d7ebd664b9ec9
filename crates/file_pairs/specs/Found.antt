-- What Table finds on its way: the end rows of each task, and the numbers of a task against each task. Definitions only.
use Rattle.std.specs.Prelude.{◌≡◌, ◌≢◌, Bool, true, false, List, ℕ, ◌*◌, ◌≤◌, ◌<◌, max, length, get_or}
use Rattle.cache.specs.Cache.{Cache}
use Rattle.model.specs.Tasks.{Task, end, task}
use Rattle.model.specs.Computed.{sorted, reaching, pair_number}
use Rattle.rows.specs.Rows.{rows_of, part_of, kind_length}
use Rattle.gather.specs.Graph.{too_many}
use Rattle.graphs.specs.TaskRows.{test11}
use Rattle.row_sets.specs.Sets.{Joined}
use Rattle.pairs.specs.Ends.{ends_of, one_of, EndRows}
use Rattle.pairs.specs.declared.ends.Ends.{Ends}

-- no block of the task has more than 32 reaching states
abbrev pub Few : Cache → Task → Type 0
Few k t = too_many (reaching k t) 24 ≡ false

-- the rows are the end rows of the task, its end block's reaching states, in some order
abbrev pub AllEnds : Cache → Task → List (List ℕ) → Type 0
AllEnds k t fs = sorted fs ≡ reaching k t (end t)

-- what finding the end rows of a task leaves: the first `count` of 32 rows are those of the task, none if a block has too many reaching states
pub record TaskEnds (k : Cache) (t : Task) (rows ends : List ℕ) (count : ℕ) : Type 0 where
  pub rows_long : length rows ≡ kind_length k.width
  pub ends_long : length ends ≡ 32 * k.width
  pub few : count ≤ 32
  pub found : Few k t → AllEnds k t (rows_of k.width count ends)
  pub none : (Few k t → ⊥) → count ≡ 0

-- what joining the `count` end rows of task j leaves: a row for them among such rows, where all else stays
pub record OneStored (w j count : ℕ) (old new : List ℕ) (mixed : ℕ) : Type 0 where
  pub long : length new ≡ length old
  pub parts : (i : ℕ) → i < 8 → part_of w new i ≡ part_of w old i
  pub others : (i : ℕ) → i < 8 → i ≢ j → one_of w new i ≡ one_of w old i
  pub joined : Joined w (rows_of w count (part_of w old j)) (one_of w new j) mixed

-- the end rows of the first `tasks` tasks, of each that has few reaching states
pub record EndsFound (k : Cache) (ts : List Task) (tasks : ℕ) (ends counts mixed : List ℕ) : Type 0 where
  pub room : EndRows k.width ends counts mixed tasks
  pub found : (j : ℕ) → j < tasks → Few k (task ts j) → AllEnds k (task ts j) (ends_of k.width ends counts j)

-- the same of end rows that are lent as one thing
abbrev pub AllFound : Cache → List Task → Ends → Type 0
AllFound k ts ends = EndsFound k ts ends.tasks ends.rows.now ends.counts.now ends.mixed.now

-- and none of any other
abbrev pub NoOthers : Cache → List Task → ℕ → List ℕ → Type 0
NoOthers k ts tasks counts = (j : ℕ) → (j < tasks → Few k (task ts j) → ⊥) → get_or counts j 0 ≡ 0

-- what the old numbers of the task t become: for each of the first `tasks` tasks that has few reaching states the larger of the number and the pair
-- number; or t has a block with too many states, and all stay
pub record NumbersFound (k : Cache) (ts : List Task) (tasks : ℕ) (t : Task) (old numbers : List ℕ) (full : Bool) : Type 0 where
  pub long : length numbers ≡ 8
  pub answer : full ≡ test11 k t
  pub found : full ≡ false → (j : ℕ) → j < tasks → Few k (task ts j) → get_or numbers j 0 ≡ max (get_or old j 0) (pair_number k t (task ts j))
  pub rest : full ≡ false → (j : ℕ) → tasks ≤ j → get_or numbers j 0 ≡ get_or old j 0
  pub refused : full ≡ true → numbers ≡ old
