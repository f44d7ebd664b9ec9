-- The end rows of the tasks that meet a point, in one list. Definitions only.
use Rattle.std.specs.Prelude.{◌≡◌, List, ℕ, ◌+◌, ◌*◌, ◌≤◌, ◌<◌, length, get_or, take, drop}
use Rattle.rows.specs.Rows.{Width}
use Rattle.gather.specs.Memory.{held_rows}
use Rattle.row_sets.specs.Sets.{Joined}

-- the end rows of task j in one list for all tasks: they stand from 32 w j on, as many as its count
abbrev pub ends_of : ℕ → List ℕ → List ℕ → ℕ → List (List ℕ)
ends_of w ends counts j = held_rows w ends counts j

-- the one row for the end rows of task j, in the same list: these rows stand after the end rows of all tasks
abbrev pub one_of : ℕ → List ℕ → ℕ → List ℕ
one_of w ends j = take w (drop (8 * (32 * w) + w * j) ends)

-- how long that list is
abbrev pub ends_length : ℕ → ℕ
ends_length w = 8 * (32 * w) + 8 * w

-- one list for at most 8 tasks, with at most 32 end rows of w numbers for each, and the one row for those of each of the first `tasks`; `mixed` has for
-- each task the cache blocks where its end rows hold more than one memory block
pub record EndRows (w : ℕ) (ends counts mixed : List ℕ) (tasks : ℕ) : Type 0 where
  pub width : Width w
  pub long : length ends ≡ ends_length w
  pub many : length counts ≡ 8
  pub each : length mixed ≡ 8
  pub few : (j : ℕ) → j < 8 → get_or counts j 0 ≤ 32
  pub joined : (j : ℕ) → j < tasks → Joined w (ends_of w ends counts j) (one_of w ends j) (get_or mixed j 0)
  pub inside : tasks ≤ 8

-- up to 32 live rows of w numbers, side by side
pub record LiveLanes (w : ℕ) (lanes : List ℕ) (count : ℕ) : Type 0 where
  pub long : length lanes ≡ 32 * w
  pub few : count ≤ 32
