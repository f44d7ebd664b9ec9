-- The rows of a task in memory, for Table: rows that stand for all states of each block, and check 11 of Point 9. Definitions, and that what is
-- kept has the lengths of what is gathered.
use mathlib.Core.Logic.{inl, inr}
use Rattle.std.specs.Prelude.{◌≡◌, ◌⊎◌, Bool, false, List, ℕ, ◌<◌, length, take, drop}
use Rattle.cache.specs.Cache.{Cache}
use Rattle.model.specs.Tasks.{Task}
use Rattle.model.specs.States.{Reaches, Lives}
use Rattle.rows.specs.Rows.{kind_length, area_length}
use Rattle.gather.specs.Graph.{Graph}
use Rattle.gather.specs.Memory.{Memory, held_rows}
use Rattle.gather.specs.Gathered.{GatheredAs}
use Rattle.graphs.specs.TaskRows.{Sizes}
use Rattle.covered.specs.Covered.{Stands}
use Rattle.covered.specs.Rounds.{uncovered_test11}
use Rattle.uncovered.specs.Taken.{RoundsIn}

-- what a graph keeps: all rows, where no block has more than 32, or what rounds leave
abbrev pub Kept : Graph → List ℕ → List ℕ → Bool → Type 0
Kept g rows counts full = ((full ≡ false) × GatheredAs g rows counts full) ⊎ RoundsIn g rows counts full

pub kept_sizes : Sizes Kept
kept_sizes g rows counts full (inl (e, h)) = (h.long, h.many)
kept_sizes g rows counts full (inr h) = (h.memory.long, h.memory.many)

-- what is kept of both kinds of states of a task, in a work area, reaching rows from its beginning on and live rows after them: the answer is Table's test;
-- where it fails, the rows of each block stand for its states, else what memory holds is left open
pub record AreaStands (k : Cache) (t : Task) (area reached lived : List ℕ) (full : Bool) : Type 0 where
  pub long : length area ≡ area_length k.width
  pub reached_many : length reached ≡ 24
  pub lived_many : length lived ≡ 24
  pub answer : full ≡ uncovered_test11 k t
  pub reaching_memory : full ≡ false → Memory k.width (take (kind_length k.width) area) reached
  pub live_memory : full ≡ false → Memory k.width (take (kind_length k.width) (drop (kind_length k.width) area)) lived
  pub reaching : full ≡ false → (b : ℕ) → b < length t → Stands (Reaches k t b) (held_rows k.width (take (kind_length k.width) area) reached b)
  pub live : full ≡ false → (b : ℕ) → b < length t → Stands (Lives k t b) (held_rows k.width (take (kind_length k.width) (drop (kind_length k.width) area)) lived b)
