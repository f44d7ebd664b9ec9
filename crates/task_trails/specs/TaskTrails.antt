-- Document 02, Point 3: the trails of a task's rows are paths. Definitions only.
use Rattle.std.specs.Prelude.{◌≡◌, Bool, false, List, ◌∷◌, ℕ, ◌+◌, ◌*◌, ◌≤◌, ◌<◌, length, get_or, take, drop}
use Rattle.cache.specs.Cache.{Cache, Row, empty_row, with_references, first_references}
use Rattle.model.specs.Tasks.{Task, Path, PathFrom, end, references}
use Rattle.rows.specs.Rows.{kind_length}
use Rattle.gather.specs.Memory.{Memory}
use Rattle.gather.specs.Graph.{Graph}
use Rattle.graphs.specs.TaskRows.{AreaRows, BothGathered}
use Rattle.trails.specs.Trails.{held_row, length_at, Places, way_back, way_to, Trailed}

-- the blocks are a path from block 0 to the block b, and the row is what it leaves at the end of b: the path of a reaching state
pub record PathTo (k : Cache) (t : Task) (b : ℕ) (row : Row) (blocks : List ℕ) : Type 0 where
  pub path : Path
  pub is : blocks ≡ 0 ∷ path
  pub leads : PathFrom t 0 path b
  pub leaves : row ≡ with_references k (empty_row k) (references t (0 ∷ path))

-- the blocks are b and a way on from it to the end, and the row is what this refers to first: the path of a live state
pub record PathOn (k : Cache) (t : Task) (b : ℕ) (row : Row) (blocks : List ℕ) : Type 0 where
  pub path : Path
  pub is : blocks ≡ b ∷ path
  pub leads : PathFrom t b path (end t)
  pub refers : row ≡ first_references k (references t path)

-- the trail of each row in memory is its path; none has more than 768 blocks, as many as there are places
pub record RowTrails (w : ℕ) (Trail : ℕ → Row → ℕ → ℕ → Type 0) (rows counts trails : List ℕ) : Type 0 where
  pub memory : Memory w rows counts
  pub places : Places trails
  pub each : (b k : ℕ) → b < 24 → k < get_or counts b 0 → Trail b (held_row w rows counts b k) (length_at trails (32 * b + k)) (32 * b + k)
  pub few : (b k : ℕ) → b < 24 → k < get_or counts b 0 → length_at trails (32 * b + k) ≤ 768

-- the trails of reaching states lead from block 0, those of live states to the end
abbrev pub ReachTrails : Cache → Task → List ℕ → List ℕ → List ℕ → Type 0
ReachTrails k t rows counts trails = RowTrails k.width (λ (b : ℕ) (row : Row) (n at : ℕ). PathTo k t b row (way_to n trails at)) rows counts trails

abbrev pub LiveTrails : Cache → Task → List ℕ → List ℕ → List ℕ → Type 0
LiveTrails k t rows counts trails = RowTrails k.width (λ (b : ℕ) (row : Row) (n at : ℕ). PathOn k t b row (way_back n trails at)) rows counts trails

-- the states of a task in a work area, and the trails of both kinds where no block has more than 32
pub record AreaTrails (k : Cache) (t : Task) (area reached lived to on : List ℕ) (full : Bool) : Type 0 where
  pub rows : AreaRows k t area reached lived full
  pub to_long : length to ≡ 1536
  pub on_long : length on ≡ 1536
  pub reaching : full ≡ false → ReachTrails k t (take (kind_length k.width) area) reached to
  pub live : full ≡ false → LiveTrails k t (take (kind_length k.width) (drop (kind_length k.width) area)) lived on

-- the same along two graphs, one part of the area after the other
pub record BothTrails (r l : Graph) (area reached lived to on : List ℕ) (full : Bool) : Type 0 where
  pub gathered : BothGathered r l area reached lived full
  pub to_long : length to ≡ 1536
  pub on_long : length on ≡ 1536
  pub reaching : full ≡ false → Trailed r (take (kind_length r.width) area) reached to
  pub live : full ≡ false → Trailed l (take (kind_length r.width) (drop (kind_length r.width) area)) lived on
