-- Both kinds of rows of an area, put in dictionary order. Definitions only.
use Rattle.std.specs.Prelude.{◌≡◌, List, ◌++◌, ℕ, ◌≤◌, ◌<◌, length, get_or, take, drop, replicate}
use Rattle.cache.specs.Cache.{Row}
use Rattle.model.specs.Computed.{sorted}
use Rattle.rows.specs.Rows.{Width, Area, kind_length}
use Rattle.gather.specs.Memory.{held_rows}
use Rattle.area.specs.Area.{block_parts}

-- the rows of block b in memory, in dictionary order
abbrev pub sorted_rows : ℕ → List ℕ → List ℕ → ℕ → List Row
sorted_rows w rows counts b = sorted (held_rows w rows counts b)

-- the counts of 24 blocks, none of which has more than 32 rows
pub record Counts (counts : List ℕ) : Type 0 where
  pub many : length counts ≡ 24
  pub few : (b : ℕ) → b < 24 → get_or counts b 0 ≤ 32

-- the rows of 24 blocks in memory, and no block has a row twice
pub record Distinct (w : ℕ) (rows counts : List ℕ) : Type 0 where
  pub width : Width w
  pub long : length rows ≡ kind_length w
  pub counts24 : Counts counts
  pub once : (b : ℕ) → b < 24 → length (sorted_rows w rows counts b) ≡ get_or counts b 0

-- an area with its rows in dictionary order: "live rows the same, from 12,288 on", and from 24,576 on the counts
unfoldable pub sorted_area : ℕ → Area → List ℕ → List ℕ → Area
sorted_area w area reaching live =
    block_parts w (sorted_rows w (take (kind_length w) area) reaching) 24 0 ++ (block_parts w (sorted_rows w (take (kind_length w) (drop (kind_length w) area)) live) 24 0
    ++ (reaching ++ (live ++ replicate 208 0)))
