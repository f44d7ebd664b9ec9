-- Document 02, Point 3: how each row in memory came there. The place of the row numbered k of the block b is 32 b + k; for each of 768 places a list of
-- trails tells the place of the row that its row was handed on from, and then how many blocks its trail has. Definitions only.
use Rattle.std.specs.Prelude.{◌≡◌, Bool, true, false, List, [], ◌∷◌, ◌++◌, ℕ, zero, suc, ◌+◌, ◌*◌, ◌/◌, ◌≤◌, ◌<◌, length, get_or, replicate}
use Rattle.cache.specs.Cache.{Row}
use Rattle.cache.specs.Sets.{in_set}
use Rattle.gather.specs.Graph.{Graph, handed_on}
use Rattle.gather.specs.Gathered.{GatheredAs}
use Rattle.gather.specs.Memory.{held_rows, Memory}

-- the row numbered k of block b in memory
abbrev pub held_row : ℕ → List ℕ → List ℕ → ℕ → ℕ → Row
held_row w rows counts b k = get_or (held_rows w rows counts b) k []

-- where the row of a place came from, and how many blocks its trail has
abbrev pub parent_at : List ℕ → ℕ → ℕ
parent_at trails at = get_or trails at 0

abbrev pub length_at : List ℕ → ℕ → ℕ
length_at trails at = get_or trails (768 + at) 0

-- a list of trails before any row is there
unfoldable pub no_trails : List ℕ
no_trails = replicate 1536 0

-- a list of trails, in which every place leads to a place
pub record Places (trails : List ℕ) : Type 0 where
  pub long : length trails ≡ 1536
  pub inside : (at : ℕ) → at < 768 → parent_at trails at < 768

-- one of its places
pub record IsPlace (trails : List ℕ) (at : ℕ) : Type 0 where
  pub places : Places trails
  pub inside : at < 768

-- the blocks of a trail of n blocks, from the block of the place back to the block where it began
abbrev pub way_back : ℕ → List ℕ → ℕ → List ℕ
way_back zero trails at = []
way_back (suc n) trails at = at / 32 ∷ way_back n trails (parent_at trails at)

-- the same blocks from the block where it began to the block of the place
abbrev pub way_to : ℕ → List ℕ → ℕ → List ℕ
way_to zero trails at = []
way_to (suc n) trails at = way_to n trails (parent_at trails at) ++ (at / 32 ∷ [])

-- ---- while rows are gathered

-- the row numbered k of block b began the gathering, or was handed on from the row numbered j of block a, whose trail is one block shorter
pub data Came (g : Graph) (rows counts trails : List ℕ) (b k : ℕ) : Type 0 where
  began : b ≡ g.first → held_row g.width rows counts b k ≡ g.row → length_at trails (32 * b + k) ≡ 1 → Came g rows counts trails b k
  handed : (a j : ℕ) → a < 24 → j < get_or counts a 0 → b < g.blocks → in_set (get_or g.sets a 0) b ≡ true
      → held_row g.width rows counts b k ≡ handed_on g a b (held_row g.width rows counts a j) → parent_at trails (32 * b + k) ≡ 32 * a + j
      → length_at trails (32 * b + k) ≡ suc (length_at trails (32 * a + j)) → Came g rows counts trails b k

-- how many rows are in memory
abbrev pub total : List ℕ → ℕ
total [] = 0
total (c ∷ counts) = c + total counts

-- every row in memory has its trail, and none is longer than there are rows
pub record Trailed (g : Graph) (rows counts trails : List ℕ) : Type 0 where
  pub memory : Memory g.width rows counts
  pub places : Places trails
  pub came : (b k : ℕ) → b < 24 → k < get_or counts b 0 → Came g rows counts trails b k
  pub few : (b k : ℕ) → b < 24 → k < get_or counts b 0 → length_at trails (32 * b + k) ≤ total counts

-- what noting the rows that were handed on from the place `from` leaves: where a block has a row more, its last one came from there; the trails of
-- all rows that were there before are as they were
pub record Noted (from : ℕ) (counts counts' trails trails' : List ℕ) : Type 0 where
  pub places : Places trails'
  pub new_parent : (s : ℕ) → s < 24 → get_or counts s 0 < get_or counts' s 0 → parent_at trails' (32 * s + get_or counts s 0) ≡ from
  pub new_length : (s : ℕ) → s < 24 → get_or counts s 0 < get_or counts' s 0 → length_at trails' (32 * s + get_or counts s 0) ≡ suc (length_at trails from)
  pub kept_parent : (s k : ℕ) → s < 24 → k < get_or counts s 0 → parent_at trails' (32 * s + k) ≡ parent_at trails (32 * s + k)
  pub kept_length : (s k : ℕ) → s < 24 → k < get_or counts s 0 → length_at trails' (32 * s + k) ≡ length_at trails (32 * s + k)

-- what gathering with trails leaves: all that gathering leaves, and where no block has too many rows the trails of all
pub record GatheredTrails (g : Graph) (rows counts trails : List ℕ) (full : Bool) : Type 0 where
  pub gathered : GatheredAs g rows counts full
  pub long : length trails ≡ 1536
  pub trailed : full ≡ false → Trailed g rows counts trails
