-- The memory in which rows are gathered: 32 rows for each of 24 blocks, and for each block how many of them it has. Definitions only.
use Rattle.std.specs.Prelude.{◌≡◌, ◌≢◌, Bool, true, false, cond, List, [], ◌∷◌, ◌++◌, ℕ, ◌≤◌, ◌<◌, length, get_or}
use Rattle.cache.specs.Sets.{in_set}
use Rattle.model.specs.Lists.{mem}
use Rattle.model.specs.Computed.{same_list}
use Rattle.rows.specs.Overlay.{overlay}
use Rattle.rows.specs.Rows.{Width, rows_of, part_of, kind_length}
use Rattle.gather.specs.Graph.{row_at}

-- the rows of block b
abbrev pub held_rows : ℕ → List ℕ → List ℕ → ℕ → List (List ℕ)
held_rows w rows counts b = rows_of w (get_or counts b 0) (part_of w rows b)

-- memory for 24 blocks, with at most 32 rows of w numbers for each; what stands after the rows of a block is left open
pub record Memory (w : ℕ) (rows counts : List ℕ) : Type 0 where
  pub width : Width w
  pub long : length rows ≡ kind_length w
  pub many : length counts ≡ 24
  pub few : (b : ℕ) → b < 24 → get_or counts b 0 ≤ 32

-- rows with one more at the end, unless it is among them
abbrev pub with_row : List ℕ → List (List ℕ) → List (List ℕ)
with_row row l = cond (mem same_list row l) l (l ++ (row ∷ []))

-- a row is appended to the rows of block s, or the block is full: it has 32 rows, and the row is not among them
pub record AppendedTo (w s : ℕ) (row rows counts rows' counts' : List ℕ) (full : Bool) : Type 0 where
  pub memory : Memory w rows' counts'
  pub added : full ≡ false → held_rows w rows' counts' s ≡ with_row row (held_rows w rows counts s)
  pub new : full ≡ true → mem same_list row (held_rows w rows counts s) ≡ false
  pub count : full ≡ true → get_or counts s 0 ≡ 32
  pub kept : full ≡ true → held_rows w rows' counts' s ≡ held_rows w rows counts s
  pub others : (b : ℕ) → b < 24 → b ≢ s → held_rows w rows' counts' b ≡ held_rows w rows counts b

-- r is the first block of the set from `from` on; where there is none, which number from 32 on it is is left open
pub record NextIn (set from r : ℕ) : Type 0 where
  pub after : from ≤ r
  pub between : (b : ℕ) → from ≤ b → b < r → in_set set b ≡ false
  pub member : r < 32 → in_set set r ≡ true

-- each block below `stop` that is in the set has the row too that it gets; all other rows are as they were
pub record Handed (w set : ℕ) (left entering : List ℕ) (stop : ℕ) (rows counts rows' counts' : List ℕ) : Type 0 where
  pub memory : Memory w rows' counts'
  pub below : (b : ℕ) → b < 24 → b < stop
      → held_rows w rows' counts' b ≡ cond (in_set set b) (with_row (overlay left (row_at w entering b)) (held_rows w rows counts b)) (held_rows w rows counts b)
  pub above : (b : ℕ) → b < 24 → stop ≤ b → held_rows w rows' counts' b ≡ held_rows w rows counts b

-- a block of the set that is full, and so gets its row not; the blocks below it have theirs
pub record FullAt (w set : ℕ) (left : List ℕ) (blocks : ℕ) (entering rows counts rows' counts' : List ℕ) : Type 0 where
  pub block : ℕ
  pub inside : block < blocks
  pub member : in_set set block ≡ true
  pub new : mem same_list (overlay left (row_at w entering block)) (held_rows w rows counts block) ≡ false
  pub count : get_or counts block 0 ≡ 32
  pub handed : Handed w set left entering block rows counts rows' counts'

-- a row, overlaid as it leaves its block, is handed on to the blocks of the set, until one is full
pub record HandedOn (w set : ℕ) (left : List ℕ) (blocks : ℕ) (entering rows counts rows' counts' : List ℕ) (full : Bool) : Type 0 where
  pub all : full ≡ false → Handed w set left entering blocks rows counts rows' counts'
  pub stopped : full ≡ true → FullAt w set left blocks entering rows counts rows' counts'

-- b is a block that has handed on fewer rows than it has, or 24 where there is none
pub record WaitingAt (counts done : List ℕ) (b : ℕ) : Type 0 where
  pub waits : b < 24 → get_or done b 0 < get_or counts b 0
  pub none : 24 ≤ b → (c : ℕ) → c < 24 → get_or counts c 0 ≤ get_or done c 0
