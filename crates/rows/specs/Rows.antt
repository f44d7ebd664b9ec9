-- Rows one after the other in a list of numbers. Definitions only.
use Rattle.std.specs.Prelude.{◌≡◌, List, [], ◌∷◌, ◌++◌, ℕ, zero, suc, ◌+◌, ◌*◌, ◌%◌, ◌≤◌, take, drop}
use Rattle.cache.specs.Cache.{Row}

-- how wide a row may be: chunks of sixteen numbers, at most two
pub record Width (w : ℕ) : Type 0 where
  pub chunks : w % 16 ≡ 0
  pub narrow : w ≤ 32

-- the first `count` rows of w numbers each
abbrev pub rows_of : ℕ → ℕ → List ℕ → List Row
rows_of w zero l = []
rows_of w (suc count) l = take w l ∷ rows_of w count (drop w l)

-- the numbers of a work area
abbrev pub Area : Type 0
Area = List ℕ

-- the part of a block's rows: "The row numbered k of block b stands at (32b + k) times 16"
abbrev pub part_of : ℕ → Area → ℕ → List ℕ
part_of w area b = take (32 * w) (drop (32 * w * b) area)

-- the work area for rows of w numbers: how long the rows of one kind are, 32 for each of 24 blocks; where the counts begin, after the
-- reaching rows and the live rows; how long the area is
abbrev pub kind_length : ℕ → ℕ
kind_length w = 24 * (32 * w)

abbrev pub count_start : ℕ → ℕ
count_start w = 2 * kind_length w

abbrev pub area_length : ℕ → ℕ
area_length w = count_start w + 256

-- rows one after the other
abbrev pub flat : List Row → List ℕ
flat [] = []
flat (r ∷ rs) = r ++ flat rs
