-- Document 01, "Calls": Row. Definitions only.
use Rattle.std.specs.Prelude.{Bool, true, false, ◌&&◌, cond, List, [], ℕ, ◌+◌, ◌*◌, eqb, ltb, leb, length, get_or, take, drop}
use Rattle.cache.specs.Cache.{Row}
use Rattle.rows.specs.Rows.{Area, rows_of, part_of, kind_length, count_start, area_length}

-- 0 for reaching rows, and where live rows begin for live ones
abbrev pub kind_start : ℕ → Bool → ℕ
kind_start w true = kind_length w
kind_start w false = 0

-- the count of a block's rows in the area: 24 reaching counts, then 24 live counts
abbrev pub count_in : ℕ → Area → Bool → ℕ → ℕ
count_in w area true b = get_or area (count_start w + 24 + b) 0
count_in w area false b = get_or area (count_start w + b) 0

-- "an empty part if the area's length is wrong, the block is 24 or more, the count is over 32, or the number is not below the count"
abbrev pub has_row : ℕ → Area → Bool → ℕ → ℕ → Bool
has_row w area live b k =
    eqb (length area) (area_length w) && (ltb b 24 && (leb (count_in w area live b) 32 && ltb k (count_in w area live b)))

-- where the row stands and how long it is; an empty part at 0 where there is none
abbrev pub row_start : ℕ → Area → Bool → ℕ → ℕ → ℕ
row_start w area live b k = cond (has_row w area live b k) (kind_start w live + (32 * b + k) * w) 0

abbrev pub row_length : ℕ → Area → Bool → ℕ → ℕ → ℕ
row_length w area live b k = cond (has_row w area live b k) w 0

-- "Row hands back the asked row as that part of the area"
abbrev pub row_part : ℕ → Area → Bool → ℕ → ℕ → Row
row_part w area live b k = cond (has_row w area live b k) (take w (drop (kind_start w live + (32 * b + k) * w) area)) []

-- the rows of a block in the area, as many as its count says
abbrev pub rows_in : ℕ → Area → Bool → ℕ → List Row
rows_in w area live b = rows_of w (count_in w area live b) (part_of w (drop (kind_start w live) area) b)
