-- A row appended to the rows of a block. Definitions only.
use Rattle.std.specs.Prelude.{cond, List, ◌++◌, ℕ, ◌+◌, ◌*◌, leb, length, take, drop}
use Rattle.cache.specs.Cache.{Row}
use Rattle.model.specs.Lists.{mem}
use Rattle.model.specs.Computed.{same_list}
use Rattle.rows.specs.Rows.{rows_of}
use Rattle.rows.specs.declared.Appended.{Appended}
use Rattle.rows.specs.declared.Appended.TheVariants.{Present, Added, Full}

-- the list with the row from `at` on, and all else as it was
abbrev pub put : List ℕ → ℕ → List ℕ → List ℕ
put l at row = take at l ++ (row ++ drop (at + length row) l)

-- the answer, for a part with `count` rows: a row that is there stays the only one, and there is no room for more than 32
abbrev pub appended : List ℕ → ℕ → Row → Appended
appended part count row = cond (mem same_list row (rows_of (length row) count part)) Present (cond (leb 32 count) Full Added)

-- the part afterwards: a row that was added stands after the others
abbrev pub part_after : Appended → List ℕ → ℕ → Row → List ℕ
part_after Present part count row = part
part_after Full part count row = part
part_after Added part count row = put part (length row * count) row
