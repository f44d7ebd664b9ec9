-- Document 01, "Calls": the work area of the states of one task, for rows of every width. Definitions only.
use Rattle.std.specs.Prelude.{List, [], ◌∷◌, ◌++◌, ℕ, zero, suc, length, replicate}
use Rattle.cache.specs.Cache.{Cache, Row}
use Rattle.model.specs.Tasks.{Task}
use Rattle.model.specs.Computed.{reaching, living}
use Rattle.rows.specs.Rows.{Area}
use Rattle.sort.specs.Sorting.{block_part}

-- "The row numbered k of block b stands at (32b + k) times 16": the parts of `left` blocks from b on
abbrev pub block_parts : ℕ → (ℕ → List Row) → ℕ → ℕ → List ℕ
block_parts w rows zero b = []
block_parts w rows (suc left) b = block_part w (rows b) ++ block_parts w rows left (suc b)

-- how many rows each of `left` blocks from b on has; "0 for absent blocks"
abbrev pub counts_from : (ℕ → List Row) → ℕ → ℕ → List ℕ
counts_from rows zero b = []
counts_from rows (suc left) b = length (rows b) ∷ counts_from rows left (suc b)

-- "live rows the same, from 12,288 on"; "From 24,576 on stand 24 reaching counts and 24 live counts .., then zeros."
abbrev pub area_of : Cache → Task → Area
area_of k t =
    block_parts k.width (reaching k t) 24 0 ++ (block_parts k.width (living k t) 24 0 ++ (counts_from (reaching k t) 24 0 ++ (counts_from (living k t) 24 0 ++ replicate 208 0)))
