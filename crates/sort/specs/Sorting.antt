-- Rows put in dictionary order in their place. Definitions only.
use Rattle.std.specs.Prelude.{List, ◌++◌, ℕ, ◌*◌, ◌-◌, length, take, drop, replicate}
use Rattle.cache.specs.References.{nothing}
use Rattle.model.specs.Computed.{insert_row}
use Rattle.rows.specs.Rows.{rows_of, flat}

-- the first row of w numbers, put in its place among the `others` rows after it
abbrev pub inserted_first : ℕ → ℕ → List ℕ → List (List ℕ)
inserted_first w others l = insert_row (take w l) (rows_of w others (drop w l))

-- "A block has at most 32 distinct reaching and 32 distinct live states."; "unfilled rows hold 65,535"
abbrev pub block_part : ℕ → List (List ℕ) → List ℕ
block_part w rows = flat rows ++ replicate (32 * w - length (flat rows)) nothing
