-- The rows that a graph of blocks gathers, block by block. Definitions only.
use Rattle.std.specs.Prelude.{◌≡◌, ◌↔◌, Bool, true, false, ◌||◌, List, ℕ, zero, suc, ◌*◌, ◌<◌, ltb, length, get_or, take, drop}
use Rattle.cache.specs.Sets.{in_set}
use Rattle.model.specs.Lists.{mem}
use Rattle.model.specs.Order.{Rising}
use Rattle.model.specs.Computed.{same_list}
use Rattle.rows.specs.Overlay.{overlay}

-- a graph of blocks: a row of the block b is handed on to each block in the set of b, overlaid by the row of `leaving` at b and then
-- by the row of `entering` at the block that gets it; it begins with one row at one block
pub record Graph : Type 0 where
  pub width : ℕ
  pub blocks : ℕ
  pub sets : List ℕ
  pub leaving : List ℕ
  pub entering : List ℕ
  pub first : ℕ
  pub row : List ℕ

-- the row of w numbers at the block b
abbrev pub row_at : ℕ → List ℕ → ℕ → List ℕ
row_at w rows b = take w (drop (w * b) rows)

-- what a row of b becomes at s
abbrev pub handed_on : Graph → ℕ → ℕ → List ℕ → List ℕ
handed_on g b s row = overlay (overlay row (row_at g.width g.leaving b)) (row_at g.width g.entering s)

-- the rows that the block b gets
pub data Gets (g : Graph) : ℕ → List ℕ → Type 0 where
  begins : Gets g g.first g.row
  handed : {b s : ℕ} {row : List ℕ} → Gets g b row → s < g.blocks → in_set (get_or g.sets b 0) s ≡ true → Gets g s (handed_on g b s row)

-- for each block the list of its rows, in dictionary order
abbrev pub Listed : Graph → (ℕ → List (List ℕ)) → Type 0
Listed g all = (b : ℕ) → Rising (all b) × ((row : List ℕ) → (mem same_list row (all b) ≡ true) ↔ Gets g b row)

-- one of the blocks below b has more than 32 rows
abbrev pub too_many : (ℕ → List (List ℕ)) → ℕ → Bool
too_many all zero = false
too_many all (suc b) = ltb 32 (length (all b)) || too_many all b
