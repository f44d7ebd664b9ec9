-- Document 02, Point 6: the rows at the points of a block, from the rows before it and after it. Definitions only.
use Rattle.std.specs.Prelude.{◌≡◌, Bool, true, cond, List, [], ◌∷◌, ◌++◌, map, ℕ, zero, suc, ◌*◌, ◌≤◌, eqb, ltb, length, get_or, drop}
use Rattle.cache.specs.Cache.{Cache, Row, empty_row, hits}
use Rattle.cache.specs.Firsts.{firsts_over}
use Rattle.cache.specs.Sets.{in_set}
use Rattle.model.specs.Tasks.{Task}
use Rattle.body.specs.Jumps.{jump_sets}
use Rattle.body.specs.Turned.{turned}
use Rattle.rows.specs.Overlay.{overlay}
use Rattle.gather.specs.Graph.{row_at}

-- whether the reference numbered d of ms hits in the row, or there is none
abbrev pub hits_next : Cache → Row → List ℕ → ℕ → Bool
hits_next k row ms d = cond (ltb d (length ms)) (hits k row (get_or ms d 0)) true

-- the first references of what is left of the references ms after d of them
abbrev pub rest_of : Cache → List ℕ → ℕ → Row
rest_of k ms d = firsts_over k (drop d ms) (empty_row k)

-- room for 17 rows: the row numbered d is that after d references; those after all references are left open
pub record Rests (k : Cache) (ms rests : List ℕ) : Type 0 where
  pub long : length rests ≡ 17 * k.width
  pub each : (d : ℕ) → d ≤ length ms → row_at k.width rests d ≡ rest_of k ms d

-- live rows, overlaid by the first references of what is left
abbrev pub left_rows : Row → List Row → List Row
left_rows rest ls = map (λ (l : Row). overlay l rest) ls

-- ---- the rows before a block, given the rows of each block

-- the rows of those of `left` blocks from p on that are in the set
abbrev pub rows_in : ℕ → (ℕ → List Row) → ℕ → ℕ → List Row
rows_in set rs zero p = []
rows_in set rs (suc left) p = cond (in_set set p) (rs p) [] ++ rows_in set rs left (suc p)

-- the blocks that lead to the block b
abbrev pub predecessors_of : Task → ℕ → ℕ
predecessors_of t b = get_or (turned (jump_sets t) (length t)) b 0

-- the rows before the block b: those of its predecessors, which are the blocks of the set, and the empty row too for block 0
abbrev pub rows_before : Cache → ℕ → ℕ → (ℕ → List Row) → ℕ → List Row
rows_before k blocks set rs b = cond (eqb b 0) (empty_row k ∷ []) [] ++ rows_in set rs blocks 0
