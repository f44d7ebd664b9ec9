-- Rows side by side: what the rows hold at one cache block stands together, so that all of them are compared with one memory block at once. Definitions only.
use Rattle.std.specs.Prelude.{cond, List, [], ◌∷◌, ℕ, zero, suc, ◌+◌, ◌*◌, eqb}
use Rattle.cache.specs.References.{nothing}
use Rattle.cache.specs.Cache.{Row, held, row_from}

-- the row numbered l of 32 rows of w numbers side by side: its cache block c stands at 32 c + l
abbrev pub lane_row : ℕ → List ℕ → ℕ → Row
lane_row w lanes l = row_from 0 w (λ (c : ℕ). held lanes (32 * c + l))

-- `left` of these rows, from the row numbered l on
abbrev pub lane_rows_from : ℕ → List ℕ → ℕ → ℕ → List Row
lane_rows_from w lanes zero l = []
lane_rows_from w lanes (suc left) l = lane_row w lanes l ∷ lane_rows_from w lanes left (suc l)

-- the first `count` of them
abbrev pub lane_rows : ℕ → ℕ → List ℕ → List Row
lane_rows w count lanes = lane_rows_from w lanes count 0

-- the bit of a cache block in a useful set, where the reaching row holds m and the live row `held`, overlaid by x
abbrev pub marked_bit : ℕ → ℕ → ℕ → ℕ → ℕ
marked_bit x m bit held = cond (eqb (cond (eqb x nothing) held x) m) bit 0
