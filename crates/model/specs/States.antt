-- Document 01, "Paths and cache": reaching and live states, over paths; document 02, Point 6: the states at a point. Definitions only.
-- A name with `On` is over a cache of any kind, a `Policy`; the same name without it is that at document 01's cache.
use Rattle.std.specs.Prelude.{◌≡◌, ◌≢◌, ◌⊎◌, List, [], ◌∷◌, ◌++◌, ℕ, ◌<◌, length, take, drop}
use Rattle.cache.specs.Cache.{Cache, Row, Policy, one_line, refer_all}
use Rattle.model.specs.Lists.{Each}
use Rattle.model.specs.Tasks.{Task, block, Path, PathFrom, PathTo, end, references}

-- "Reaching states of a block: rows after all its references, over every path from block 0 to it."
abbrev pub ReachesOn : Policy → Task → ℕ → Row → Type 0
ReachesOn q t b row = (p : Path) × PathFrom t 0 p b × (row ≡ refer_all q q.first (references t (0 ∷ p)))

abbrev pub Reaches : Cache → Task → ℕ → Row → Type 0
Reaches k = ReachesOn (one_line k)

-- "Live states of a block: for each cache block, the first reference to it after the block's end, over every way on to the end of
-- a complete path. At the end block stopping is one way on and gives the row of nothings.": there the way on p may be empty
abbrev pub LivesOn : Policy → Task → ℕ → Row → Type 0
LivesOn q t b row = (p : Path) × PathFrom t b p (end t) × (row ≡ q.next (references t p))

abbrev pub Lives : Cache → Task → ℕ → Row → Type 0
Lives k = LivesOn (one_line k)

-- document 02, Point 6: the rows where the first d references of the block b are done, over every path from block 0 to it
abbrev pub ReachesPointOn : Policy → Task → ℕ → ℕ → Row → Type 0
ReachesPointOn q t b d row =
    (before : Path) × PathTo t before b × (row ≡ refer_all q q.first (references t before ++ take d (block t b).references))

abbrev pub ReachesPoint : Cache → Task → ℕ → ℕ → Row → Type 0
ReachesPoint k = ReachesPointOn (one_line k)

-- for each cache block the first reference to it after those d, over every way on to the end of a complete path
abbrev pub LivesPointOn : Policy → Task → ℕ → ℕ → Row → Type 0
LivesPointOn q t b d row = (p : Path) × PathFrom t b p (end t) × (row ≡ q.next (drop d (block t b).references ++ references t p))

abbrev pub LivesPoint : Cache → Task → ℕ → ℕ → Row → Type 0
LivesPoint k = LivesPointOn (one_line k)

-- no two rows of the list are equal
abbrev pub Different : List Row → Type 0
Different [] = Unit {0}
Different (row ∷ rows) = Each (λ (other : Row). row ≢ other) rows × Different rows

-- there are 33 different rows that are states
pub record ThirtyThree (State : Row → Type 0) : Type 0 where
  pub rows : List Row
  pub many : length rows ≡ 33
  pub different : Different rows
  pub states : Each State rows

-- check 11: "a block with 33 or more reaching or live states"
abbrev pub Fault11On : Policy → Task → Type 0
Fault11On q t = (b : ℕ) × (b < length t) × (ThirtyThree (ReachesOn q t b) ⊎ ThirtyThree (LivesOn q t b))

abbrev pub Fault11 : Cache → Task → Type 0
Fault11 k = Fault11On (one_line k)
