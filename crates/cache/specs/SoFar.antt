-- Document 02, Point 4: both rows after every reference read. Definitions only.
use Rattle.std.specs.Prelude.{◌≡◌, ◌≢◌, ◌⊎◌, List, [], ◌∷◌, ◌++◌, ℕ}
use Rattle.cache.specs.References.{nothing, Real, All}
use Rattle.cache.specs.Cache.{Cache, Row, empty_row, with_references, first_references}

-- "after every reference read, both rows are those of the references so far, 65,535 where there is none": the row of the first
-- reference to each cache block, and that of the last, which is what the cache holds after them. In words, for each
-- cache block: `CellSoFar` (proofs/SoFarLaws, `cell_so_far`).
pub record RowsSoFar (k : Cache) (ms : List ℕ) (first last : Row) : Type 0 where
  pub firsts : first ≡ first_references k ms
  pub lasts : last ≡ with_references k (empty_row k) ms

-- one more reference, m: for every list of references, none of which is the mark for nothing, from its rows to those of the list
-- with m after it
abbrev pub OneMore : Cache → ℕ → Row → Row → Row → Row → Type 0
OneMore k m first last first' last' = (ms : List ℕ) → All Real ms → RowsSoFar k ms first last → RowsSoFar k (ms ++ (m ∷ [])) first' last'

-- ---- the rows in words, for a cache block c

-- none of the references ms goes to c
abbrev pub NoneTo : Cache → ℕ → List ℕ → Type 0
NoneTo k c ms = All (λ m. k.place m ≢ c) ms

-- m is one of the references ms and goes to c
pub record ReferenceTo (k : Cache) (c : ℕ) (ms : List ℕ) (m : ℕ) : Type 0 where
  pub before : List ℕ
  pub after : List ℕ
  pub all : ms ≡ before ++ (m ∷ after)
  pub goes : k.place m ≡ c

-- m is the first of the references ms that goes to c
abbrev pub FirstTo : Cache → ℕ → List ℕ → ℕ → Type 0
FirstTo k c ms m = (x : ReferenceTo k c ms m) × NoneTo k c x.before

-- m is the last of the references ms that goes to c
abbrev pub LastTo : Cache → ℕ → List ℕ → ℕ → Type 0
LastTo k c ms m = (x : ReferenceTo k c ms m) × NoneTo k c x.after

-- what both rows hold at c: the first and the last reference to it, "65,535 where there is none"
pub record CellSoFar (k : Cache) (c : ℕ) (ms : List ℕ) (first last : ℕ) : Type 0 where
  pub first-is : FirstTo k c ms first ⊎ (NoneTo k c ms × (first ≡ nothing))
  pub last-is : LastTo k c ms last ⊎ (NoneTo k c ms × (last ≡ nothing))
