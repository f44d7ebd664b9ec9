-- The search for the point and the rows that make a pair number. Definitions only.
use Rattle.std.specs.Prelude.{◌≡◌, ◌⊎◌, true, false, List, [], ℕ, zero, suc, ◌+◌, ◌≤◌, ◌<◌, length, get_or, take}
use Rattle.std.specs.Int.Bits.{bit_and}
use Rattle.std.specs.Int.Count.{ones}
use Rattle.cache.specs.Cache.{Cache, Row, empty_row, with_references}
use Rattle.cache.specs.Sets.{in_set}
use Rattle.model.specs.Tasks.{Task, block}
use Rattle.model.specs.Computed.{unmasked}
use Rattle.points.specs.Points.{rest_of, left_rows, predecessors_of}
use Rattle.row_sets.specs.Sets.{useful_set, replaced_sets}
use Rattle.search.specs.declared.Point.{Point}
use Rattle.search.specs.declared.Found.{Found}

-- candidates: what a search may answer
abbrev pub Candidates : Type 1
Candidates = Found → Type 0

-- `new` is `old` or a candidate, and neither `old` nor a candidate has a larger cost
pub record Raised (C : Candidates) (old new : Found) : Type 0 where
  pub above : old.cost ≤ new.cost
  pub most : (x : Found) → C x → x.cost ≤ new.cost
  pub found : (new ≡ old) ⊎ C new

-- the candidates of the families numbered below n, where each tells the number of its family
abbrev pub Below : (Found → ℕ) → ℕ → (ℕ → Candidates) → Candidates
Below number_of n family x = (number_of x < n) × family (number_of x) x

-- ---- the rows at a point

-- the useful set of the row of the point p and of the live row numbered l with the set numbered e, which an end row replaces: the cost is one more
-- than what they have in common; and with each such set
abbrev pub AtEnd : Point → ℕ → ℕ → List ℕ → ℕ → Candidates
AtEnd p l set sets e x = x ≡ record { point = p; live = l; ending = e; cost = ones (bit_and set (get_or sets e 0)) + 1 }

abbrev pub OfSet : Point → ℕ → ℕ → List ℕ → Candidates
OfSet p l set sets = Below (λ x. x.ending) (length sets) (AtEnd p l set sets)

-- the row of the point with the live row numbered l, where the end rows replace these sets in it; and with each live row
abbrev pub AtLive : Point → Row → List Row → List ℕ → ℕ → Candidates
AtLive p row ls sets l = OfSet p l (useful_set row (get_or ls l [])) sets

abbrev pub OfLive : Point → Row → List Row → List ℕ → Candidates
OfLive p row ls sets = Below (λ x. x.live) (length ls) (AtLive p row ls sets)

-- the row of the point with each live row and each of the end rows fs
abbrev pub OfRow : Point → Row → List Row → List Row → Candidates
OfRow p row ls fs = OfLive p row ls (replaced_sets row fs)

-- ---- the rows before the block of a point, which refers to ms

-- the point p with the row before its block
abbrev pub OfDone : Cache → List ℕ → Point → Row → List Row → List Row → Candidates
OfDone k ms p row ls fs = OfRow p (with_references k row (take p.done ms)) ls fs

-- the point of block b with d references done, where it is the first of a path; and after the block a, with the reaching row of a numbered r
abbrev pub first_point : ℕ → ℕ → Point
first_point b d = record { block = b; first = true; before = 0; reaching = 0; done = d }

abbrev pub point_after : ℕ → ℕ → ℕ → ℕ → Point
point_after b d a r = record { block = b; first = false; before = a; reaching = r; done = d }

-- the reaching row numbered r of the block a; and each of its reaching rows rs
abbrev pub AtReaching : Cache → List ℕ → ℕ → ℕ → ℕ → List Row → List Row → List Row → ℕ → Candidates
AtReaching k ms b d a rs ls fs r = OfDone k ms (point_after b d a r) (get_or rs r []) ls fs

abbrev pub OfReaching : Cache → List ℕ → ℕ → ℕ → ℕ → List Row → List Row → List Row → Candidates
OfReaching k ms b d a rs ls fs = Below (λ x. x.point.reaching) (length rs) (AtReaching k ms b d a rs ls fs)

-- the block a if it is in the set, given the reaching rows of each block; and each block below `blocks`
abbrev pub AtBefore : Cache → List ℕ → ℕ → ℕ → ℕ → (ℕ → List Row) → List Row → List Row → ℕ → Candidates
AtBefore k ms b d set rs ls fs a x = (in_set set a ≡ true) × OfReaching k ms b d a (rs a) ls fs x

abbrev pub OfPredecessors : Cache → List ℕ → ℕ → ℕ → ℕ → ℕ → (ℕ → List Row) → List Row → List Row → Candidates
OfPredecessors k ms b d set blocks rs ls fs = Below (λ x. x.point.before) blocks (AtBefore k ms b d set rs ls fs)

-- the empty row before block 0
abbrev pub OfFirst : Cache → List ℕ → ℕ → ℕ → List Row → List Row → Candidates
OfFirst k ms b d ls fs x = (b ≡ 0) × OfDone k ms (first_point b d) (empty_row k) ls fs x

abbrev pub OfBefore : Cache → List ℕ → ℕ → ℕ → ℕ → ℕ → (ℕ → List Row) → List Row → List Row → Candidates
OfBefore k ms b d set blocks rs ls fs x = OfFirst k ms b d ls fs x ⊎ OfPredecessors k ms b d set blocks rs ls fs x

-- ---- the points of a task

-- the fewest references done at a point of a block that has so many
abbrev pub fewest_done : ℕ → ℕ
fewest_done zero = 0
fewest_done (suc n) = 1

-- the points of block b where d references are done, given the live rows of the block; and each number of them that may be done
abbrev pub AtDone : Cache → List ℕ → ℕ → ℕ → ℕ → (ℕ → List Row) → List Row → List Row → ℕ → Candidates
AtDone k ms b set blocks rs ls fs d x = (fewest_done (length ms) ≤ d) × OfBefore k ms b d set blocks rs (left_rows (rest_of k ms d) ls) fs x

abbrev pub OfBlock : Cache → List ℕ → ℕ → ℕ → ℕ → (ℕ → List Row) → List Row → List Row → Candidates
OfBlock k ms b set blocks rs ls fs = Below (λ x. x.point.done) (length ms + 1) (AtDone k ms b set blocks rs ls fs)

-- block b of the task if it is unmasked, given the reaching and the live rows of each block; and each block
abbrev pub AtBlock : Cache → Task → (ℕ → List Row) → (ℕ → List Row) → List Row → ℕ → Candidates
AtBlock k t rs ls fs b x = (unmasked t b ≡ true) × OfBlock k (block t b).references b (predecessors_of t b) (length t) rs (ls b) fs x

abbrev pub OfTask : Cache → Task → (ℕ → List Row) → (ℕ → List Row) → List Row → Candidates
OfTask k t rs ls fs = Below (λ x. x.point.block) (length t) (AtBlock k t rs ls fs)

-- what the search begins with: no candidate, of no cost
abbrev pub none_found : Found
none_found = record { point = first_point 0 0; live = 0; ending = 0; cost = 0 }

-- what it answers: a candidate with the largest cost, where there is one
abbrev pub Searched : Cache → Task → (ℕ → List Row) → (ℕ → List Row) → List Row → Found → Type 0
Searched k t rs ls fs = Raised (OfTask k t rs ls fs) none_found
