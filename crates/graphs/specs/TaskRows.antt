-- The states of a task in memory, and check 11 of a task. Definitions, and that gathering all rows keeps lengths.
use Rattle.std.specs.Prelude.{◌≡◌, Bool, true, false, ◌||◌, List, ℕ, ◌<◌, length, take, drop}
use Rattle.cache.specs.Cache.{Cache}
use Rattle.model.specs.Tasks.{Task}
use Rattle.model.specs.Computed.{reaching, living}
use Rattle.rows.specs.Rows.{kind_length, area_length}
use Rattle.gather.specs.Graph.{Graph, too_many}
use Rattle.gather.specs.Gathered.{GatheredRows, GatheredAs}

-- check 11: "a block with 33 or more reaching or live states"
abbrev pub test11 : Cache → Task → Bool
test11 k t = too_many (reaching k t) 24 || too_many (living k t) 24

-- what gathering the rows of one kind of states leaves, each of w numbers: the answer is whether some block has more than 32; if none has, all
-- are in memory, else what it holds is left open
pub record KindRows (w : ℕ) (all : ℕ → List (List ℕ)) (rows counts : List ℕ) (full : Bool) : Type 0 where
  pub long : length rows ≡ kind_length w
  pub many : length counts ≡ 24
  pub answer : full ≡ too_many all 24
  pub gathered : full ≡ false → (b : ℕ) → b < 24 → GatheredRows w all rows counts b

-- the same for both kinds of states of a task
pub record TaskRows (k : Cache) (t : Task) (reaching_rows reaching_counts live_rows live_counts : List ℕ) (full : Bool) : Type 0 where
  pub reaching_long : length reaching_rows ≡ kind_length k.width
  pub reaching_many : length reaching_counts ≡ 24
  pub live_long : length live_rows ≡ kind_length k.width
  pub live_many : length live_counts ≡ 24
  pub answer : full ≡ test11 k t
  pub reached : full ≡ false → (b : ℕ) → b < 24 → GatheredRows k.width (reaching k t) reaching_rows reaching_counts b
  pub lived : full ≡ false → (b : ℕ) → b < 24 → GatheredRows k.width (living k t) live_rows live_counts b

-- the same in a work area: reaching rows from its beginning on, live rows after them
pub record AreaRows (k : Cache) (t : Task) (area reached lived : List ℕ) (full : Bool) : Type 0 where
  pub long : length area ≡ area_length k.width
  pub rows : TaskRows k t (take (kind_length k.width) area) reached (take (kind_length k.width) (drop (kind_length k.width) area)) lived full

-- what gathering along two graphs leaves in a work area, one part after the other, where `In` says what gathering along one leaves; where a block of the
-- first graph is full, the second is not asked for
pub record Both (In : Graph → List ℕ → List ℕ → Bool → Type 0) (r l : Graph) (area reached lived : List ℕ) (full : Bool) : Type 0 where
  pub long : length area ≡ area_length r.width
  pub many : length lived ≡ 24
  pub first : Bool
  pub reaching : In r (take (kind_length r.width) area) reached first
  pub stopped : first ≡ true → full ≡ true
  pub live : first ≡ false → In l (take (kind_length r.width) (drop (kind_length r.width) area)) lived full

-- the same where all rows are gathered
abbrev pub BothGathered : Graph → Graph → List ℕ → List ℕ → List ℕ → Bool → Type 0
BothGathered = Both GatheredAs

-- `In` tells how long the rows and their counts are
abbrev pub Sizes : (Graph → List ℕ → List ℕ → Bool → Type 0) → Type 0
Sizes In = (g : Graph) (rows counts : List ℕ) (full : Bool) → In g rows counts full → (length rows ≡ kind_length g.width) × (length counts ≡ 24)

pub all_sizes : Sizes GatheredAs
all_sizes g rows counts full h = (h.long, h.many)
