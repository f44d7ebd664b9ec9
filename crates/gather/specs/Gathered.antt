-- What gathering leaves in memory. Definitions only.
use Rattle.std.specs.Prelude.{◌≡◌, Bool, false, List, ℕ, ◌*◌, ◌≤◌, ◌<◌, length, get_or}
use Rattle.model.specs.Computed.{sorted}
use Rattle.rows.specs.Rows.{Width, rows_of, part_of, kind_length}
use Rattle.gather.specs.declared.gather.BlockGraph.{BlockGraph}
use Rattle.gather.specs.Graph.{Graph, Listed, too_many}

-- the graph of the code's numbers
abbrev pub graph_of : ℕ → ℕ → List ℕ → List ℕ → List ℕ → ℕ → List ℕ → Graph
graph_of w blocks sets leaving entering first row =
    record { width = w; blocks = blocks; sets = sets; leaving = leaving; entering = entering; first = first; row = row }

-- what gathering takes: at most 24 blocks, a row for each in `leaving` and in `entering`, and memory that may hold anything
pub record GatherInput (w blocks : ℕ) (sets leaving entering : List ℕ) (first : ℕ) (rows counts : List ℕ) : Type 0 where
  pub width : Width w
  pub few : blocks ≤ 24
  pub inside : first < blocks
  pub each : length sets ≡ 24
  pub leaves : length leaving ≡ 24 * w
  pub enters : length entering ≡ 24 * w
  pub long : length rows ≡ kind_length w
  pub many : length counts ≡ 24

-- the graph that the code's graph means, in rows as wide as the one that it begins with; and what gathering along it takes
abbrev pub graph_meant : BlockGraph → Graph
graph_meant g = graph_of (length g.row.now) g.blocks g.sets.now g.leaving.now g.entering.now g.first g.row.now

abbrev pub GraphInput : BlockGraph → List ℕ → List ℕ → Type 0
GraphInput g rows counts = GatherInput (length g.row.now) g.blocks g.sets.now g.leaving.now g.entering.now g.first rows counts

-- the number of rows of the block b, and the rows, in some order
pub record GatheredRows (w : ℕ) (all : ℕ → List (List ℕ)) (rows counts : List ℕ) (b : ℕ) : Type 0 where
  pub count : get_or counts b 0 ≡ length (all b)
  pub list : sorted (rows_of w (length (all b)) (part_of w rows b)) ≡ all b

-- the answer is whether a block has more than 32 rows; if none has, all rows are in memory, else what it holds is left open
pub record GatheredAs (g : Graph) (rows counts : List ℕ) (full : Bool) : Type 0 where
  pub long : length rows ≡ kind_length g.width
  pub many : length counts ≡ 24
  pub answer : (all : ℕ → List (List ℕ)) → Listed g all → full ≡ too_many all 24
  pub gathered : full ≡ false → (all : ℕ → List (List ℕ)) → Listed g all → (b : ℕ) → b < 24 → GatheredRows g.width all rows counts b
