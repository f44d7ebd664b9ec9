-- The graphs along which the states of a task are gathered. Definitions only.
use Rattle.std.specs.Prelude.{List, [], ◌∷◌, ◌++◌, map, ℕ, zero, suc, ◌*◌, ◌-◌, eqb, length, replicate}
use Rattle.cache.specs.References.{nothing}
use Rattle.cache.specs.Cache.{Cache, empty_row, with_references, first_references}
use Rattle.cache.specs.Sets.{bits}
use Rattle.model.specs.Lists.{mem}
use Rattle.model.specs.Tasks.{Block, Task, block, end}
use Rattle.body.specs.Jumps.{jump_sets}
use Rattle.body.specs.Turned.{turned}
use Rattle.gather.specs.Graph.{Graph, row_at}
use Rattle.gather.specs.Gathered.{graph_of}
use Rattle.rows.specs.Rows.{flat}

-- a row of w numbers for each of 24 blocks, and the row of nothings for a block that is not there
abbrev pub rows_for : ℕ → (Block → List ℕ) → Task → List ℕ
rows_for w f t = flat (map f t) ++ replicate (24 * w - length (flat (map f t))) nothing

-- the last and the first references of each block
abbrev pub last_rows : Cache → Task → List ℕ
last_rows k t = rows_for k.width (λ (x : Block). with_references k (empty_row k) x.references) t

abbrev pub first_rows : Cache → Task → List ℕ
first_rows k t = rows_for k.width (λ (x : Block). first_references k x.references) t

abbrev pub no_rows : ℕ → List ℕ
no_rows w = replicate (24 * w) nothing

-- the set of the predecessors of the block s
abbrev pub predecessor_set : Task → ℕ → ℕ
predecessor_set t s = bits 24 (λ b. mem eqb s (block t b).successors)

-- the sets of `left` blocks from s on
abbrev pub predecessor_sets : Task → ℕ → ℕ → List ℕ
predecessor_sets t zero s = []
predecessor_sets t (suc left) s = predecessor_set t s ∷ predecessor_sets t left (suc s)

-- reaching states go on to successors, and a block's last references are laid over what reaches it
abbrev pub reach_graph : Cache → Task → Graph
reach_graph k t = record {
  width = k.width;
  blocks = length t;
  sets = jump_sets t;
  leaving = no_rows k.width;
  entering = last_rows k t;
  first = 0;
  row = with_references k (empty_row k) (block t 0).references;
}

-- live states go back to predecessors, and a block's first references are laid over what is live after it
abbrev pub live_graph : Cache → Task → Graph
live_graph k t = record {
  width = k.width;
  blocks = length t;
  sets = predecessor_sets t 24 0;
  leaving = first_rows k t;
  entering = no_rows k.width;
  first = end t;
  row = empty_row k;
}

-- ---- the same graphs as the code makes them

-- the graph of reaching states, of the sets of successors and the last references, in rows of w numbers
abbrev pub reach_of : ℕ → ℕ → List ℕ → List ℕ → Graph
reach_of w blocks sets last = graph_of w blocks sets (no_rows w) last 0 (row_at w last 0)

-- the graph of live states, of the sets of predecessors and the first references
abbrev pub live_along : ℕ → ℕ → List ℕ → List ℕ → Graph
live_along w blocks before first = graph_of w blocks before first (no_rows w) (blocks - 1) (replicate w nothing)

-- the same, of the sets of successors
abbrev pub live_of : ℕ → ℕ → List ℕ → List ℕ → Graph
live_of w blocks sets first = live_along w blocks (turned sets blocks) first
