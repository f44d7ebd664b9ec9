-- Whether each block lies on a complete path, computed; proofs/OnPath shows that it agrees with `OnCompletePath`.
use Rattle.std.specs.Prelude.{Bool, true, ◌&&◌, List, [], ◌∷◌, ℕ, zero, suc, eqb, length}
use Rattle.model.specs.Lists.{mem}
use Rattle.model.specs.Tasks.{Task, block, end}
use Rattle.model.specs.Computed.{inside, close, predecessors_from}

-- the successors of a block that are blocks of the task
abbrev pub onward : Task → ℕ → List ℕ
onward t b = inside t (block t b).successors

-- the blocks that paths from block 0 lead to, and those that paths lead from to the end block
abbrev pub from_entry : Task → List ℕ
from_entry t = close eqb (onward t) (length t) (inside t (0 ∷ []))

abbrev pub to_end : Task → List ℕ
to_end t = close eqb (predecessors_from 0 t) (length t) (inside t (end t ∷ []))

abbrev pub on_path : Task → ℕ → Bool
on_path t b = mem eqb b (from_entry t) && mem eqb b (to_end t)

-- the blocks below b are all on complete paths
abbrev pub on_path_below : Task → ℕ → Bool
on_path_below t zero = true
on_path_below t (suc b) = on_path t b && on_path_below t b

abbrev pub all_on_path : Task → Bool
all_on_path t = on_path_below t (length t)
