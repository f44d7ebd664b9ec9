-- The tasks of a file, its cache, and the pair number of two tasks. Definitions only.
use Rattle.std.specs.Prelude.{List, map, ℕ}
use Rattle.cache.specs.Cache.{Cache}
use Rattle.cache.specs.Shape.{shaped}
use Rattle.cache.specs.declared.blocks.CacheShape.{CacheShape}
use Rattle.model.specs.Tasks.{Task, task}
use Rattle.model.specs.Numbers.{PairNumber}
use Rattle.model.specs.Computed.{pair_number}
use Rattle.body.specs.Layout.{Body}
use Rattle.body.specs.Decode.{decode, task_of}
use Rattle.project.specs.File.{File, cache_blocks, bodies}

-- the tasks that bodies are the bytes of
abbrev pub tasks_in : List Body → List Task
tasks_in bs = map (λ (b : Body). task_of (decode b)) bs

abbrev pub tasks_of : File → List Task
tasks_of s = tasks_in (bodies s)

-- the cache of a file: "Byte 5 is n, the cache blocks"
abbrev pub file_shape : File → CacheShape
file_shape s = record { blocks = cache_blocks s }

-- in rows of w places, and with a place for each cache block
abbrev pub file_cache_in : ℕ → File → Cache
file_cache_in w s = shaped w (file_shape s)

abbrev pub file_cache : File → Cache
file_cache s = file_cache_in (cache_blocks s) s

-- "Pair number of task i preempted by task j", in an accepted file
abbrev pub file_pair : File → ℕ → ℕ → ℕ
file_pair s i j = pair_number (file_cache s) (task (tasks_of s) i) (task (tasks_of s) j)

-- the same over paths: `pair i j` is the pair number of every two tasks
abbrev pub PairNumbers : File → (ℕ → ℕ → ℕ) → Type 0
PairNumbers s pair = (i j : ℕ) → PairNumber (file_cache s) (task (tasks_of s) i) (task (tasks_of s) j) (pair i j)
