-- Document 01, "Paths and cache", and document 02, Points 5 and 6: the most that useful and replaced sets have in common at a point, and the numbers of
-- a task that are met by the end rows of all tasks. Definitions only.
use Rattle.std.specs.Prelude.{◌≡◌, Bool, false, ◌||◌, List, ℕ, zero, suc, ◌≤◌, ◌<◌, max, ltb, length, get_or}
use Rattle.std.specs.Int.Bits.{bit_and}
use Rattle.std.specs.Int.Count.{ones}
use Rattle.cache.specs.Sets.{bits}
use Rattle.model.specs.Lists.{best}
use Rattle.rows.specs.Overlay.{overlay}
use Rattle.row_sets.specs.Lanes.{lane_rows}
use Rattle.row_sets.specs.Sets.{useful_set, useful_sets, kept_set, replaced_sets, some_replaces}
use Rattle.pairs.specs.Ends.{ends_of}
use Rattle.pairs.specs.declared.ends.Ends.{Ends}
use Rattle.pairs.specs.declared.lives.Lives.{Lives}

-- these are the useful sets of the row at a point with some live rows, and `held` are the cache blocks that can be useful there
pub record UsefulSets (r : List ℕ) (held : ℕ) (us : List ℕ) : Type 0 where
  pub rest : List ℕ
  pub lives : List (List ℕ)
  pub kept-is : held ≡ kept_set r rest
  pub sets : us ≡ useful_sets r rest lives

-- the most cache blocks that a set has in common with one of some sets
abbrev pub most_common : ℕ → List ℕ → ℕ
most_common u vs = best (λ (v : ℕ). ones (bit_and u v)) vs

-- the most that one of the sets us has in common with one of the sets vs
abbrev pub sets_most : List ℕ → List ℕ → ℕ
sets_most us vs = best (λ (u : ℕ). most_common u vs) us

-- how many cache blocks the largest of some sets has
abbrev pub largest_of : List ℕ → ℕ
largest_of us = best ones us

-- none of the sets us has more in common with one of the sets vs than with `all`
abbrev pub NoMoreThanAll : List ℕ → List ℕ → ℕ → Type 0
NoMoreThanAll us vs all = (k : ℕ) → k < length us → most_common (get_or us k 0) vs ≤ ones (bit_and (get_or us k 0) all)

-- the most cache blocks that are useful in one task at a point and replaced by another, which ends with the rows fs: for a reaching row with each of
-- the live rows ls of the block
abbrev pub point_most : List ℕ → List ℕ → List (List ℕ) → List (List ℕ) → ℕ
point_most r rest ls fs = best (λ (l : List ℕ). most_common (useful_set r (overlay l rest)) (replaced_sets r fs)) ls

-- the same for a reaching row r with the useful sets us
abbrev pub useful_most : List ℕ → List ℕ → List (List ℕ) → ℕ
useful_most r us fs = sets_most us (replaced_sets r fs)

-- whether a row r, of which `held` can be useful, has more of these cache blocks than the number says among those where the end rows fs replace what
-- r holds: else it does not raise the number
abbrev pub may_raise : List ℕ → ℕ → ℕ → List (List ℕ) → Bool
may_raise r held number fs = ltb number (ones (bit_and held (bits (length r) (some_replaces fs r))))

-- whether a number below n passes the test
abbrev pub some_below : (ℕ → Bool) → ℕ → Bool
some_below test zero = false
some_below test (suc j) = test j || some_below test j

-- the end rows of task j
abbrev pub end_rows : Ends → ℕ → List (List ℕ)
end_rows ends j = ends_of ends.w ends.rows.now ends.counts.now j

-- the live rows of a block
abbrev pub live_rows : Lives → List (List ℕ)
live_rows lives = lane_rows lives.w lives.count lives.lanes.now

-- whether the row may raise one of the numbers of the first `tasks` tasks
abbrev pub may_raise_some : List ℕ → ℕ → Ends → List ℕ → ℕ → Bool
may_raise_some r held ends numbers tasks = some_below (λ j. may_raise r held (get_or numbers j 0) (end_rows ends j)) tasks

-- what the numbers of a task become for each task below `tasks`: the larger of the number and the most over the end rows of that task
pub record Met (most : List (List ℕ) → ℕ) (ends : Ends) (tasks : ℕ) (old new : List ℕ) : Type 0 where
  pub long : length new ≡ length old
  pub each : (j : ℕ) → j < tasks → get_or new j 0 ≡ max (get_or old j 0) (most (end_rows ends j))
  pub rest : (j : ℕ) → tasks ≤ j → get_or new j 0 ≡ get_or old j 0
