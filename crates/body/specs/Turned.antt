-- Sets of blocks turned round, as the code makes them. Definitions only.
use Rattle.std.specs.Prelude.{List, ◌++◌, ℕ, ◌-◌, get_or, replicate}
use Rattle.cache.specs.Cache.{row_from}
use Rattle.cache.specs.Sets.{bits, in_set}

-- the blocks below B whose set has the block s
abbrev pub leading_to : List ℕ → ℕ → ℕ → ℕ
leading_to sets B s = bits B (λ b. in_set (get_or sets b 0) s)

-- for each of 24 blocks the blocks whose set has it; 0 for a block that is not there
abbrev pub turned : List ℕ → ℕ → List ℕ
turned sets B = row_from 0 B (leading_to sets B) ++ replicate (24 - B) 0
