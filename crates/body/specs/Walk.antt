-- Where the blocks of a task stand in its body. Definitions only.
use Rattle.std.specs.Prelude.{◌≡◌, Bool, true, false, List, [], ◌∷◌, ◌++◌, ℕ, ◌+◌, ◌-◌, length, replicate}
use Rattle.model.specs.Tasks.{Task}
use Rattle.body.specs.Layout.{Body, block_bytes}
use Rattle.body.specs.Decode.{Decoded, broken, decoded, decode}

-- where each block begins, if the first begins at `at`
abbrev pub starts_from : ℕ → Task → List ℕ
starts_from at [] = []
starts_from at (x ∷ t) = at ∷ starts_from (at + length (block_bytes x)) t

-- what the walk of a body answers: whether it keeps its layout, how many blocks it has, and where each begins
abbrev pub kept_of : Decoded → Bool
kept_of broken = false
kept_of (decoded t) = true

abbrev pub blocks_of : Decoded → ℕ
blocks_of broken = 0
blocks_of (decoded t) = length t

abbrev pub starts_of : Decoded → List ℕ
starts_of broken = replicate 24 0
starts_of (decoded t) = starts_from 2 t ++ replicate (24 - length t) 0

-- a body that keeps its layout, with its number of blocks and where each begins
abbrev pub Walked : Body → ℕ → List ℕ → Type 0
Walked s blocks starts = (kept_of (decode s) ≡ true) × (blocks ≡ blocks_of (decode s)) × (starts ≡ starts_of (decode s))
