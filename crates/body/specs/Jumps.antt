-- Sets of basic blocks as bits of a number, and the blocks that they lead to. Definitions only.
use Rattle.std.specs.Prelude.{◌≡◌, ◌↔◌, Bool, true, ◌&&◌, List, ◌++◌, map, ℕ, zero, suc, ◌-◌, ◌^◌, ◌<◌, eqb, length, get_or, replicate}
use Rattle.cache.specs.Sets.{bits, in_set}
use Rattle.model.specs.Lists.{mem}
use Rattle.model.specs.Tasks.{Block, Task}
use Rattle.model.specs.Computed.{unmasked}

-- the set of the numbers in a list
abbrev pub set_of : List ℕ → ℕ
set_of l = bits 24 (λ c. mem eqb c l)

-- for each of 24 blocks the set of its successors; 0 for a block that is not there
abbrev pub jump_sets : Task → List ℕ
jump_sets t = map (λ (x : Block). set_of x.successors) t ++ replicate (24 - length t) 0

-- the set of the unmasked blocks
abbrev pub unmasked_set : Task → ℕ
unmasked_set t = bits (length t) (unmasked t)

-- the blocks that sets of blocks lead to from the block `first`, itself among them
pub data LedTo (sets : List ℕ) (first : ℕ) : ℕ → Type 0 where
  begins : LedTo sets first first
  goes_on : {b c : ℕ} → LedTo sets first b → in_set (get_or sets b 0) c ≡ true → LedTo sets first c

-- the set of exactly the blocks with a property
pub record Exactly (P : ℕ → Type 0) (set : ℕ) : Type 0 where
  pub below : set < 2 ^ 24
  pub members : (c : ℕ) → (in_set set c ≡ true) ↔ P c

-- each block below b is in the set
abbrev pub has_below : ℕ → ℕ → Bool
has_below set zero = true
has_below set (suc b) = in_set set b && has_below set b
