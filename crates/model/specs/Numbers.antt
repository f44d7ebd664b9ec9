-- Document 01, "Paths and cache", and document 02, Points 1, 5 and 6: the pair number, against paths. Definitions only.
-- A name with `On` is over a cache of any kind, a `Policy`; the same name without it is that at document 01's cache.
use Rattle.std.specs.Prelude.{◌≡◌, ◌⊎◌, ℕ, ◌≤◌}
use Rattle.cache.specs.Cache.{Cache, Row, Policy, one_line}
use Rattle.cache.specs.Sets.{useful_replaced, useful_used}
use Rattle.model.specs.Tasks.{Task, Unmasked, Allows, AllDone, end}
use Rattle.model.specs.States.{ReachesOn, ReachesPointOn, LivesPointOn}

-- a number for a reaching row and a live row of one point, and an end row of another task
abbrev pub Count : Type 0
Count = Row → Row → Row → ℕ

-- three rows that paths make: a reaching and a live one where `done` references of a block of i are done, and one that j ends with
pub record RowsOn (q : Policy) (i j : Task) : Type 0 where
  pub at : ℕ
  pub done : ℕ
  pub reaching : Row
  pub live : Row
  pub ending : Row
  pub reaches : ReachesPointOn q i at done reaching
  pub lives : LivesPointOn q i at done live
  pub ends : ReachesOn q j (end j) ending

abbrev pub Rows : Cache → Task → Task → Type 0
Rows k = RowsOn (one_line k)

-- what v counts on three such rows
abbrev pub counted : Count → {q : Policy} {i j : Task} → RowsOn q i j → ℕ
counted v x = v x.reaching x.live x.ending

-- x is the most that v counts over all rows that paths make at the points of i with the property, and 0 where there are none
pub record MostOn (v : Count) (q : Policy) (i j : Task) (At : ℕ → ℕ → Type 0) (x : ℕ) : Type 0 where
  pub bound : (rows : RowsOn q i j) → At rows.at rows.done → counted v rows ≤ x
  pub attained : (x ≡ 0) ⊎ ((rows : RowsOn q i j) × At rows.at rows.done × (counted v rows ≡ x))

abbrev pub Most : Count → Cache → Task → Task → (ℕ → ℕ → Type 0) → ℕ → Type 0
Most v k = MostOn v (one_line k)

-- "Pair number of task i preempted by task j: the most cache blocks .., over all blocks, row pairs and used sets."; Point 1: "Pair numbers range
-- over blocks with flag 0 and are 0 if a task has none."; Point 5, which puts end rows in place of used sets: "A cache block counts when it is
-- useful in i and the end state of j holds something there other than the useful memory block."; Point 6: "Pair numbers range over these points"
abbrev pub PairNumber : Cache → Task → Task → ℕ → Type 0
PairNumber k i j x = Most (useful_replaced k) k i j (Allows i) x

-- by the count before Point 5: "the most cache blocks both useful in i and used by j"
abbrev pub UsedNumber : Cache → Task → Task → ℕ → Type 0
UsedNumber k i j x = Most (useful_used k) k i j (Allows i) x

-- the number before Point 6, over the ends of the unmasked blocks alone
abbrev pub NumberAtEnds : Cache → Task → Task → ℕ → Type 0
NumberAtEnds k i j x = Most (useful_replaced k) k i j (λ (b d : ℕ). Unmasked i b × AllDone i b d) x

-- the number of document 01 alone, over the ends of all blocks, masked ones too
abbrev pub NumberOverAll : Cache → Task → Task → ℕ → Type 0
NumberOverAll k i j x = Most (useful_used k) k i j (AllDone i) x
