-- Figure 1 of the paper, the tasks of file E, and five forks, by computation.
-- Each count is the length of a list that holds exactly the rows of paths (Sorted), so `refl` proves it.
use mathlib.Core.Path.{◌≡◌, refl}
use mathlib.Core.List.{List, [], ◌∷◌, map}
use Prim.Native.Nat.{ℕ}
use lib.ListN.{length}
use Rattle.cache.specs.References.{nothing}
use Rattle.cache.specs.Cache.{direct}
use Rattle.model.specs.Tasks.{task}
use Rattle.model.specs.Runs.{Preemption, count_at_end, lost_at_end}
use Rattle.model.specs.Computed.{reaching, living, pair_number}
use Rattle.model.specs.Figures.{figure1, one_block, a_fork, tasks_e, forks}

-- ---- figure 1, n = 4

abbrev blocks4 : List ℕ
blocks4 = 0 ∷ 1 ∷ 2 ∷ 3 ∷ []

pub figure1-reaching : map (λ (b : ℕ). length (reaching (direct 4) figure1 b)) blocks4 ≡ 4 ∷ 1 ∷ 3 ∷ 3 ∷ []
unfolding nothing
figure1-reaching = refl

pub figure1-live : map (λ (b : ℕ). length (living (direct 4) figure1 b)) blocks4 ≡ 4 ∷ 4 ∷ 4 ∷ 4 ∷ []
unfolding nothing
figure1-live = refl

pub figure1-numbers : (pair_number (direct 4) figure1 one_block ≡ 3) × (pair_number (direct 4) figure1 a_fork ≡ 2)
unfolding nothing
figure1-numbers = (refl, refl)

-- ---- file E, n = 2

pub numbers_e : (pair_number (direct 2) (task tasks_e 0) (task tasks_e 1) ≡ 1) × (pair_number (direct 2) (task tasks_e 1) (task tasks_e 0) ≡ 0)
unfolding nothing
numbers_e = (refl, refl)

-- task 0 along the blocks 0, 0, with a preemption by task 1
abbrev pub count_e : List Preemption → ℕ
count_e xs = count_at_end (direct 2) tasks_e (task tasks_e 0) (0 ∷ 0 ∷ []) xs

abbrev pub by_task1 : ℕ → ℕ → Preemption
by_task1 position done = record { position = position; done = done; by = 1; path = 0 ∷ [] }

pub counts_e : (count_e [] ≡ 2) × (count_e (by_task1 0 2 ∷ []) ≡ 3) × (count_e (by_task1 1 2 ∷ []) ≡ 2)
unfolding nothing
counts_e = (refl, refl, refl)

-- the lost hits of the same two runs
abbrev pub lost_e : List Preemption → ℕ
lost_e xs = lost_at_end (direct 2) tasks_e (task tasks_e 0) (0 ∷ 0 ∷ []) xs

pub lost_hits_e : (lost_e [] ≡ 0) × (lost_e (by_task1 0 2 ∷ []) ≡ 1) × (lost_e (by_task1 1 2 ∷ []) ≡ 0)
unfolding nothing
lost_hits_e = (refl, refl, refl)

-- ---- five forks in a row, each loading one of two memory blocks of its own cache block; n = 16

pub forks-states : (length (reaching (direct 16) forks 15) ≡ 32) × (length (living (direct 16) forks 0) ≡ 32)
unfolding nothing
forks-states = (refl, refl)
