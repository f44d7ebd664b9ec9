-- Point 9 computed: optional loads in a row, each of a memory block of its own cache block. With six the full set of the last block has
-- 64 rows, so document 01 gave 11, and rounds never meet more than 20 uncovered rows in a block, so the table is given; one is left at the
-- end. With seven, paths of at most 11 blocks make 35 uncovered rows in the last block, so 11 is given, though one is left at the end.
use mathlib.Core.Path.{◌≡◌, refl}
use mathlib.Core.Bool.{true, false}
use mathlib.Core.List.{[], ◌∷◌}
use Prim.Native.Nat.{ℕ, zero, suc, ◌+◌, ◌*◌}
use lib.ListN.{length}
use Rattle.cache.specs.References.{nothing}
use Rattle.cache.specs.Cache.{one_line, direct}
use Rattle.model.specs.Tasks.{Task, end}
use Rattle.model.specs.Computed.{reach_next, reach_start, rows_at}
use Rattle.covered.specs.Rounds.{state_within, kept_after, uncovered_test11}
use Rattle.covered.proofs.States.{uncovered_reaching}

-- the loads from the one numbered i on, `left` of them: a block that may skip the load, and the block that loads
abbrev loads : ℕ → ℕ → Task
loads i zero = record { flags = 0; successors = []; references = [] } ∷ []
loads i (suc left) =
    record { flags = 0; successors = (2 * i + 1) ∷ (2 * i + 2) ∷ []; references = [] }
    ∷ record { flags = 0; successors = (2 * i + 2) ∷ []; references = i ∷ [] }
    ∷ loads (suc i) left

abbrev six : Task
six = loads 0 6

abbrev seven : Task
seven = loads 0 7

pub six_is_given : uncovered_test11 (direct 6) six ≡ false
unfolding nothing
six_is_given = refl

pub six_one_left : length (rows_at (end six) (uncovered_reaching (direct 6) six)) ≡ 1
unfolding nothing
six_one_left = refl

pub seven_meets_35 : length (rows_at (end seven) (kept_after state_within (reach_next (one_line (direct 7)) seven) (reach_start (one_line (direct 7)) seven) 10)) ≡ 35
unfolding nothing
seven_meets_35 = refl

pub seven_is_refused : uncovered_test11 (direct 7) seven ≡ true
unfolding nothing
seven_is_refused = refl

pub seven_one_left : length (rows_at (end seven) (uncovered_reaching (direct 7) seven)) ≡ 1
unfolding nothing
seven_one_left = refl
