-- `sets::chunk_of` meets its contract. The loop's invariant: the bits set are the places below c that pass. Assumes nothing.
use Rattle.std.proofs.Common.{◌≡◌, Bool, ℕ, ◌≤◌}
use Rattle.cache.specs.Sets.{bits, Tests, at_places}
use Rattle.cache.proofs.sets.chunk_of.Given as goal

abbrev pub invariant-loop-c : goal.invariant-loop-c
invariant-loop-c g l =
    (l.c ≤ 16) × ((P : ℕ → ℕ → Bool) → Tests (goal.F-post g l.passes) P → l.set ≡ bits l.c (at_places P l.row l.other))
