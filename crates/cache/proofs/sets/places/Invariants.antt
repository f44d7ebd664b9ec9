-- `sets::places` meets its contract. A row of one chunk needs no loop. The loop's invariant: the bits set are the places of the chunks so far that pass. Assumes nothing.
use Rattle.std.proofs.Common.{◌≡◌, Bool, ℕ, ◌*◌, ◌/◌, ◌≤◌, length}
use Rattle.cache.specs.Sets.{bits, Tests, at_places}
use Rattle.cache.proofs.sets.places.Given as goal

abbrev pub invariant-loop-h : goal.invariant-loop-h
invariant-loop-h g l =
    (l.h ≤ length l.row / 16) × ((P : ℕ → ℕ → Bool) → Tests (goal.F-post g l.passes) P → l.set ≡ bits (16 * l.h) (at_places P l.row l.other))
