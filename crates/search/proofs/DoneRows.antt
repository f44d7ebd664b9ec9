-- The row of a point from the row before its block, in the code's words: a turn of the loop that makes its references, and the row in a room that is
-- lent.
use mathlib.Core.Path.{◌≡◌, ap, ◌∙◌}
use mathlib.Core.List.{List}
use Prim.Native.Nat.{ℕ, ◌+◌, ◌<◌}
use lib.ListN.{length, get_or, take}
use Rattle.cache.specs.declared.blocks.CacheShape.{CacheShape}
use Rattle.cache.specs.Shape.{shaped}
use Rattle.cache.specs.Cache.{with_reference, with_references}
use Rattle.points.proofs.DoneRows.{one-done}

-- one reference more is done
pub refer_turn : (shape : CacheShape) (ms first : List ℕ) (i : ℕ) {row new : List ℕ} → i < length ms → length row ≡ length first
    → row ≡ with_references (shaped (length first) shape) first (take i ms) → new ≡ with_reference (shaped (length row) shape) row (get_or ms i 0)
    → new ≡ with_references (shaped (length first) shape) first (take (i + 1) ms)
refer_turn shape ms first i {row} {new} h long is stored =
    one-done (shaped (length first) shape) ms first i h is (stored ∙ ap (λ (n : ℕ). with_reference (shaped n shape) row (get_or ms i 0)) long)

-- the references are made in a copy of the row
pub done_made : (shape : CacheShape) (ms : List ℕ) (d : ℕ) (row : List ℕ) {part new : List ℕ} → part ≡ row → new ≡ with_references (shaped (length part) shape) part (take d ms)
    → new ≡ with_references (shaped (length row) shape) row (take d ms)
done_made shape ms d row e q = q ∙ ap (λ (r : List ℕ). with_references (shaped (length r) shape) r (take d ms)) e
