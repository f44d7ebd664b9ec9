-- A false neighbour of document 02, Point 4, refuted.
-- The idea: where the mark for nothing was read, the step finds nothing in the cell and keeps the next reference as the first.
use mathlib.Core.Path.{refl, ap}
use mathlib.Core.List.{List, [], ◌∷◌, ◌++◌}
use Prim.Native.Nat.{ℕ}
use native.Mathlib.Omega.{arith}
use lib.ListN.{get_or}
use Rattle.cache.specs.References.{nothing}
use Rattle.cache.specs.Cache.{Cache, Row, direct, with_reference}
use Rattle.cache.specs.Firsts.{with_first}
use Rattle.cache.specs.SoFar.{RowsSoFar}

-- "one more reference, after every list": one cache block, the mark for nothing and then 0; the first of the two is the mark, and the step keeps 0
pub not-after-nothing : ((k : Cache) (m : ℕ) (ms : List ℕ) (first last : Row) → RowsSoFar k ms first last → RowsSoFar k (ms ++ (m ∷ [])) (with_first k first m) (with_reference k last m)) → ⊥
unfolding nothing
not-after-nothing more =
    let so : RowsSoFar (direct 1) (nothing ∷ []) (nothing ∷ []) (nothing ∷ []) = record { firsts = refl; lasts = refl } in
    let e = ap (λ (row : List ℕ). get_or row 0 0) (more (direct 1) 0 (nothing ∷ []) (nothing ∷ []) (nothing ∷ []) so).firsts in
    omega arith
