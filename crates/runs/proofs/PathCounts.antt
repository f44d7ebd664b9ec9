-- What references do to the count: it grows by the misses, and each block of a path has at most 16. References of two lists are made one list after
-- the other.
-- Each is an induction on the references or on the path.
use mathlib.Core.Path.{◌≡◌, refl}
use mathlib.Core.Bool.{not}
use mathlib.Core.List.{List, [], ◌∷◌, ◌++◌}
use Prim.Native.Nat.{ℕ, zero, suc, ◌+◌, ◌*◌, ◌-◌, ◌≤◌}
use native.Mathlib.Omega.{arith}
use lib.ListN.{length, drop, length-append, length-take, length-drop}
use Rattle.cache.specs.Cache.{Cache, hits, misses}
use Rattle.cache.proofs.Sums.{bit_le}
use Rattle.model.specs.Tasks.{Task, block, references}
use Rattle.model.specs.Runs.{RowCount, own_references}
use Rattle.body.specs.Layout.{InBounds}
use Rattle.body.proofs.Decoded.{few-references}
use Rattle.runs.specs.Running.{with_own}
use Rattle.runs.specs.Parts.{between}

-- ---- the count

pub own-bound : (k : Cache) (ms : List ℕ) (s : RowCount) → (own_references k s ms).count ≤ s.count + length ms
own-bound k [] s = omega arith
own-bound k (m ∷ ms) s = omega (arith, own-bound k ms (with_own k s m), bit_le (not (hits k s.row m)))

-- the references of a path are few
pub references-few : (t : Task) → InBounds t → (p : List ℕ) → length (references t p) ≤ 16 * length p
references-few t h [] = omega arith
references-few t h (b ∷ p) = omega (arith, length-append (block t b).references (references t p), few-references t h b, references-few t h p)

-- and so are those of a part of it
pub part_few : (t : Task) → InBounds t → (p : List ℕ) (i d j e : ℕ) → length (between t p i d j e) ≤ 16 * length p
part_few t h [] i d j e = omega arith
part_few t h (b ∷ p) zero d zero e =
    let ms = (block t b).references in
    omega (arith, length-take (e - d) (drop d ms), length-drop d ms, few-references t h b)
part_few t h (b ∷ p) zero d (suc j) e =
    let ms = (block t b).references in
    omega (arith, length-append (drop d ms) (between t p zero 0 j e), length-drop d ms, few-references t h b, part_few t h p zero 0 j e)
part_few t h (b ∷ p) (suc i) d zero e = omega arith
part_few t h (b ∷ p) (suc i) d (suc j) e = omega (arith, part_few t h p i d j e)

-- the count grows by the misses
pub own-misses : (k : Cache) (ms : List ℕ) (s : RowCount) → (own_references k s ms).count ≡ s.count + misses k s.row ms
own-misses k [] s = omega arith
own-misses k (m ∷ ms) s = omega (arith, own-misses k ms (with_own k s m))

-- ---- two lists, one after the other

pub own-append : (k : Cache) (a b : List ℕ) (s : RowCount) → own_references k s (a ++ b) ≡ own_references k (own_references k s a) b
own-append k [] b s = refl
own-append k (m ∷ a) b s = own-append k a b (with_own k s m)
