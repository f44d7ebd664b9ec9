-- A trail's blocks written one by one: what is written and what is still to come are together the trail.
use mathlib.Core.Path.{◌≡◌, refl, ap, ◌∙◌}
use mathlib.Core.List.{List, [], ◌∷◌, ◌++◌, append_assoc}
use Prim.Native.Nat.{ℕ, zero, suc, ◌+◌, ◌-◌, ◌/◌, ◌<◌}
use native.Mathlib.Numerals.{add-one}
use native.Mathlib.Omega.{arith}
use lib.ListN.{length, take, drop, set, length-append}
use lib.Seq.{take-suc-set}
use Rattle.trails.specs.Trails.{parent_at, way_back, way_to}

drop-set : (l : List ℕ) (i v : ℕ) → i < length l → drop i (set l i v) ≡ v ∷ drop (suc i) l
drop-set [] i v h = absurd (omega arith)
drop-set (x ∷ l) zero v h = refl
drop-set (x ∷ l) (suc i) v h = drop-set l i v (omega arith)

-- the block of the place `at` is written in front of the k that are written
pub to_turn : (trails : List ℕ) (long k at : ℕ) (out whole : List ℕ) → k < long → long ≡ length out → way_to (long - k) trails at ++ drop (long - k) out ≡ whole
    → way_to (long - (k + 1)) trails (parent_at trails at) ++ drop (long - (k + 1)) (set out (long - 1 - k) (at / 32)) ≡ whole
to_turn trails long k at out whole h e q =
    let next : long - k ≡ suc (long - (k + 1)) = omega arith in
    let here : long - 1 - k ≡ long - (k + 1) = omega arith in
    rw (here, drop-set out (long - (k + 1)) (at / 32) (omega arith)) (rw (next, append_assoc) at q)

-- the block of the next place is written after those that are written; `long` of them are to come
pub on_turn : (trails : List ℕ) (k long at : ℕ) (out whole : List ℕ) → k < length out → 0 < long → take k out ++ way_back long trails at ≡ whole
    → take (k + 1) (set out k (at / 32)) ++ way_back (long - 1) trails (parent_at trails at) ≡ whole
on_turn trails k zero at out whole h some e = absurd (omega arith)
on_turn trails k (suc m) at out whole h some e =
    let q : suc m - 1 ≡ m = omega arith in
    rw (q, add-one k, take-suc-set out k (at / 32) h, append_assoc) e

-- ---- how long a trail is

pub length_to : (n : ℕ) (trails : List ℕ) (at : ℕ) → length (way_to n trails at) ≡ n
length_to zero trails at = refl
length_to (suc n) trails at =
    length-append (way_to n trails (parent_at trails at)) _ ∙ omega (arith, length_to n trails (parent_at trails at))

pub length_back : (n : ℕ) (trails : List ℕ) (at : ℕ) → length (way_back n trails at) ≡ n
length_back zero trails at = refl
length_back (suc n) trails at = ap suc (length_back n trails (parent_at trails at))
