-- The points of a block in the code's words: what is left of its references, and how many may be done.
use mathlib.Core.Path.{◌≡◌, refl, sym, ap, ◌∙◌}
use mathlib.Core.List.{List}
use Prim.Native.Nat.{ℕ, zero, suc, ◌+◌, ◌*◌, ◌-◌, ◌/◌, ◌≤◌}
use native.Mathlib.Omega.{arith}
use lib.ListN.{length, take, drop}
use Rattle.cache.specs.References.{numbers}
use Rattle.cache.specs.Cache.{Cache}
use Rattle.cache.proofs.NumberLaws.{length-numbers}
use Rattle.rows.specs.Rows.{rows_of}
use Rattle.points.specs.Points.{rest_of, Rests, left_rows}
use Rattle.search.specs.Search.{fewest_done}

-- ---- what is left at a point

-- the rest row of the point was lent as a part from w d to w d + w
pub rest_lent : (k : Cache) (ms rests : List ℕ) (d : ℕ) → Rests k ms rests → d ≤ length ms
    → take (k.width * d + k.width - k.width * d) (drop (k.width * d) rests) ≡ rest_of k ms d
rest_lent k ms rests d h l =
    let s : k.width * d + k.width - k.width * d ≡ k.width = omega arith in
    ap (λ (n : ℕ). take n (drop (k.width * d) rests)) s ∙ h.each d l

-- the live rows of the point, where the part that was lent is as wide as the rows
pub left_is : (w lived : ℕ) (live : List ℕ) {part rest new made : List ℕ} → part ≡ rest → length part ≡ w → made ≡ new
    → rows_of (length part) lived new ≡ left_rows part (rows_of (length part) lived live) → rows_of w lived made ≡ left_rows rest (rows_of w lived live)
left_is w lived live {part} {rest} {new} e long m q =
    ap (rows_of w lived) m ∙ ap (λ (n : ℕ). rows_of n lived new) (sym long) ∙ q ∙ ap (λ (n : ℕ). left_rows part (rows_of n lived live)) long
    ∙ ap (λ (r : List ℕ). left_rows r (rows_of w lived live)) e

-- ---- how many references may be done

pub fewest_none : (all : ℕ) → all ≡ 0 → 0 ≡ fewest_done all
fewest_none all e = rw e

pub fewest_some : (all : ℕ) → (all ≡ 0 → ⊥) → 1 ≡ fewest_done all
fewest_some zero h = absurd (h refl)
fewest_some (suc n) h = refl

pub fewest_few : (all : ℕ) → fewest_done all ≤ 1
fewest_few zero = omega arith
fewest_few (suc n) = omega arith

pub fewest_of : (references : List ℕ) {n : ℕ} → n ≡ fewest_done (length references / 2) → n ≡ fewest_done (length (numbers references))
fewest_of references e = e ∙ ap fewest_done (sym (length-numbers references))
