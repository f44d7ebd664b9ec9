-- The three answers of appending a row: each goes by the tests that the code makes, and tells what they said.
-- Each is a case split on the two tests.
use mathlib.Core.Path.{◌≡◌, refl}
use mathlib.Core.Bool.{Bool, true, false, cond}
use mathlib.Core.List.{List}
use Prim.Native.Nat.{ℕ, ◌≤◌, ◌<◌}
use native.Mathlib.Omega.{arith}
use lib.Dec.{leb}
use lib.ListN.{length}
use borrow.Author.Tests.{le-leb, lt-leb, leb-true, leb-false}
use Rattle.model.specs.Lists.{mem}
use Rattle.model.specs.Computed.{same_list}
use Rattle.rows.specs.Rows.{rows_of}
use Rattle.rows.specs.Append.{appended}
use Rattle.rows.specs.declared.Appended.TheVariants.{Present, Added, Full}

module _ (part : List ℕ) (count : ℕ) (row : List ℕ) where
  pub answer_present : mem same_list row (rows_of (length row) count part) ≡ true → Present ≡ appended part count row
  answer_present e = rw e

  pub answer_full : mem same_list row (rows_of (length row) count part) ≡ false → 32 ≤ count → Full ≡ appended part count row
  answer_full e h = rw (e, le-leb 32 count h)

  pub answer-added : mem same_list row (rows_of (length row) count part) ≡ false → count < 32 → Added ≡ appended part count row
  answer-added e h = rw (e, lt-leb 32 count h)

  -- ---- and what each answer tells

  tell_present : (m f : Bool) → Present ≡ cond m Present (cond f Full Added) → m ≡ true
  tell_present true f e = refl
  tell_present false true e = let z : ◌≡◌ {A = ℕ} 0 1 = cc in absurd (omega arith)
  tell_present false false e = let z : ◌≡◌ {A = ℕ} 0 1 = cc in absurd (omega arith)

  tell_full : (m f : Bool) → Full ≡ cond m Present (cond f Full Added) → (m ≡ false) × (f ≡ true)
  tell_full true f e = let z : ◌≡◌ {A = ℕ} 0 1 = cc in absurd (omega arith)
  tell_full false true e = (refl, refl)
  tell_full false false e = let z : ◌≡◌ {A = ℕ} 0 1 = cc in absurd (omega arith)

  tell_added : (m f : Bool) → Added ≡ cond m Present (cond f Full Added) → (m ≡ false) × (f ≡ false)
  tell_added true f e = let z : ◌≡◌ {A = ℕ} 0 1 = cc in absurd (omega arith)
  tell_added false true e = let z : ◌≡◌ {A = ℕ} 0 1 = cc in absurd (omega arith)
  tell_added false false e = (refl, refl)

  pub is_present : Present ≡ appended part count row → mem same_list row (rows_of (length row) count part) ≡ true
  is_present e = tell_present (mem same_list row (rows_of (length row) count part)) (leb 32 count) e

  pub is_full : Full ≡ appended part count row → (mem same_list row (rows_of (length row) count part) ≡ false) × (32 ≤ count)
  is_full e = let t = tell_full (mem same_list row (rows_of (length row) count part)) (leb 32 count) e in (t.0, leb-true 32 count t.1)

  pub is-added : Added ≡ appended part count row → (mem same_list row (rows_of (length row) count part) ≡ false) × (count < 32)
  is-added e = let t = tell_added (mem same_list row (rows_of (length row) count part)) (leb 32 count) e in (t.0, leb-false 32 count t.1)
