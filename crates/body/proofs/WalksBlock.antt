-- Laws of one block: the loops over its successors and its references, its test, and where it ends.
use mathlib.Core.Path.{◌≡◌, refl, sym, ◌∙◌}
use mathlib.Core.Bool.{Bool, true, false, ◌&&◌, cond}
use mathlib.Core.List.{List, [], ◌∷◌}
use Prim.Native.Nat.{ℕ, suc, ◌+◌, ◌-◌, ◌*◌, ◌≤◌, ◌<◌}
use native.Mathlib.Numerals.{add-one}
use native.Mathlib.Omega.{arith}
use lib.Dec.{ltb}
use lib.ListN.{length, get_or, take, drop, drop_of_length-le, length-drop}
use lib.Seq.{drop-cons, take_all}
use borrow.Author.Tests.{le-leb, lt-leb, lt-ltb, le-ltb}
use Rattle.cache.specs.References.{nothing, number_at, numbers}
use Rattle.body.specs.Decode.{rises_below, all_real, block_test}
use Rattle.body.specs.BlockEnd.{block_end}
use Rattle.std.specs.Prelude.{Some, None}

-- the first successor is the last one so far
pub rises_start : (B : ℕ) (s : List ℕ) → (length s ≡ 0 → ⊥) → rises_below B (get_or s 0 0 ∷ drop 1 s) ≡ rises_below B s
rises_start B [] h = absurd (h refl)
rises_start B (x ∷ s) h = refl

-- one more successor, from i on, and the test goes on with it
rises_next : (B last i : ℕ) (s : List ℕ) → i < length s
    → rises_below B (last ∷ drop i s) ≡ (ltb last (get_or s i 0) && rises_below B (get_or s i 0 ∷ drop (i + 1) s))
rises_next B last i s h = rw (add-one i, drop-cons s i 0 h)

-- it is above the last one
pub rises_turn : (B last i : ℕ) (s : List ℕ) → i < length s → last < get_or s i 0
    → rises_below B (get_or s i 0 ∷ drop (i + 1) s) ≡ rises_below B (last ∷ drop i s)
rises_turn B last i s h l = sym (rises_next B last i s h ∙ rw (lt-ltb last (get_or s i 0) l))

-- it is not
pub rises_fails : (B last i : ℕ) (s : List ℕ) → i < length s → get_or s i 0 ≤ last → false ≡ rises_below B (last ∷ drop i s)
rises_fails B last i s h l = sym (rises_next B last i s h ∙ rw (le-ltb last (get_or s i 0) l))

-- there is none: the last one is held against the number of blocks
pub rises-end : (B last i : ℕ) (s : List ℕ) → length s ≤ i → ltb last B ≡ rises_below B (last ∷ drop i s)
rises-end B last i s h = rw (drop_of_length-le s h)

-- no successors rise
pub rises-none : (B : ℕ) (s : List ℕ) → length s ≡ 0 → true ≡ rises_below B s
rises-none B [] h = refl
rises-none B (x ∷ s) h = absurd (omega arith)

-- two bytes from i on are the next reference
numbers-next : (s : List ℕ) (i : ℕ) → i + 1 < length s
    → numbers (drop i s) ≡ number_at s i ∷ numbers (drop (i + 2) s)
unfolding numbers
numbers-next s i h =
    let h0 : i < length s = omega arith in
    let h1 : suc i < length s = omega arith in
    let e2 : i + 2 ≡ suc (suc i) = omega arith in
    rw (drop-cons s i 0 h0, drop-cons s (suc i) 0 h1, e2, add-one i)

-- fewer than two bytes hold no reference
numbers-end : (s : List ℕ) → length s < 2 → numbers s ≡ []
unfolding numbers
numbers-end [] h = refl
numbers-end (a ∷ []) h = refl
numbers-end (a ∷ b ∷ s) h = absurd (omega arith)

-- the reference at i is real, and the test goes on behind it
pub real_turn : (s : List ℕ) (i : ℕ) {m : ℕ} → i + 1 < length s → m ≡ number_at s i → m < 65536 → (m ≡ 65535 → ⊥)
    → all_real (numbers (drop (i + 2) s)) ≡ all_real (numbers (drop i s))
unfolding nothing
real_turn s i h e fits ne =
    let l : number_at s i < 65535 = omega arith in
    sym (rw (numbers-next s i h, lt-ltb (number_at s i) 65535 l))

-- the reference at i is the number for nothing
pub real_fails : (s : List ℕ) (i : ℕ) {m : ℕ} → i + 1 < length s → m ≡ number_at s i → m ≡ 65535
    → false ≡ all_real (numbers (drop i s))
unfolding nothing
real_fails s i h e q = sym (rw (numbers-next s i h, ← e, q))

-- no reference is left
pub real-end : (s : List ℕ) (i : ℕ) → length s < i + 2 → true ≡ all_real (numbers (drop i s))
real-end s i h = sym (rw (numbers-end (drop i s) (simp length-drop (omega arith))))

-- the test of a block, in the order of the code: each test that fails decides, and behind all of them what the loops over the
-- successors and the references answered
module _ (B f sc rc : ℕ) (rest : List ℕ) where
  pub test_flags : 1 < f → false ≡ block_test B f sc rc rest
  test_flags h = rw (lt-leb f 1 h)

  pub test_successors : f ≤ 1 → 4 < sc → false ≡ block_test B f sc rc rest
  test_successors clean many = rw (le-leb f 1 clean, lt-leb sc 4 many)

  pub test_references : f ≤ 1 → sc ≤ 4 → 16 < rc → false ≡ block_test B f sc rc rest
  test_references clean few many = rw (le-leb f 1 clean, le-leb sc 4 few, lt-leb rc 16 many)

  pub test_cut : f ≤ 1 → sc ≤ 4 → rc ≤ 16 → length rest < sc + 2 * rc → false ≡ block_test B f sc rc rest
  test_cut clean few short cut = rw (le-leb f 1 clean, le-leb sc 4 few, le-leb rc 16 short, lt-leb (sc + 2 * rc) (length rest) cut)

  pub test_parts : {rises real : Bool} → f ≤ 1 → sc ≤ 4 → rc ≤ 16 → sc + 2 * rc ≤ length rest → rises ≡ rises_below B (take sc rest)
      → real ≡ all_real (numbers (take (sc + 2 * rc - sc) (drop sc rest))) → (rises && real) ≡ block_test B f sc rc rest
  test_parts clean few short there rises real =
      let n : sc + 2 * rc - sc ≡ 2 * rc = omega arith in
      rw (rises, real, n, le-leb f 1 clean, le-leb sc 4 few, le-leb rc 16 short, le-leb (sc + 2 * rc) (length rest) there)

-- a block whose first three bytes are not there
pub end_short : (B at : ℕ) (s : List ℕ) → length s < at + 3 → None ≡ block_end B at s
unfolding block_end
end_short B at s h = rw (lt-leb (at + 3) (length s) h)

-- a block whose first three bytes are there: its test, on the bytes behind them, decides
pub end_is : (B at : ℕ) (s : List ℕ) {sc rc : ℕ} {kept : Bool} → at + 3 ≤ length s → sc ≡ get_or s (at + 1) 0 → rc ≡ get_or s (at + 2) 0
    → kept ≡ block_test B (get_or s at 0) sc rc (take (length s - (at + 3)) (drop (at + 3) s))
    → cond kept (Some (at + 3 + sc + 2 * rc)) None ≡ block_end B at s
unfolding block_end
end_is B at s h p q k =
    let all : length (drop (at + 3) s) ≤ length s - (at + 3) = omega (arith, length-drop (at + 3) s) in
    rw (k, p, q, take_all (length s - (at + 3)) (drop (at + 3) s) all, le-leb (at + 3) (length s) h)
