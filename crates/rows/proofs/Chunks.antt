-- Rows sixteen numbers at a time: an overlay goes on from one chunk to the next, for rows of every length; and chunks compared whole.
-- Each law of an overlay splits two rows at the same place.
use mathlib.Core.Path.{◌≡◌, refl, sym, ap, ap₂, ◌∙◌}
use mathlib.Core.Bool.{Bool, cond, ◌&&◌}
use mathlib.Core.List.{List, [], ◌∷◌, ◌++◌}
use Prim.Native.Nat.{ℕ, zero, suc, ◌+◌, ◌-◌, ◌≤◌}
use native.Mathlib.Omega.{arith}
use lib.Dec.{eqb}
use lib.Pointwise.{pointwise}
use lib.ListN.{length, take, drop, length-drop}
use lib.Seq.{take-add, take_at, drop_at, take_all, length-take-le}
use Rattle.cache.specs.References.{nothing}
use Rattle.model.specs.Computed.{same_list}
use Rattle.rows.specs.Overlay.{overlay}
use Rattle.rows.specs.Append.{put}
use Rattle.rows.proofs.Parts.{length-put}

-- ---- comparison

same-pointwise : (a b : List ℕ) → pointwise eqb a b ≡ same_list a b
same-pointwise [] [] = refl
same-pointwise [] (y ∷ b) = refl
same-pointwise (x ∷ a) [] = refl
same-pointwise (x ∷ a) (y ∷ b) = ap (λ (t : Bool). eqb x y && t) (same-pointwise a b)

-- `==` of two chunks
pub same_chunks : {a b : List ℕ} {s : Bool} (c d : List ℕ) → s ≡ pointwise eqb a b → a ≡ c → b ≡ d → s ≡ same_list c d
same_chunks {a} {b} c d e q r = e ∙ same-pointwise a b ∙ ap₂ same_list q r

-- ---- copies

chunk_turn : (n i : ℕ) (out all chunk : List ℕ) → i + n ≤ length out → length chunk ≡ n → take i out ≡ take i all → chunk ≡ take n (drop i all)
    → take (i + n) (put out i chunk) ≡ take (i + n) all
chunk_turn n i out all chunk h e front q =
    let f : length (take i out) ≡ i = length-take-le i out (omega arith) in
    let after = chunk ++ drop (i + length chunk) out in
    take-add i n (put out i chunk)
    ∙ ap₂ (λ (x y : List ℕ). x ++ y) (take_at (take i out) after i f ∙ front)
    (ap (take n) (drop_at (take i out) after i f) ∙ take_at chunk (drop (i + length chunk) out) n e ∙ q)
    ∙ sym (take-add i n all)

-- a turn: the chunk from i on is stored
pub put_turn : (n i j : ℕ) (out all : List ℕ) {chunk next : List ℕ} → j ≡ i + n → j ≤ length out → length all ≡ length out → take i out ≡ take i all
    → chunk ≡ take n (drop i all) → next ≡ put out i chunk → (length next ≡ length all) × (take j next ≡ take j all)
put_turn n i j out all {chunk} {next} f h e front q s =
    let long : length chunk ≡ n = ap length q ∙ length-take-le n (drop i all) (simp length-drop (omega arith)) in (
      ap length s ∙ length-put out i chunk (omega arith) ∙ sym e,
      rw (f, s) (chunk_turn n i out all chunk (omega arith) long front q),
    )

pub put-end : (i : ℕ) (out all : List ℕ) → length out ≡ i → length all ≡ i → take i out ≡ take i all → out ≡ all
put-end i out all h k e = sym (take_all i out (omega arith)) ∙ e ∙ take_all i all (omega arith)

-- ---- overlays

take-overlay : (n : ℕ) (row over : List ℕ) → take n (overlay row over) ≡ overlay (take n row) (take n over)
take-overlay zero row over = refl
take-overlay (suc n) [] over = refl
take-overlay (suc n) (x ∷ row) [] = refl
take-overlay (suc n) (x ∷ row) (y ∷ over) = ap (λ (l : List ℕ). cond (eqb y nothing) x y ∷ l) (take-overlay n row over)

drop-overlay : (n : ℕ) (row over : List ℕ) → length row ≡ length over → drop n (overlay row over) ≡ overlay (drop n row) (drop n over)
drop-overlay zero row over e = refl
drop-overlay (suc n) [] over e = refl
drop-overlay (suc n) (x ∷ row) [] e = absurd (omega arith)
drop-overlay (suc n) (x ∷ row) (y ∷ over) e = drop-overlay n row over (omega arith)

-- a chunk of an overlaid row
pub overlay_chunk : (n i : ℕ) (row over : List ℕ) {held chunk : List ℕ} → length row ≡ length over → held ≡ take n (drop i row)
    → chunk ≡ overlay held (take (i + n - i) (drop i over)) → chunk ≡ take n (drop i (overlay row over))
overlay_chunk n i row over e r q =
    let m : i + n - i ≡ n = omega arith in
    q ∙ ap₂ (λ (x : List ℕ) (z : ℕ). overlay x (take z (drop i over))) r m ∙ sym (ap (take n) (drop-overlay i row over e) ∙ take-overlay n (drop i row) (drop i over))
