-- The first references of what is left: a turn of the pass that makes them, from the last reference to the first; and live rows overlaid by them.
use mathlib.Core.Path.{◌≡◌, refl, sym, ap, ap₂, ◌∙◌}
use mathlib.Core.Bool.{Bool, true, false}
use mathlib.Core.List.{List, [], ◌∷◌, ◌++◌, map-append}
use Prim.Native.Nat.{ℕ, ◌+◌, ◌-◌, ◌*◌, ◌≤◌, ◌<◌}
use native.Mathlib.Nat.{mul_comm}
use native.Mathlib.Numerals.{add-one}
use native.Mathlib.Omega.{arith}
use lib.Dec.{eqb}
use lib.ListN.{length, get_or, take, drop, replicate, length-replicate}
use lib.Seq.{drop-cons, drop-length}
use borrow.Author.Tests.{eqb-true, eqb-false}
use Rattle.cache.specs.References.{nothing, Real, All}
use Rattle.cache.specs.Cache.{Cache, empty_row, with_reference}
use Rattle.cache.specs.declared.blocks.CacheShape.{CacheShape}
use Rattle.cache.specs.Shape.{shaped, Holds}
use Rattle.cache.specs.Firsts.{firsts_over}
use Rattle.cache.proofs.Rows.{length-empty_row, length-firsts_over, first_references_fold}
use Rattle.rows.specs.Rows.{Width, rows_of}
use Rattle.rows.specs.Append.{put}
use Rattle.rows.specs.Overlay.{overlay}
use Rattle.rows.proofs.Overlays.{overlay-firsts}
use Rattle.rows.proofs.Parts.{row_within, replaced_here, replaced_after, rows-put, rows_more}
use Rattle.gather.specs.Graph.{row_at}
use Rattle.points.specs.Points.{rest_of, Rests, left_rows}

-- ---- the pass that makes the rest rows

module _ (k : Cache) (ms : List ℕ) where
  abbrev w : ℕ
  w = k.width

  pub rest-long : (d : ℕ) → length (rest_of k ms d) ≡ k.width
  rest-long d = length-firsts_over k (drop d ms) (empty_row k) (length-empty_row k)

  -- nothing is left after all references
  pub rest-none : rest_of k ms (length ms) ≡ empty_row k
  rest-none = ap (λ (l : List ℕ). firsts_over k l (empty_row k)) (drop-length ms)

  -- one more reference is left, and comes first
  pub rest_more : (d : ℕ) {row new : List ℕ} {m : ℕ} → d < length ms → row ≡ rest_of k ms (d + 1) → m ≡ get_or ms d 0 → new ≡ with_reference k row m → new ≡ rest_of k ms d
  rest_more d h e q n = n ∙ rw (e, q, add-one d, drop-cons ms d 0 h)

  -- the rows numbered d up to the number of references are made
  abbrev pub RestsFrom : List ℕ → ℕ → Type 0
  RestsFrom rests d = (e : ℕ) → d ≤ e → e ≤ length ms → row_at k.width rests e ≡ rest_of k ms e

  -- the row numbered d is stored
  module _ (rests : List ℕ) (d : ℕ) {row new : List ℕ} (long : length rests ≡ 17 * k.width) (few : d ≤ 16) (is : row ≡ rest_of k ms d)
      (stored : new ≡ put rests (length row * d) row) where
    wide : length row ≡ w
    wide = ap length is ∙ rest-long d

    put_is : new ≡ take (w * d) rests ++ (row ++ drop (w * d + w) rests)
    put_is = stored ∙ ap (λ (n : ℕ). take (n * d) rests ++ (row ++ drop (n * d + n) rests)) wide

    fits : w * d + w ≤ length rests
    fits = omega (arith, row_within w d 17 (omega arith), mul_comm w 17, long)

    here : row_at w new d ≡ rest_of k ms d
    here = ap (λ (l : List ℕ). row_at w l d) put_is ∙ replaced_here rests row (w * d) w fits wide ∙ is

    there : (e : ℕ) → d < e → row_at w new e ≡ row_at w rests e
    there e h =
        ap (λ (l : List ℕ). row_at w l e) put_is
        ∙ replaced_after rests row (w * d) w fits wide w (w * e) (omega (arith, row_within w d e h))

    pub rests_stored : ((e : ℕ) → d < e → e ≤ length ms → row_at k.width rests e ≡ rest_of k ms e) → RestsFrom new d
    rests_stored more e l h = go (eqb d e) refl
      where
        go : (b : Bool) → eqb d e ≡ b → row_at w new e ≡ rest_of k ms e
        go true q = rw (← eqb-true d e q) here
        go false q = let above : d < e = omega (arith, eqb-false d e q) in there e above ∙ more e above h

-- a room of w nothings, for one row
module _ (w : ℕ) (shape : CacheShape) {room : List ℕ} (nothings : room ≡ replicate w nothing) where
  room-wide : length room ≡ w
  room-wide = ap length nothings ∙ length-replicate w nothing

  pub room-holds : Holds w shape → Holds (length room) shape
  room-holds h = rw room-wide h

  pub room-width : Width w → Width (length room)
  room-width h = rw room-wide h

  pub room_empty : room ≡ empty_row (shaped (length room) shape)
  room_empty = nothings ∙ ap (λ (n : ℕ). replicate n nothing) (sym room-wide)

  pub room-many : (rests : List ℕ) → length rests ≡ 17 * w → length rests ≡ 17 * length room
  room-many rests h = h ∙ ap (λ (n : ℕ). 17 * n) (sym room-wide)

  pub room_rests : (ms rests : List ℕ) → Rests (shaped (length room) shape) ms rests → Rests (shaped w shape) ms rests
  room_rests ms rests h = rw room-wide at h

-- ---- live rows overlaid by a rest

-- where nothing but what is left comes, it is the first
pub overlay-rest : (k : Cache) (ms l : List ℕ) → length l ≡ k.width → All Real ms → overlay l (firsts_over k ms (empty_row k)) ≡ firsts_over k ms l
overlay-rest k ms l e real = ap (overlay l) (sym (first_references_fold k ms)) ∙ overlay-firsts k l ms e real

-- one more row is overlaid, and stands after those so far
pub left_more : (w n : ℕ) (rest live out : List ℕ) {row new : List ℕ} → w * n + w ≤ length out → length row ≡ w
    → row ≡ overlay (take (w * n + w - w * n) (drop (w * n) live)) rest → new ≡ put out (w * n) row
    → rows_of w n out ≡ left_rows rest (rows_of w n live) → rows_of w (n + 1) new ≡ left_rows rest (rows_of w (n + 1) live)
left_more w n rest live out {row} {new} fits wide is stored so_far =
    ap (rows_of w (n + 1)) stored
    ∙ rows-put w n out row fits wide
    ∙ ap₂ (λ (a : List (List ℕ)) (r : List ℕ). a ++ (r ∷ [])) so_far is
    ∙ sym (map-append (λ (l : List ℕ). overlay l rest) (rows_of w n live) (take (w * n + w - w * n) (drop (w * n) live) ∷ []))
    ∙ ap (left_rows rest) (sym (rows_more w n live))
