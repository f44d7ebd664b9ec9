-- Rows made block by block: a turn of the loop that stores them, and its end.
-- The idea: the rows of the blocks so far, and nothings up to 24 rows.
use mathlib.Core.Path.{◌≡◌, sym, ap, ap₂, ◌∙◌}
use mathlib.Core.List.{List, [], ◌∷◌, ◌++◌, map, append_assoc, append-nil}
use Prim.Native.Nat.{ℕ, zero, suc, ◌+◌, ◌*◌, ◌-◌, ◌≤◌, ◌<◌}
use native.Mathlib.Nat.{not-suc-le-zero, sub-zero, mul-zero, mul-le-mul_left}
use native.Mathlib.Numerals.{add-one}
use native.Mathlib.Omega.{arith}
use lib.ListN.{length, take, drop, replicate, length-append, length-replicate}
use borrow.Rule.Slice.PartMut.{put_mid}
use lib.Seq.{length-take-le, take_all, take_at, drop_at, drop-drop}
use Rattle.cache.specs.References.{nothing}
use Rattle.cache.specs.Cache.{Cache, empty_row, with_references, first_references}
use Rattle.model.specs.Tasks.{Block, Task, block}
use Rattle.rows.specs.Rows.{flat}
use Rattle.rows.specs.Append.{put}
use Rattle.rows.proofs.Parts.{after_first, row_within, lent_back}
use Rattle.graphs.specs.Graphs.{rows_for, no_rows, last_rows, first_rows}
use Rattle.graphs.proofs.Listed.{drop_replicate, last-long, first-long}

-- a row that was cut off after w numbers, and copied into the part that it was lent
pub kept_row : (w at : ℕ) (l cells : List ℕ) {new : List ℕ} → w ≤ length cells → new ≡ take (w - 0) (drop 0 cells)
    → put_mid at (at + w - at) l new ≡ put l at (take w cells)
kept_row w at l cells {new} h e =
    lent_back at w l new
    ∙ ap₂ (λ (x : List ℕ) (k : ℕ). take at l ++ (x ++ drop (at + k) l)) (e ∙ ap (λ (i : ℕ). take i cells) (sub-zero w)) (sym (length-take-le w cells h))

-- the rows of the first b blocks, of w numbers each, and nothings
abbrev pub rows_to : ℕ → (Block → List ℕ) → Task → ℕ → List ℕ
rows_to w f t b = flat (map f (take b t)) ++ replicate (24 * w - w * b) nothing

module _ (w : ℕ) (f : Block → List ℕ) (each : (x : Block) → length (f x) ≡ w) where
  long : (t : Task) → length (flat (map f t)) ≡ w * length t
  long [] = sym (mul-zero w)
  long (x ∷ t) = rw (length-append (f x) (flat (map f t)), each x, long t) (sym (after_first w (length t)))

  long_to : (t : Task) (b : ℕ) → b ≤ length t → length (flat (map f (take b t))) ≡ w * b
  long_to t zero h = sym (mul-zero w)
  long_to [] (suc b) h = absurd (not-suc-le-zero h)
  long_to (x ∷ t) (suc b) h = rw (length-append (f x) (flat (map f (take b t))), each x, long_to t b (omega arith)) (sym (after_first w b))

  next : (t : Task) (b : ℕ) → b < length t → flat (map f (take (suc b) t)) ≡ flat (map f (take b t)) ++ f (block t b)
  next [] b l = absurd (not-suc-le-zero l)
  next (x ∷ t) zero l = append-nil (f x)
  next (x ∷ t) (suc b) l = ap (λ r. f x ++ r) (next t b (omega arith)) ∙ sym (append_assoc (f x) (flat (map f (take b t))) (f (block t b)))

  pub rows_start : (t : Task) {rows : List ℕ} → rows ≡ no_rows w → rows ≡ rows_to w f t 0
  rows_start t e = let z : 24 * w ≡ 24 * w - w * 0 = omega (arith, mul-zero w) in e ∙ ap (λ i. replicate i nothing) z

  pub rows_turn : (t : Task) (b : ℕ) {rows row now : List ℕ} → b < length t → length t ≤ 24 → rows ≡ rows_to w f t b → row ≡ f (block t b) → now ≡ put rows (w * b) row
      → now ≡ rows_to w f t (b + 1)
  rows_turn t b {rows} {row} {now} l few er ew en =
      let p = flat (map f (take b t)) in
      let q = replicate (24 * w - w * b) nothing in
      let m : length p ≡ w * b = long_to t b (omega arith) in
      let k : 24 * w - w * b - w ≡ 24 * w - w * suc b = omega (arith, after_first w b) in
      let rest : drop (w * b + w) (p ++ q) ≡ replicate (24 * w - w * suc b) nothing
      = sym (drop-drop w (w * b) (p ++ q)) ∙ ap (drop w) (drop_at p q (w * b) m) ∙ drop_replicate w (24 * w - w * b) nothing (omega (arith, row_within w b 24 (omega arith)))
      ∙ ap (λ i. replicate i nothing) k in
      rw (en, er, ew, add-one b, each (block t b), take_at p q (w * b) m, rest, next t b l) (sym (append_assoc p (f (block t b)) (replicate (24 * w - w * suc b) nothing)))

  pub rows_end : (t : Task) (b : ℕ) {rows : List ℕ} → b ≡ length t → rows ≡ rows_to w f t b → rows ≡ rows_for w f t
  rows_end t b e er =
      er ∙ ap₂ (λ (l : Task) (k : ℕ). flat (map f l) ++ replicate (24 * w - k) nothing) (take_all b t (omega arith)) (ap (λ k. w * k) e ∙ sym (long t))

  rows_full : (t : Task) → length t ≤ 24 → length (rows_for w f t) ≡ 24 * w
  rows_full t few =
      length-append (flat (map f t)) (replicate (24 * w - length (flat (map f t))) nothing)
      ∙ rw (length-replicate (24 * w - length (flat (map f t))) nothing) (omega (arith, long t, mul-le-mul_left {m = length t} {n = 24} w few))

-- 24 rows
pub last_full : (k : Cache) (t : Task) → length t ≤ 24 → length (last_rows k t) ≡ 24 * k.width
last_full k t few = rows_full k.width (λ (x : Block). with_references k (empty_row k) x.references) (last-long k) t few

pub first_full_lem : (k : Cache) (t : Task) → length t ≤ 24 → length (first_rows k t) ≡ 24 * k.width
first_full_lem k t few = rows_full k.width (λ (x : Block). first_references k x.references) (first-long k) t few
