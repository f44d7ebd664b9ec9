-- The useful sets of a row with rows side by side, made one cache block after the other for all of them.
-- The idea: after c cache blocks each set is that of the first c cache blocks of its row.
use mathlib.Core.Path.{◌≡◌, refl, sym, ap, ap₂, ◌∙◌}
use mathlib.Core.Logic.{◌≢◌, ◌⊎◌, inl, inr}
use mathlib.Core.Bool.{Bool, true, false, cond, and-true, and-false}
use mathlib.Core.List.{List, map}
use Prim.Native.Nat.{ℕ, zero, suc, ◌+◌, ◌*◌, ◌-◌, ◌^◌, ◌%◌, ◌≤◌, ◌<◌}
use native.Mathlib.Nat.{not-suc-le-zero, zero-add, add-zero}
use native.Mathlib.Omega.{arith}
use lib.Dec.{eqb}
use lib.Bits.{bit_or}
use lib.ListN.{length, get_or, set, take, drop, length-map}
use lib.Seq.{get_or-set_same, get_or-set_other, get_or-take, get_or-drop, ext_get_or, length-take-le}
use borrow.Author.Tests.{eqb-true, eqb-false, eq-eqb, ne_eqb}
use Rattle.cache.specs.References.{nothing}
use Rattle.cache.specs.Cache.{held}
use Rattle.cache.specs.Sets.{useful, bits}
use Rattle.cache.proofs.Rows.{length-row_from, row_from-at}
use Rattle.cache.proofs.Cells.{cell_held}
use Rattle.cache.proofs.Bits.{bits_skip, bits-joined, bits-kept}
use Rattle.rows.specs.Overlay.{overlay}
use Rattle.rows.proofs.Overlays.{held-overlay}
use Rattle.row_sets.specs.Lanes.{lane_row, lane_rows_from, lane_rows, marked_bit}
use Rattle.row_sets.specs.Sets.{useful_set, useful_sets}

-- ---- one lane

-- a list whose first l places are filled gets one more
pub filled_next : (g old : ℕ → ℕ) (sets : List ℕ) (l v : ℕ) → l < length sets → v ≡ g l
    → ((k : ℕ) → k < l → get_or sets k 0 ≡ g k) → ((k : ℕ) → l ≤ k → get_or sets k 0 ≡ old k)
    → ((k : ℕ) → k < l + 1 → get_or (set sets l v) k 0 ≡ g k) × ((k : ℕ) → l + 1 ≤ k → get_or (set sets l v) k 0 ≡ old k)
filled_next g old sets l v inside e before after = (λ k h. go k h (eqb k l) refl, λ k h. get_or-set_other sets l k v 0 (λ q. absurd (omega arith)) ∙ after k (omega arith))
  where
    go : (k : ℕ) → k < l + 1 → (b : Bool) → eqb k l ≡ b → get_or (set sets l v) k 0 ≡ g k
    go k h true q = rw (eqb-true k l q) (get_or-set_same sets l v 0 inside ∙ e)
    go k h false q = get_or-set_other sets l k v 0 (λ r. eqb-false k l q r) ∙ before k (omega (arith, eqb-false k l q))

-- the bit that is chosen, by the two tests
pub marked-is : (x m bit held : ℕ) {h y : ℕ} → ((x ≡ nothing) × (h ≡ held)) ⊎ ((x ≢ nothing) × (h ≡ x)) → ((h ≡ m) × (y ≡ bit)) ⊎ ((h ≢ m) × (y ≡ 0))
    → y ≡ marked_bit x m bit held
marked-is x m bit held {h} {y} p q = last (cond (eqb x nothing) held x) (shown p) q
  where
    shown : ((x ≡ nothing) × (h ≡ held)) ⊎ ((x ≢ nothing) × (h ≡ x)) → h ≡ cond (eqb x nothing) held x
    shown (inl (e, d)) = d ∙ sym (rw (eq-eqb x nothing e))
    shown (inr (e, d)) = d ∙ sym (rw (ne_eqb x nothing e))

    last : (z : ℕ) → h ≡ z → ((h ≡ m) × (y ≡ bit)) ⊎ ((h ≢ m) × (y ≡ 0)) → y ≡ cond (eqb z m) bit 0
    last z d (inl (e, i)) = i ∙ sym (rw (eq-eqb z m (sym d ∙ e)))
    last z d (inr (e, i)) = i ∙ sym (rw (ne_eqb z m (λ r. e (d ∙ r))))

-- what the rows hold at the cache block c was lent as a part
pub lane_part : (lanes : List ℕ) (c l : ℕ) → l < 32 → 32 * c + l < length lanes → get_or (take (32 * c + 32 - 32 * c) (drop (32 * c) lanes)) l 0 ≡ held lanes (32 * c + l)
lane_part lanes c l h inside =
    let s : 32 * c + 32 - 32 * c ≡ 32 = omega arith in
    ap (λ (n : ℕ). get_or (take n (drop (32 * c) lanes)) l 0) s ∙ get_or-take 32 (drop (32 * c) lanes) l 0 h ∙ get_or-drop (32 * c) lanes l 0 ∙ cell_held lanes (32 * c + l) inside

-- ---- all lanes, one cache block after the other

module _ (row rest lanes : List ℕ) where
  abbrev w : ℕ
  w = length row

  -- the live row numbered l, overlaid by the rest
  abbrev left : ℕ → List ℕ
  left l = overlay (lane_row w lanes l) rest

  -- what it holds at the cache block c
  left-held : (l c : ℕ) → c < w → held (left l) c ≡ cond (eqb (held rest c) nothing) (held lanes (32 * c + l)) (held rest c)
  left-held l c h =
      held-overlay (lane_row w lanes l) rest c (rw (length-row_from w 0 (λ (c : ℕ). held lanes (32 * c + l))) h)
      ∙ ap (λ (x : ℕ). cond (eqb (held rest c) nothing) x (held rest c)) (row_from-at w 0 c nothing (λ (c : ℕ). held lanes (32 * c + l)) h ∙ ap (λ (i : ℕ). held lanes (32 * i + l)) (zero-add c))

  -- a cache block at which the row holds nothing changes no set
  pub lane_kept : (l c s : ℕ) → held row c ≡ nothing → s ≡ bits c (useful row (left l)) → s ≡ bits (c + 1) (useful row (left l))
  lane_kept l c s e i = bits_skip c (useful row (left l)) i (rw (e, eq-eqb nothing nothing refl) (and-false (eqb nothing (held (left l) c)))) refl

  -- at another one the sets get its bit
  pub lane_marked : (l c s x m bit h : ℕ) → c < w → c < 32 → m ≡ held row c → m ≢ nothing → x ≡ held rest c → h ≡ held lanes (32 * c + l) → bit ≡ 1 * 2 ^ c % 2 ^ 32
      → s ≡ bits c (useful row (left l)) → bit_or s (marked_bit x m bit h) ≡ bits (c + 1) (useful row (left l))
  lane_marked l c s x m bit h inside few em some ex eh eb i = go (eqb z m) refl
    where
      z : ℕ
      z = cond (eqb x nothing) h x

      same : held (left l) c ≡ z
      same = left-held l c inside ∙ sym (ap₂ (λ (x h : ℕ). cond (eqb x nothing) h x) ex eh)

      test : (b : Bool) → eqb m z ≡ b → useful row (left l) c ≡ b
      test b q = rw (← em, same, q, ne_eqb m nothing some) (and-true b)

      go : (b : Bool) → eqb z m ≡ b → bit_or s (cond (eqb z m) bit 0) ≡ bits (c + 1) (useful row (left l))
      go true q = rw q (bits-joined 32 c (useful row (left l)) few i (test true (eq-eqb m z (sym (eqb-true z m q)))) eb)
      go false q = rw q (bits-kept c (useful row (left l)) i (test false (ne_eqb m z (λ r. eqb-false z m q (sym r)))) refl)

-- ---- the sets as a list

lane_at : (f : List ℕ → ℕ) (w : ℕ) (lanes : List ℕ) (n l i : ℕ) → i < n → get_or (map f (lane_rows_from w lanes n l)) i 0 ≡ f (lane_row w lanes (l + i))
lane_at f w lanes zero l i h = absurd (not-suc-le-zero h)
lane_at f w lanes (suc n) l zero h = ap (λ (k : ℕ). f (lane_row w lanes k)) (sym (add-zero l))
lane_at f w lanes (suc n) l (suc i) h = lane_at f w lanes n (suc l) i (omega arith) ∙ ap (λ (k : ℕ). f (lane_row w lanes k)) (omega arith)

lanes_many : (w : ℕ) (lanes : List ℕ) (n l : ℕ) → length (lane_rows_from w lanes n l) ≡ n
lanes_many w lanes zero l = refl
lanes_many w lanes (suc n) l = ap suc (lanes_many w lanes n (suc l))

pub lane_sets : (row rest lanes sets : List ℕ) (n : ℕ) → n ≤ length sets
    → ((l : ℕ) → l < n → get_or sets l 0 ≡ useful_set row (overlay (lane_row (length row) lanes l) rest)) → take n sets ≡ useful_sets row rest (lane_rows (length row) n lanes)
lane_sets row rest lanes sets n h each =
    let f : List ℕ → ℕ = λ l. useful_set row (overlay l rest) in
    let rows = lane_rows (length row) n lanes in
    ext_get_or 0 (take n sets) (map f rows) (length-take-le n sets h ∙ sym (length-map rows f ∙ lanes_many (length row) lanes n 0))
    (λ i l. let below : i < n = omega (arith, l, length-take-le n sets h) in
    get_or-take n sets i 0 below ∙ each i below ∙ sym (lane_at f (length row) lanes n 0 i below ∙ ap (λ (k : ℕ). f (lane_row (length row) lanes k)) (zero-add i)))
