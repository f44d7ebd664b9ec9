-- A turn of gathering keeps the trails, and no trail is longer than there are rows.
-- The idea: a row that is new came from the row that was handed on, and counts one row more.
use mathlib.Core.Path.{◌≡◌, refl, sym, ap, ◌∙◌}
use mathlib.Core.Logic.{◌≢◌, ◌⊎◌, inl, inr}
use mathlib.Core.Bool.{Bool, true, false, cond}
use mathlib.Core.List.{List, [], ◌∷◌, ◌++◌}
use Prim.Native.Nat.{ℕ, zero, suc, ◌+◌, ◌*◌, ◌≤◌, ◌<◌}
use native.Mathlib.Omega.{arith}
use lib.Dec.{eqb, ltb}
use lib.ListN.{length, get_or, set, replicate, length-append, length-set, length-replicate, get_or-replicate, get_or-append}
use lib.Seq.{get_or-set_same, get_or-set_other}
use borrow.Author.Tests.{eqb-true, eqb-false, ltb-true, ltb-false}
use Rattle.cache.specs.Sets.{in_set}
use Rattle.model.specs.Lists.{mem}
use Rattle.model.specs.Computed.{same_list}
use Rattle.rows.specs.Overlay.{overlay}
use Rattle.rows.specs.Rows.{part_of}
use Rattle.rows.proofs.Parts.{rows-length}
use Rattle.gather.specs.Graph.{Graph, row_at, handed_on}
use Rattle.gather.specs.Memory.{held_rows, with_row, AppendedTo, Handed}
use Rattle.gather.proofs.Gathering.{none-held, first-held}
use Rattle.trails.specs.Trails.{held_row, length_at, no_trails, Came, began, handed, total, Trailed, Noted}

-- ---- one row more, or none

data Grown (x : List ℕ) (old new : List (List ℕ)) : Type 0 where
  same : new ≡ old → Grown x old new
  more : new ≡ old ++ (x ∷ []) → Grown x old new

grown_with : (x : List ℕ) (old new : List (List ℕ)) → new ≡ with_row x old → Grown x old new
grown_with x old new e = go (mem same_list x old) refl e
  where
    go : (t : Bool) → mem same_list x old ≡ t → new ≡ cond t old (old ++ (x ∷ [])) → Grown x old new
    go true q e = same e
    go false q e = more e

module _ {x : List ℕ} {old new : List (List ℕ)} where
  grown_kept : Grown x old new → (k : ℕ) → k < length old → get_or new k [] ≡ get_or old k []
  grown_kept (same e) k h = rw e
  grown_kept (more e) k h = rw e (get_or-append old (x ∷ []) [] k h)

  grown_few : Grown x old new → (length old ≤ length new) × (length new ≤ suc (length old))
  grown_few (same e) = rw e (omega arith, omega arith)
  grown_few (more e) = rw e (omega (arith, length-append old (x ∷ [])), omega (arith, length-append old (x ∷ [])))

  grown_last : Grown x old new → length old < length new → get_or new (length old) [] ≡ x
  grown_last (same e) h = absurd (omega (arith, ap length e))
  grown_last (more e) h = rw e (go old)
    where
      go : (l : List (List ℕ)) → get_or (l ++ (x ∷ [])) (length l) [] ≡ x
      go [] = refl
      go (y ∷ l) = go l

-- ---- how many rows there are

total_le : (l m : List ℕ) → length l ≡ length m → ((i : ℕ) → i < length l → get_or l i 0 ≤ get_or m i 0) → total l ≤ total m
total_le [] m e h = omega arith
total_le (x ∷ l) [] e h = absurd (omega arith)
total_le (x ∷ l) (y ∷ m) e h = omega (arith, h 0 (omega arith), total_le l m (omega arith) (λ i lt. h (suc i) (omega arith)))

total_less : (l m : List ℕ) → length l ≡ length m → ((i : ℕ) → i < length l → get_or l i 0 ≤ get_or m i 0) → (s : ℕ) → s < length l → get_or l s 0 < get_or m s 0 → total l < total m
total_less [] m e h s hs lt = absurd (omega arith)
total_less (x ∷ l) [] e h s hs lt = absurd (omega arith)
total_less (x ∷ l) (y ∷ m) e h zero hs lt = omega (arith, total_le l m (omega arith) (λ i q. h (suc i) (omega arith)))
total_less (x ∷ l) (y ∷ m) e h (suc s) hs lt = omega (arith, h 0 (omega arith), total_less l m (omega arith) (λ i q. h (suc i) (omega arith)) s (omega arith) lt)

total-most : (l : List ℕ) (c : ℕ) → ((i : ℕ) → i < length l → get_or l i 0 ≤ c) → total l ≤ length l * c
total-most [] c h = omega arith
total-most (x ∷ l) c h = omega (arith, h 0 (omega arith), total-most l c (λ i q. h (suc i) (omega arith)))

-- ---- a turn: the row numbered j of a is handed on

module _ (g : Graph) (rows counts trails : List ℕ) (few : g.blocks ≤ 24) (a j : ℕ) (inside : a < 24) (held : j < get_or counts a 0)
    (trailed : Trailed g rows counts trails) {left now counts-now trails-now : List ℕ} (leaves : left ≡ overlay (held_row g.width rows counts a j) (row_at g.width g.leaving a))
    (handed_to : Handed g.width (get_or g.sets a 0) left g.entering g.blocks rows counts now counts-now)
    (noted : Noted (32 * a + j) counts counts-now trails trails-now) where
  abbrev got : ℕ → List ℕ
  got s = handed_on g a s (held_row g.width rows counts a j)

  grown : (s : ℕ) → s < 24 → Grown (got s) (held_rows g.width rows counts s) (held_rows g.width now counts-now s)
  grown s h = go (ltb s g.blocks) refl (in_set (get_or g.sets a 0) s) refl
    where
      go : (t : Bool) → ltb s g.blocks ≡ t → (u : Bool) → in_set (get_or g.sets a 0) s ≡ u → Grown (got s) (held_rows g.width rows counts s) (held_rows g.width now counts-now s)
      go true p true q = grown_with (got s) (held_rows g.width rows counts s) (held_rows g.width now counts-now s) (rw (q, leaves) at (handed_to.below s h (ltb-true s g.blocks p)))
      go true p false q = same (rw q at (handed_to.below s h (ltb-true s g.blocks p)))
      go false p u q = same (handed_to.above s h (ltb-false s g.blocks p))

  long : (s : ℕ) → length (held_rows g.width rows counts s) ≡ get_or counts s 0
  long s = rows-length g.width (get_or counts s 0) (part_of g.width rows s)

  long_now : (s : ℕ) → length (held_rows g.width now counts-now s) ≡ get_or counts-now s 0
  long_now s = rows-length g.width (get_or counts-now s 0) (part_of g.width now s)

  counts_le : (s : ℕ) → s < 24 → get_or counts s 0 ≤ get_or counts-now s 0
  counts_le s h = omega (arith, (grown_few (grown s h)).0, long s, long_now s)

  counts_few : (s : ℕ) → s < 24 → get_or counts-now s 0 ≤ suc (get_or counts s 0)
  counts_few s h = omega (arith, (grown_few (grown s h)).1, long s, long_now s)

  kept : (s k : ℕ) → s < 24 → k < get_or counts s 0 → held_row g.width now counts-now s k ≡ held_row g.width rows counts s k
  kept s k h l = grown_kept (grown s h) k (rw (long s) l)

  -- a row that is new is in the set, else nothing came to its block
  new_in : (s : ℕ) → s < 24 → get_or counts s 0 < get_or counts-now s 0 → (s < g.blocks) × (in_set (get_or g.sets a 0) s ≡ true)
  new_in s h l = go (ltb s g.blocks) refl (in_set (get_or g.sets a 0) s) refl
    where
      none : held_rows g.width now counts-now s ≡ held_rows g.width rows counts s → (s < g.blocks) × (in_set (get_or g.sets a 0) s ≡ true)
      none e = absurd (omega (arith, ap length e, long s, long_now s))

      go : (t : Bool) → ltb s g.blocks ≡ t → (u : Bool) → in_set (get_or g.sets a 0) s ≡ u → (s < g.blocks) × (in_set (get_or g.sets a 0) s ≡ true)
      go true p true q = (ltb-true s g.blocks p, q)
      go true p false q = none (rw q at (handed_to.below s h (ltb-true s g.blocks p)))
      go false p u q = none (handed_to.above s h (ltb-false s g.blocks p))

  came-kept : (b k : ℕ) → b < 24 → k < get_or counts b 0 → Came g now counts-now trails-now b k
  came-kept b k h l = go (trailed.came b k h l)
    where
      go : Came g rows counts trails b k → Came g now counts-now trails-now b k
      go (began e r n) = began e (kept b k h l ∙ r) (noted.kept_length b k h l ∙ n)
      go (handed c i hc hi hb m r p n) =
          handed c i hc (omega (arith, counts_le c hc)) hb m (kept b k h l ∙ r ∙ ap (handed_on g c b) (sym (kept c i hc hi))) (noted.kept_parent b k h l ∙ p)
          (noted.kept_length b k h l ∙ n ∙ ap suc (sym (noted.kept_length c i hc hi)))

  came-new : (s : ℕ) → s < 24 → get_or counts s 0 < get_or counts-now s 0 → Came g now counts-now trails-now s (get_or counts s 0)
  came-new s h l =
      let (hb, m) = new_in s h l in
      handed a j inside (omega (arith, counts_le a inside)) hb m
      (ap (λ (n : ℕ). get_or (held_rows g.width now counts-now s) n []) (sym (long s)) ∙ grown_last (grown s h) (omega (arith, long s, long_now s)) ∙ ap (handed_on g a s) (sym (kept a j inside held)))
      (noted.new_parent s h l) (noted.new_length s h l ∙ ap suc (sym (noted.kept_length a j inside held)))

  -- the row numbered k is one of before, or the new one
  which : (b k : ℕ) → b < 24 → k < get_or counts-now b 0 → (k < get_or counts b 0) ⊎ ((k ≡ get_or counts b 0) × (get_or counts b 0 < get_or counts-now b 0))
  which b k h l = go (ltb k (get_or counts b 0)) refl
    where
      go : (t : Bool) → ltb k (get_or counts b 0) ≡ t → (k < get_or counts b 0) ⊎ ((k ≡ get_or counts b 0) × (get_or counts b 0 < get_or counts-now b 0))
      go true p = inl (ltb-true k (get_or counts b 0) p)
      go false p = inr (omega (arith, counts_few b h, ltb-false k (get_or counts b 0) p), omega (arith, ltb-false k (get_or counts b 0) p))

  same_long : length counts ≡ length counts-now
  same_long = trailed.memory.many ∙ sym handed_to.memory.many

  le_all : (i : ℕ) → i < length counts → get_or counts i 0 ≤ get_or counts-now i 0
  le_all i h = counts_le i (omega (arith, trailed.memory.many))

  few_now : (b k : ℕ) → b < 24 → k < get_or counts-now b 0 → length_at trails-now (32 * b + k) ≤ total counts-now
  few_now b k h l = elim (which b k h l) [
    | inl p ↦ omega (arith, noted.kept_length b k h p, trailed.few b k h p, total_le counts counts-now same_long le_all)
    | inr (e, p) ↦ rw e (omega (arith, noted.new_length b h p, trailed.few a j inside held, total_less counts counts-now same_long le_all b (omega (arith, trailed.memory.many)) p))
  ]

  pub next_trails : Trailed g now counts-now trails-now
  next_trails = record {
    memory = handed_to.memory;
    places = noted.places;
    came = λ b k h l. elim (which b k h l) [ inl p ↦ came-kept b k h p | inr (e, p) ↦ rw e (came-new b h p) ];
    few = few_now;
  }

-- ---- the start: one row, whose trail is one block

pub no_trails-long : length no_trails ≡ 1536
unfolding no_trails
no_trails-long = length-replicate {A = ℕ} 1536 0

total_has : (l : List ℕ) (s : ℕ) → s < length l → get_or l s 0 ≤ total l
total_has [] s h = absurd (omega arith)
total_has (x ∷ l) zero h = omega arith
total_has (x ∷ l) (suc s) h = omega (arith, total_has l s (omega arith))

module _ (g : Graph) (few : g.blocks ≤ 24) (within : g.first < g.blocks) {rows counts now counts-now : List ℕ} {full : Bool} (zeros : counts ≡ replicate 24 0)
    (appended : AppendedTo g.width g.first g.row rows counts now counts-now full) where
  abbrev first_trails : List ℕ
  first_trails = set (replicate 1536 0) (768 + 32 * g.first) 1

  -- how many rows each block has
  one : get_or counts-now g.first 0 ≡ 1
  one = sym (rows-length g.width (get_or counts-now g.first 0) (part_of g.width now g.first)) ∙ ap length (first-held g few within zeros appended)

  none : (b : ℕ) → b < 24 → b ≢ g.first → get_or counts-now b 0 ≡ 0
  none b h d =
      sym (rows-length g.width (get_or counts-now b 0) (part_of g.width now b)) ∙ ap length (appended.others b h d ∙ none-held g few within zeros appended b h)

  first-length : length_at first_trails (32 * g.first) ≡ 1
  first-length = get_or-set_same (replicate 1536 0) (768 + 32 * g.first) 1 0 (rw (length-replicate {A = ℕ} 1536 0) (omega arith))

  -- the only row is the first one
  only : (b k : ℕ) → b < 24 → k < get_or counts-now b 0 → (b ≡ g.first) × (k ≡ 0)
  only b k h l = go (eqb b g.first) refl
    where
      go : (t : Bool) → eqb b g.first ≡ t → (b ≡ g.first) × (k ≡ 0)
      go true q = let e = eqb-true b g.first q in (e, omega (arith, one, ap (λ (c : ℕ). get_or counts-now c 0) e))
      go false q = absurd (omega (arith, none b h (eqb-false b g.first q)))

  first-place : (b k : ℕ) → b ≡ g.first → k ≡ 0 → 32 * b + k ≡ 32 * g.first
  first-place b k e z = omega arith

  some-total : 1 ≤ total counts-now
  some-total = omega (arith, one, total_has counts-now g.first (omega (arith, appended.memory.many)))

  pub begin_trails : Trailed g now counts-now (set no_trails (768 + 32 * g.first) 1)
  unfolding no_trails
  begin_trails = record {
    memory = appended.memory;
    places = record {
      long = length-set (replicate 1536 0) (768 + 32 * g.first) 1 ∙ length-replicate {A = ℕ} 1536 0;
      inside = λ at h. rw (get_or-set_other {A = ℕ} (replicate 1536 0) (768 + 32 * g.first) at 1 0 (λ e. omega arith), get_or-replicate {A = ℕ} 1536 at 0 0 (omega arith)) (omega arith);
    };
    came = λ b k h l.
        let (e, z) = only b k h l in
        began e (ap (λ (c : ℕ). held_row g.width now counts-now c k) e ∙ ap (λ (n : ℕ). get_or (held_rows g.width now counts-now g.first) n []) z ∙ ap (λ (r : List (List ℕ)). get_or r 0 []) (first-held g few within zeros appended))
        (ap (length_at first_trails) (first-place b k e z) ∙ first-length);
    few = λ b k h l. let (e, z) = only b k h l in rw (first-place b k e z, first-length) some-total;
  }

-- ---- no trail is longer than there are places

pub trail_few : (g : Graph) (rows counts trails : List ℕ) → Trailed g rows counts trails → (b k : ℕ) → b < 24 → k < get_or counts b 0 → length_at trails (32 * b + k) ≤ 768
trail_few g rows counts trails trailed b k h l =
    let memory = trailed.memory in
    omega (arith, trailed.few b k h l, total-most counts 32 (λ i q. memory.few i (omega (arith, memory.many))), memory.many)
