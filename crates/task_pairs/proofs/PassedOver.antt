-- Points that cannot be best: where the next reference misses, the point after it has no less (`rises`), and a point after a hit has no more than the
-- one before it (`falls`).
-- The idea: one reference changes the rows at one cache block alone. Before a miss that cache block is not useful, and before a hit it is.
-- So the numbers are right though such points are not met: `SoFar`, and a turn of the pass over the references.
use mathlib.Core.Path.{◌≡◌, refl, sym, ap, ap₂, ◌∙◌}
use mathlib.Core.Bool.{Bool, true, false, cond, not, ◌&&◌, false≢true}
use mathlib.Core.List.{List, [], ◌∷◌}
use Prim.Native.Nat.{ℕ, zero, suc, ◌+◌, ◌≤◌, ◌<◌, max}
use native.Mathlib.Nat.{le_refl, not-suc-le-zero, add-zero}
use native.Mathlib.Numerals.{add-one}
use native.Mathlib.Omega.{arith}
use lib.Dec.{eqb, ltb}
use lib.ListN.{length, get_or, take}
use lib.Bits.{bit_and}
use lib.Count.{ones}
use borrow.Author.Tests.{eqb-true, eq-eqb, ne_eqb, ltb-true, ltb-false, lt-ltb}
use Rattle.cache.specs.References.{nothing, Real, All}
use Rattle.cache.specs.Sum.{bit}
use Rattle.cache.specs.Cache.{Cache, held, hits, with_reference, with_references}
use Rattle.cache.specs.Sets.{useful_replaced}
use Rattle.cache.proofs.Rows.{held_beyond, length-with_reference, length-with_references, held-with_reference}
use Rattle.cache.proofs.Sums.{sum_le}
use Rattle.model.specs.Lists.{best}
use Rattle.model.specs.Computed.{up_from}
use Rattle.rows.specs.Overlay.{overlay}
use Rattle.rows.proofs.Overlays.{length-overlay, held-overlay}
use Rattle.points.specs.Points.{rest_of, hits_next}
use Rattle.points.proofs.DoneRows.{one-done}
use Rattle.points.proofs.Rests.{rest-long, rest_more}
use Rattle.row_sets.specs.Sets.{useful_set, replaced_set, replaced_sets}
use Rattle.pairs.specs.Pairs.{most_common, point_most, end_rows, Met}
use Rattle.pairs.specs.declared.ends.Ends.{Ends}
use Rattle.row_sets.proofs.ReplacedSets.{counts_as}
use Rattle.pairs.proofs.Bounds.{over_ends_lem}
use Rattle.pairs.proofs.Meeting.{met_none, met_same}
use Rattle.task_pairs.specs.TaskPairs.{done_most}

-- ---- what an overlaid row holds

over_beyond : (row over : List ℕ) (c : ℕ) → length row ≤ c → held (overlay row over) c ≡ nothing
over_beyond row over c h = held_beyond (overlay row over) c (rw (length-overlay row over) h)

over_same : (row over over' : List ℕ) (c : ℕ) → held over c ≡ held over' c → held (overlay row over) c ≡ held (overlay row over') c
over_same row over over' c e = go (ltb c (length row)) refl
  where
    go : (b : Bool) → ltb c (length row) ≡ b → held (overlay row over) c ≡ held (overlay row over') c
    go true q =
        held-overlay row over c (ltb-true c (length row) q)
        ∙ ap (λ (x : ℕ). cond (eqb x nothing) (held row c) x) e
        ∙ sym (held-overlay row over' c (ltb-true c (length row) q))
    go false q = let h : length row ≤ c = omega (arith, ltb-false c (length row) q) in over_beyond row over c h ∙ sym (over_beyond row over' c h)

-- ---- one cache block

-- whether a cache block counts that holds x in the reaching, l in the live and f in the end row
abbrev counts : ℕ → ℕ → ℕ → Bool
counts x l f = (eqb x l && not (eqb x nothing)) && (not (eqb f nothing) && not (eqb f x))

same_le : (x x' l l' f : ℕ) → x ≡ x' → l ≡ l' → bit (counts x l f) ≤ bit (counts x' l' f)
same_le x x' l l' f e d = rw (e, d) (le_refl (bit (counts x' l' f)))

-- what holds another memory block than the live row, or nothing, does not count
other_le : (x l f n : ℕ) → eqb x l && not (eqb x nothing) ≡ false → bit (counts x l f) ≤ n
other_le x l f n e = rw e (omega arith)

-- what is useful counts no less than what holds the same
useful_le : (x l l' f : ℕ) → eqb x l' && not (eqb x nothing) ≡ true → bit (counts x l f) ≤ bit (counts x l' f)
useful_le x l l' f e = rw e (go (eqb x l && not (eqb x nothing)) (not (eqb f nothing) && not (eqb f x)))
  where
    go : (a b : Bool) → bit (a && b) ≤ bit b
    go true b = le_refl (bit b)
    go false b = omega arith

and_false : (a : Bool) → a && false ≡ false
and_false true = refl
and_false false = refl

-- ---- one reference m: r is the row before it, rest the first references of what is left after it

module _ (k : Cache) (r rest : List ℕ) (m : ℕ) (wide : length r ≡ k.width) (wide' : length rest ≡ k.width) (l f : List ℕ) where
  abbrev before : ℕ → ℕ
  before c = bit (counts (held r c) (held (overlay l (with_reference k rest m)) c) (held f c))

  abbrev after : ℕ → ℕ
  after c = bit (counts (held (with_reference k r m) c) (held (overlay l rest) c) (held f c))

  -- at another cache block
  elsewhere : (c : ℕ) → c < k.width → eqb (k.place m) c ≡ false
      → (held r c ≡ held (with_reference k r m) c) × (held (overlay l (with_reference k rest m)) c ≡ held (overlay l rest) c)
  elsewhere c h q =
      (sym (held-with_reference k r m c wide h ∙ rw q), over_same l (with_reference k rest m) rest c (held-with_reference k rest m c wide' h ∙ rw q))

  -- at its own
  row-own : (c : ℕ) → c < k.width → eqb (k.place m) c ≡ true → held (with_reference k r m) c ≡ m
  row-own c h q = held-with_reference k r m c wide h ∙ rw q

  rest-own : (c : ℕ) → c < k.width → eqb (k.place m) c ≡ true → held (with_reference k rest m) c ≡ m
  rest-own c h q = held-with_reference k rest m c wide' h ∙ rw q

  rises-at : Real m → hits k r m ≡ false → (c : ℕ) → c < k.width → before c ≤ after c
  rises-at real miss c h = go (eqb (k.place m) c) refl
    where
      x : ℕ
      x = held r c

      live : ℕ
      live = held (overlay l (with_reference k rest m)) c

      not-useful : (eqb (k.place m) c ≡ true) → (b : Bool) → ltb c (length l) ≡ b → eqb x live && not (eqb x nothing) ≡ false
      not-useful q true i =
          let is : live ≡ m = held-overlay l (with_reference k rest m) c (ltb-true c (length l) i) ∙ rw (rest-own c h q, ne_eqb m nothing real) in
          let differ : eqb x live ≡ false = ap (eqb x) is ∙ ap (λ (p : ℕ). eqb (held r p) m) (sym (eqb-true (k.place m) c q)) ∙ miss in
          rw differ
      not-useful q false i = none (over_beyond l (with_reference k rest m) c (omega (arith, ltb-false c (length l) i)))
        where
          by : (b : Bool) → b && not b ≡ false
          by true = refl
          by false = refl

          none : live ≡ nothing → eqb x live && not (eqb x nothing) ≡ false
          none e = ap (λ (y : ℕ). eqb x y && not (eqb x nothing)) e ∙ by (eqb x nothing)

      go : (b : Bool) → eqb (k.place m) c ≡ b → before c ≤ after c
      go true q = other_le x live (held f c) (after c) (not-useful q (ltb c (length l)) refl)
      go false q = same_le x (held (with_reference k r m) c) live (held (overlay l rest) c) (held f c) (elsewhere c h q).0 (elsewhere c h q).1

  falls_at : hits k r m ≡ true → (c : ℕ) → c < k.width → after c ≤ before c
  falls_at hit c h = go (eqb (k.place m) c) refl
    where
      x : ℕ
      x = held (with_reference k r m) c

      live : ℕ
      live = held (overlay l rest) c

      live' : ℕ
      live' = held (overlay l (with_reference k rest m)) c

      here : eqb (k.place m) c ≡ true → held r c ≡ m
      here q = ap (held r) (sym (eqb-true (k.place m) c q)) ∙ eqb-true (held r (k.place m)) m hit

      at : (q : eqb (k.place m) c ≡ true) (n i : Bool) → eqb m nothing ≡ n → ltb c (length l) ≡ i → bit (counts m live (held f c)) ≤ bit (counts m live' (held f c))
      at q true i e d = other_le m live (held f c) (bit (counts m live' (held f c))) (rw e (and_false (eqb m live)))
      at q false true e d =
          let is : live' ≡ m = held-overlay l (with_reference k rest m) c (ltb-true c (length l) d) ∙ rw (rest-own c h q, e) in
          useful_le m live live' (held f c) (rw (is, eq-eqb m m refl, e))
      at q false false e d =
          let is : live ≡ nothing = over_beyond l rest c (omega (arith, ltb-false c (length l) d)) in
          other_le m live (held f c) (bit (counts m live' (held f c))) (rw (is, e))

      go : (b : Bool) → eqb (k.place m) c ≡ b → after c ≤ before c
      go true q = rw (row-own c h q, here q) (at q (eqb m nothing) (ltb c (length l)) refl refl)
      go false q = same_le x (held r c) live live' (held f c) (sym (elsewhere c h q).0) (sym (elsewhere c h q).1)

  pub one-rises : Real m → hits k r m ≡ false → useful_replaced k r (overlay l (with_reference k rest m)) f ≤ useful_replaced k (with_reference k r m) (overlay l rest) f
  one-rises real miss = sum_le k.width before after (rises-at real miss)

  pub one_falls : hits k r m ≡ true → useful_replaced k (with_reference k r m) (overlay l rest) f ≤ useful_replaced k r (overlay l (with_reference k rest m)) f
  one_falls hit = sum_le k.width after before (falls_at hit)

-- ---- over the live rows and the end rows

best_mono : {A : Type 0} (f g : A → ℕ) (xs : List A) → ((x : A) → f x ≤ g x) → best f xs ≤ best g xs
best_mono f g [] h = omega arith
best_mono f g (x ∷ xs) h = omega (arith, h x, best_mono f g xs h)

module _ (k : Cache) (r rest r' rest' : List ℕ) (wide : length r ≡ k.width) (wide' : length r' ≡ k.width)
    (each : (l f : List ℕ) → useful_replaced k r (overlay l rest) f ≤ useful_replaced k r' (overlay l rest') f) where
  abbrev value : List ℕ → List ℕ → ℕ
  value l f = ones (bit_and (useful_set r (overlay l rest)) (replaced_set f r))

  abbrev value' : List ℕ → List ℕ → ℕ
  value' l f = ones (bit_and (useful_set r' (overlay l rest')) (replaced_set f r'))

  one_le : (l f : List ℕ) → value l f ≤ value' l f
  one_le l f = omega (arith, counts_as k r (overlay l rest) f wide, counts_as k r' (overlay l rest') f wide', each l f)

  ends_le : (fs : List (List ℕ)) (l : List ℕ) → most_common (useful_set r (overlay l rest)) (replaced_sets r fs) ≤ most_common (useful_set r' (overlay l rest')) (replaced_sets r' fs)
  ends_le fs l =
      omega (
        arith,
        over_ends_lem (useful_set r (overlay l rest)) r fs,
        over_ends_lem (useful_set r' (overlay l rest')) r' fs,
        best_mono (value l) (value' l) fs (one_le l),
      )

  point_le : (ls fs : List (List ℕ)) → point_most r rest ls fs ≤ point_most r' rest' ls fs
  point_le ls fs =
      best_mono (λ (l : List ℕ). most_common (useful_set r (overlay l rest)) (replaced_sets r fs)) (λ (l : List ℕ). most_common (useful_set r' (overlay l rest')) (replaced_sets r' fs))
      ls (ends_le fs)

-- ---- the points of a block

module _ (k : Cache) (ms row : List ℕ) (ls fs : List (List ℕ)) (wide : length row ≡ k.width) (d : ℕ) (inside : d < length ms) where
  abbrev m : ℕ
  m = get_or ms d 0

  abbrev r : List ℕ
  r = with_references k row (take d ms)

  abbrev rest : List ℕ
  rest = rest_of k ms (d + 1)

  r_wide : length r ≡ k.width
  r_wide = length-with_references k (take d ms) row wide

  row_more : with_reference k r m ≡ with_references k row (take (d + 1) ms)
  row_more = one-done k ms row d inside refl refl

  rest_less : with_reference k rest m ≡ rest_of k ms d
  rest_less = rest_more k ms d inside refl refl refl

  pub rises : Real m → hits k r m ≡ false → done_most k ms ls row fs d ≤ done_most k ms ls row fs (d + 1)
  rises real miss =
      rw (← row_more, ← rest_less)
      (point_le k r (with_reference k rest m) (with_reference k r m) rest r_wide (length-with_reference k r m r_wide)
      (λ l f. one-rises k r rest m r_wide (rest-long k ms (d + 1)) l f real miss) ls fs)

  pub falls : hits k r m ≡ true → done_most k ms ls row fs (d + 1) ≤ done_most k ms ls row fs d
  falls hit =
      rw (← row_more, ← rest_less)
      (point_le k (with_reference k r m) rest r (with_reference k rest m) (length-with_reference k r m r_wide) r_wide
      (λ l f. one_falls k r rest m r_wide (rest-long k ms (d + 1)) l f hit) ls fs)

-- ---- the next reference

real-at : (ms : List ℕ) (d : ℕ) → All Real ms → d < length ms → Real (get_or ms d 0)
real-at [] d a h = absurd (not-suc-le-zero h)
real-at (m ∷ ms) zero a h = a.0
real-at (m ∷ ms) (suc d) a h = real-at ms d a.1 (omega arith)

module _ (k : Cache) (r ms : List ℕ) (d : ℕ) where
  next-hits : {b : Bool} → d < length ms → hits_next k r ms d ≡ b → hits k r (get_or ms d 0) ≡ b
  next-hits h e = ap (λ (t : Bool). cond t (hits k r (get_or ms d 0)) true) (sym (lt-ltb d (length ms) h)) ∙ e

  next-some : hits_next k r ms d ≡ false → d < length ms
  next-some e = go (ltb d (length ms)) refl e
    where
      go : (t : Bool) → ltb d (length ms) ≡ t → cond t (hits k r (get_or ms d 0)) true ≡ false → d < length ms
      go true q x = ltb-true d (length ms) q
      go false q x = absurd (false≢true (sym x))

up_more : (f : ℕ → ℕ) (from n : ℕ) → best f (up_from from (suc n)) ≡ max (best f (up_from from n)) (f (from + n))
up_more f from zero = let e = ap f (add-zero from) in omega (arith, e)
up_more f from (suc n) =
    let z : suc from + n ≡ from + suc n = omega arith in
    let e = ap f z in
    omega (arith, e, up_more f (suc from) n)

up_to : (f : ℕ → ℕ) (i : ℕ) → best f (up_from 1 (i + 1)) ≡ max (best f (up_from 1 i)) (f (i + 1))
up_to f i =
    let z : 1 + i ≡ i + 1 = omega arith in
    ap (λ (j : ℕ). best f (up_from 1 j)) (add-one i) ∙ up_more f 1 i ∙ ap (λ (j : ℕ). max (best f (up_from 1 i)) (f j)) z

-- ---- the numbers

-- they become right when a point is met too: `most` is that of the point
pub record Lags (most all : List (List ℕ) → ℕ) (ends : Ends) (tasks : ℕ) (old new : List ℕ) : Type 0 where
  pub long : length new ≡ length old
  pub each : (j : ℕ) → j < tasks → max (get_or new j 0) (most (end_rows ends j)) ≡ max (get_or old j 0) (all (end_rows ends j))
  pub rest : (j : ℕ) → tasks ≤ j → get_or new j 0 ≡ get_or old j 0

module _ (ends : Ends) (tasks : ℕ) (k : Cache) (ms row : List ℕ) (ls : List (List ℕ)) where
  abbrev at_point : ℕ → List (List ℕ) → ℕ
  at_point d fs = done_most k ms ls row fs d

  abbrev up_to_point : ℕ → List (List ℕ) → ℕ
  up_to_point d fs = best (done_most k ms ls row fs) (up_from 1 d)

  -- the numbers before the reference numbered i is done. `rising`: the point after it may be the best, and they become right when it is met.
  -- Else they are right, and stay right with the point after it
  abbrev pub SoFar : Bool → ℕ → List ℕ → List ℕ → Type 0
  SoFar true i old new = (i < length ms) × Lags (at_point (i + 1)) (up_to_point (i + 1)) ends tasks old new
  SoFar false i old new = Met (up_to_point i) ends tasks old new × (i < length ms → Met (up_to_point (i + 1)) ends tasks old new)

  -- no reference is done yet
  pub none_so_far : (old : List ℕ) (b : Bool) → ltb 0 (length ms) ≡ b → SoFar b 0 old old
  none_so_far old true q = (
    ltb-true 0 (length ms) q,
    record { long = refl; each = λ j h. omega (arith, up_to (done_most k ms ls row (end_rows ends j)) 0); rest = λ j h. refl },
  )
  none_so_far old false q = (met_none ends (up_to_point 0) tasks old (λ fs. refl), λ h. absurd (omega (arith, h, ltb-false 0 (length ms) q)))

  -- all are done
  pub all_so_far : {old new : List ℕ} (i : ℕ) (b : Bool) → length ms ≤ i → SoFar b i old new → Met (up_to_point i) ends tasks old new
  all_so_far i true h s = absurd (omega (arith, h, s.0))
  all_so_far i false h s = s.0

  -- the point after the reference numbered i is met
  pub top_met : {old n n' now rest : List ℕ} (i : ℕ) {b : Bool} → b ≡ true → now ≡ with_references k row (take (i + 1) ms) → rest ≡ rest_of k ms (i + 1) → SoFar b i old n
      → Met (point_most now rest ls) ends tasks n n' → Met (up_to_point (i + 1)) ends tasks old n'
  top_met {old} {n} {n'} {now} {rest} i {b} q e d s p =
      let lag = rising b q s in
      record {
        long = p.long ∙ lag.long;
        each = λ j h.
            let same : point_most now rest ls (end_rows ends j) ≡ at_point (i + 1) (end_rows ends j)
            = ap₂ (λ (x y : List ℕ). point_most x y ls (end_rows ends j)) e d in
            omega (arith, p.each j h, lag.each j h, same);
        rest = λ j h. p.rest j h ∙ lag.rest j h;
      }
    where
      rising : (b : Bool) → b ≡ true → SoFar b i old n → Lags (at_point (i + 1)) (up_to_point (i + 1)) ends tasks old n
      rising true q s = s.1
      rising false q s = absurd (false≢true q)

  module _ (wide : length row ≡ k.width) (real : All Real ms) {now : List ℕ} (i : ℕ) (is : now ≡ with_references k row (take (i + 1) ms)) where
    next-is : {b : Bool} → i + 1 < length ms → hits_next k now ms (i + 1) ≡ b → hits k (with_references k row (take (i + 1) ms)) (get_or ms (i + 1) 0) ≡ b
    next-is h e = ap (λ (r : List ℕ). hits k r (get_or ms (i + 1) 0)) (sym is) ∙ next-hits k now ms (i + 1) h e

    -- the numbers are right with the point after the reference numbered i
    pub right-next : {old new : List ℕ} (top : Bool) → hits_next k now ms (i + 1) ≡ top → Met (up_to_point (i + 1)) ends tasks old new → SoFar (not top) (i + 1) old new
    right-next true e met = (
      met,
      λ h. met_same ends tasks
          (λ fs. omega (arith, up_to (done_most k ms ls row fs) i, up_to (done_most k ms ls row fs) (i + 1), falls k ms row ls fs wide (i + 1) h (next-is h e))) met,
    )
    right-next false e met = (
      next-some k now ms (i + 1) e,
      record {
        long = met.long;
        each = λ j h. omega (arith, met.each j h, up_to (done_most k ms ls row (end_rows ends j)) (i + 1));
        rest = met.rest;
      },
    )

    -- it is passed over: the next reference misses, or it came by a hit
    pub passed-next : (old new : List ℕ) (b top : Bool) → hits_next k now ms (i + 1) ≡ top → i < length ms → (b ≡ true → top ≡ true → ⊥) → SoFar b i old new → SoFar (not top) (i + 1) old new
    passed-next old new true true e h not-both s = absurd (not-both refl refl)
    passed-next old new true false e h not-both s =
        let low = next-some k now ms (i + 1) e in
        let lag = s.1 in (
          low,
          record {
            long = lag.long;
            each = λ j l.
                let fs = end_rows ends j in
                omega (arith, lag.each j l, up_to (done_most k ms ls row fs) (i + 1), rises k ms row ls fs wide (i + 1) low (real-at ms (i + 1) real low) (next-is low e));
            rest = lag.rest;
          },
        )
    passed-next old new false true e h not-both s = right-next true e (s.1 h)
    passed-next old new false false e h not-both s = right-next false e (s.1 h)
