-- Tasks that share no memory block: what a preemption uses it replaces, `replaced_used`, and no hit is gained, so that D is U and the lost hits,
-- `disturbed-lost`. The idea: the disturbed row holds the same or a foreign memory block.
use mathlib.Core.Path.{◌≡◌, refl, sym, ap, ◌∙◌}
use mathlib.Core.Logic.{◌⊎◌, inl, inr}
use mathlib.Core.Bool.{Bool, true, false, not, ◌&&◌, and-true, false≢true, cond}
use mathlib.Core.List.{List, [], ◌∷◌}
use Prim.Native.Nat.{ℕ, ◌+◌, ◌<◌}
use native.Mathlib.Omega.{arith}
use lib.Dec.{eqb, ltb}
use lib.ListN.{length}
use borrow.Author.Tests.{eqb-true, ne_eqb, eq-eqb, ltb-true, ltb-false}
use Rattle.cache.specs.Sum.{bit}
use Rattle.cache.specs.References.{nothing, Real, All}
use Rattle.cache.specs.Cache.{Cache, held, empty_row, hits, with_reference, with_references, misses}
use Rattle.cache.specs.Firsts.{firsts_over}
use Rattle.cache.specs.Sets.{useful_replaced, useful_used}
use Rattle.cache.proofs.Sums.{sum_cong}
use Rattle.cache.proofs.Rows.{length-empty_row, held-empty_row, length-with_reference, length-with_references, length-firsts_over, held-with_reference, Effect, kept, given, effect}
use Rattle.model.proofs.Events.{Event, Ref, Preempt, own, disturbed, lost, gained, agree, EventsApart}
use Rattle.model.proofs.Lost.{no_place, balance}

-- ---- references with a weaker property

pub all_map : {P Q : ℕ → Type 0} → ((m : ℕ) → P m → Q m) → (ms : List ℕ) → All P ms → All Q ms
all_map h [] a = tt
all_map h (m ∷ ms) a = (h m a.0, all_map h ms a.1)

module _ (k : Cache) where
  -- each cache block of the row holds nothing or something that is P
  abbrev pub Holds : (ℕ → Type 0) → List ℕ → Type 0
  Holds P row = (c : ℕ) → c < k.width → (held row c ≡ nothing) ⊎ P (held row c)

  pub with_references-holds : (P : ℕ → Type 0) (fs : List ℕ) → All P fs → Holds P (with_references k (empty_row k) fs)
  with_references-holds P fs a c q = go (effect k P fs c q a)
    where
      go : Effect k P c fs → (held (with_references k (empty_row k) fs) c ≡ nothing) ⊎ P (held (with_references k (empty_row k) fs) c)
      go (kept h) = inl (h (empty_row k) (length-empty_row k) ∙ held-empty_row k c q)
      go (given f p h) = inr (rw (h (empty_row k) (length-empty_row k)) p)

  pub live-holds : (P : ℕ → Type 0) (ms : List ℕ) → All P ms → Holds P (firsts_over k ms (empty_row k))
  live-holds P [] a c q = inl (held-empty_row k c q)
  live-holds P (m ∷ ms) a c q = rw (held-with_reference k (firsts_over k ms (empty_row k)) m c (length-firsts_over k ms (empty_row k) (length-empty_row k)) q) (go (eqb (k.place m) c) (live-holds P ms a.1 c q))
    where
      go : (b : Bool) → (held (firsts_over k ms (empty_row k)) c ≡ nothing) ⊎ P (held (firsts_over k ms (empty_row k)) c) → (cond b m (held (firsts_over k ms (empty_row k)) c) ≡ nothing) ⊎ P (cond b m (held (firsts_over k ms (empty_row k)) c))
      go true h = inr a.0
      go false h = h

  module _ (mine : ℕ → Bool) where
    abbrev pub Own : ℕ → Type 0
    Own m = mine m ≡ true

    abbrev pub Other : ℕ → Type 0
    Other m = mine m ≡ false

    differ : (d m : ℕ) → Other d → Own m → eqb d m ≡ false
    differ d m h o = ne_eqb d m (λ e. false≢true (sym h ∙ ap mine e ∙ o))

    -- ---- what a preemption replaces, and what it uses

    -- `used` at one cache block
    abbrev filled : ℕ → Bool
    filled f = not (eqb f nothing)

    used_cell : (r l f : ℕ) → (l ≡ nothing) ⊎ Own l → (f ≡ nothing) ⊎ Other f → bit (agree r l && (filled f && not (eqb f r))) ≡ bit (agree r l && filled f)
    used_cell r l f o (inl z) = rw (z, eq-eqb nothing nothing refl)
    used_cell r l f (inl z) (inr h) = rw z (go (eqb r nothing))
      where
        go : (b : Bool) → bit ((b && not b) && (filled f && not (eqb f r))) ≡ bit ((b && not b) && filled f)
        go true = refl
        go false = refl
    used_cell r l f (inr o) (inr h) = go (eqb r l) refl
      where
        go : (b : Bool) → eqb r l ≡ b → bit (agree r l && (filled f && not (eqb f r))) ≡ bit (agree r l && filled f)
        go true e = rw (e, differ f r h (rw (eqb-true r l e) o), and-true)
        go false e = rw e

    pub replaced_used : (r l f : List ℕ) → Holds Own l → Holds Other f → useful_replaced k r l f ≡ useful_used k r l f
    replaced_used r l f hl hf = sum_cong k.width _ _ (λ c q. used_cell (held r c) (held l c) (held f c) (hl c q) (hf c q))

    -- ---- nothing is gained

    -- each cache block is the same in both rows, or holds another task's memory block in the disturbed one
    abbrev pub Near : List ℕ → List ℕ → Type 0
    Near d u = (c : ℕ) → c < k.width → (held d c ≡ held u c) ⊎ Other (held d c)

    near_hit : (d u : List ℕ) (m : ℕ) → length d ≡ k.width → Near d u → Own m → Real m → bit (hits k d m && not (hits k u m)) ≡ 0
    near_hit d u m ed n o r = go (ltb (k.place m) k.width) refl
      where
        self : (b : Bool) → bit (b && not b) ≡ 0
        self true = refl
        self false = refl

        at : (held d (k.place m) ≡ held u (k.place m)) ⊎ Other (held d (k.place m)) → bit (hits k d m && not (hits k u m)) ≡ 0
        at (inl e) = rw e (self (hits k u m))
        at (inr h) = rw (differ (held d (k.place m)) m h o)

        go : (b : Bool) → ltb (k.place m) k.width ≡ b → bit (hits k d m && not (hits k u m)) ≡ 0
        go true e = at (n (k.place m) (ltb-true (k.place m) k.width e))
        go false e = rw (no_place k d m r (omega (arith, ltb-false (k.place m) k.width e)))

    near_with_reference : (d u : List ℕ) (m : ℕ) → length d ≡ k.width → length u ≡ k.width → Near d u → Near (with_reference k d m) (with_reference k u m)
    near_with_reference d u m ed eu n c q = rw (held-with_reference k d m c ed q, held-with_reference k u m c eu q) (go (eqb (k.place m) c) (n c q))
      where
        go : (b : Bool) → (held d c ≡ held u c) ⊎ Other (held d c) → (cond b m (held d c) ≡ cond b m (held u c)) ⊎ Other (cond b m (held d c))
        go true h = inl refl
        go false h = h

    near_with_references : (fs d u : List ℕ) → All Other fs → length d ≡ k.width → Near d u → Near (with_references k d fs) u
    near_with_references fs d u a ed n c q = go (effect k Other fs c q a)
      where
        go : Effect k Other c fs → (held (with_references k d fs) c ≡ held u c) ⊎ Other (held (with_references k d fs) c)
        go (kept h) = rw (h d ed) (n c q)
        go (given f p h) = inr (rw (h d ed) p)

    pub gained_none : (es : List Event) (d u : List ℕ) → length d ≡ k.width → length u ≡ k.width → Near d u → EventsApart mine es → gained k d u es ≡ 0
    gained_none [] d u ed eu n g = refl
    gained_none (Ref m ∷ es) d u ed eu n g =
        omega (
          arith,
          near_hit d u m ed n g.0.0 g.0.1,
          gained_none es (with_reference k d m) (with_reference k u m) (length-with_reference k d m ed) (length-with_reference k u m eu) (near_with_reference d u m ed eu n) g.1,
        )
    gained_none (Preempt fs ∷ es) d u ed eu n g =
        gained_none es (with_references k d fs) u (length-with_references k fs d ed) eu (near_with_references fs d u (all_map (λ m h. h.0) fs g.0) ed n) g.1

    -- ---- D is U and the lost hits, from any row that both runs begin with

    pub disturbed-lost : (es : List Event) (u : List ℕ) → length u ≡ k.width → EventsApart mine es → disturbed k u es ≡ misses k u (own es) + lost k u u es
    disturbed-lost es u eu g = omega (arith, balance k es u u, gained_none es u u eu eu (λ c q. inl refl) g)
