-- Hits that preemptions turn into misses: how many there are at most, and exactly for one preemption, from any two rows.
-- The idea: `gap` counts where the rows differ and the undisturbed one holds what comes next; a reference moves it to the lost hits.
use mathlib.Core.Path.{◌≡◌, refl, sym, ◌∙◌}
use mathlib.Core.Bool.{Bool, true, false, not, ◌&&◌, and-false, cond}
use mathlib.Core.List.{List, [], ◌∷◌, ◌++◌, append-nil}
use Prim.Native.Nat.{ℕ, ◌+◌, ◌≤◌, ◌<◌}
use native.Mathlib.Nat.{add-zero}
use native.Mathlib.Omega.{arith}
use lib.Dec.{eqb}
use lib.ListN.{length}
use lib.Seq.{set_out}
use borrow.Author.Tests.{eqb-true, ne_eqb, eq-eqb}
use Rattle.cache.specs.Sum.{bit}
use Rattle.cache.specs.References.{nothing, Real, All}
use Rattle.cache.specs.Cache.{Cache, held, empty_row, hits, with_reference, with_references, misses}
use Rattle.cache.specs.Firsts.{firsts_over}
use Rattle.cache.specs.Sets.{useful, replaces, useful_replaced}
use Rattle.cache.proofs.Sums.{sum_cong, sum_le, sum_add, sum_zero, sum-at}
use Rattle.cache.proofs.Rows.{held_beyond, length-empty_row, held-empty_row, length-with_reference, length-with_references, length-firsts_over, held-with_reference, Effect, kept, given, effect}
use Rattle.model.specs.Numbers.{Count}
use Rattle.model.proofs.Events.{Event, Ref, Preempt, own, refs, preemptions, disturbed, lost, gained, agree, total, gap, Clean}

-- ---- one cache block, with d in the disturbed and u in the undisturbed cache

-- a reference to m there: it is lost, or the two blocks agree from now on
ref_cell : (b : Bool) (d u l m : ℕ) → Real m
    → cond b (bit (eqb u m && not (eqb d m))) 0 + bit (agree (cond b m u) l && not (eqb (cond b m d) (cond b m u)))
    ≡ bit (agree u (cond b m l) && not (eqb d u))
ref_cell false d u l m h = omega arith
ref_cell true d u l m h = rw (eq-eqb m m refl, and-false) (go (eqb u m) refl)
  where
    go : (b : Bool) → eqb u m ≡ b → bit (eqb u m && not (eqb d m)) + 0 ≡ bit (agree u m && not (eqb d u))
    go true e = rw (e, eqb-true u m e, ne_eqb m nothing h) (omega arith)
    go false e = rw e

-- ---- references with no preemption between them

pub own_refs : (ms : List ℕ) (es : List Event) → own (refs ms es) ≡ ms ++ own es
own_refs [] es = refl
own_refs (m ∷ ms) es = rw (own_refs ms es)

pub preemptions_refs : (ms : List ℕ) (es : List Event) → preemptions (refs ms es) ≡ preemptions es
preemptions_refs [] es = refl
preemptions_refs (m ∷ ms) es = preemptions_refs ms es

pub total_refs : (v : Count) (k : Cache) (ms u : List ℕ) (es : List Event) → total v k u (refs ms es) ≡ total v k (with_references k u ms) es
total_refs v k [] u es = refl
total_refs v k (m ∷ ms) u es = total_refs v k ms (with_reference k u m) es

pub total-once : (v : Count) (k : Cache) (pre fs post u : List ℕ)
    → total v k u (refs pre (Preempt fs ∷ refs post [])) ≡ v (with_references k u pre) (firsts_over k post (empty_row k)) (with_references k (empty_row k) fs)
total-once v k pre fs post u =
    rw (total_refs v k pre u (Preempt fs ∷ refs post []), total_refs v k post (with_references k u pre) [], own_refs post [], append-nil, add-zero)

pub once : (pre fs post : List ℕ) → preemptions (refs pre (Preempt fs ∷ refs post [])) ≤ 1
once pre fs post = omega (arith, preemptions_refs pre (Preempt fs ∷ refs post []), preemptions_refs post [])

-- ---- the gap between two rows

module _ (k : Cache) where
  -- a memory block with no place misses every time and changes nothing
  pub no_place : (row : List ℕ) (m : ℕ) → Real m → length row ≤ k.place m → hits k row m ≡ false
  no_place row m h l = rw (held_beyond row (k.place m) l) (ne_eqb nothing m (λ e. h (sym e)))

  pub no_change : (row : List ℕ) (m : ℕ) → length row ≤ k.place m → with_reference k row m ≡ row
  no_change row m l = set_out row (k.place m) m l

  gap_ref : (m : ℕ) (d u l : List ℕ) → Real m → length d ≡ k.width → length u ≡ k.width → length l ≡ k.width
      → bit (hits k u m && not (hits k d m)) + gap k (with_reference k d m) (with_reference k u m) l ≡ gap k d u (with_reference k l m)
  gap_ref m d u l h ed eu el =
      rw (← (sum-at k.width (k.place m) (λ c. bit (eqb (held u c) m && not (eqb (held d c) m))) (λ q. rw (no_place u m h (omega arith)))))
      (sym (sum_add k.width _ _) ∙ sum_cong k.width _ _ (λ c q.
      rw (held-with_reference k d m c ed q, held-with_reference k u m c eu q, held-with_reference k l m c el q) (ref_cell (eqb (k.place m) c) (held d c) (held u c) (held l c) m h)))

  preempt_cell : (fs d u l : List ℕ) (c : ℕ) → c < k.width → length d ≡ k.width → Effect k Real c fs
      → bit (useful u l c && not (eqb (held (with_references k d fs) c) (held u c)))
      ≤ bit (useful u l c && not (eqb (held d c) (held u c))) + bit (useful u l c && replaces (with_references k (empty_row k) fs) u c)
  preempt_cell fs d u l c q ed (kept h) = rw (h d ed) (omega arith)
  preempt_cell fs d u l c q ed (given f p h) = rw (h d ed, h (empty_row k) (length-empty_row k), ne_eqb f nothing p) (omega arith)

  gap_preempt : (fs d u l : List ℕ) → All Real fs → length d ≡ k.width → gap k (with_references k d fs) u l ≤ gap k d u l + useful_replaced k u l (with_references k (empty_row k) fs)
  gap_preempt fs d u l a ed =
      rw (← (sum_add k.width (λ c. bit (useful u l c && not (eqb (held d c) (held u c))))
      (λ c. bit (useful u l c && replaces (with_references k (empty_row k) fs) u c))))
      (sum_le k.width _ _ (λ c q. preempt_cell fs d u l c q ed (effect k Real fs c q a)))

  same_cell : (fs u l : List ℕ) (c : ℕ) → c < k.width → length u ≡ k.width → Effect k Real c fs
      → bit (useful u l c && not (eqb (held (with_references k u fs) c) (held u c))) ≡ bit (useful u l c && replaces (with_references k (empty_row k) fs) u c)
  same_cell fs u l c q eu (kept h) =
      rw (h u eu, h (empty_row k) (length-empty_row k), held-empty_row k c q, eq-eqb (held u c) (held u c) refl, eq-eqb nothing nothing refl)
  same_cell fs u l c q eu (given f p h) = rw (h u eu, h (empty_row k) (length-empty_row k), ne_eqb f nothing p)

  -- where the rows agree, a preemption opens a gap of its usefulReplaced
  gap_same : (fs u l : List ℕ) → All Real fs → length u ≡ k.width → gap k (with_references k u fs) u l ≡ useful_replaced k u l (with_references k (empty_row k) fs)
  gap_same fs u l a eu = sum_cong k.width _ _ (λ c q. same_cell fs u l c q eu (effect k Real fs c q a))

  gap_self : (u l : List ℕ) → gap k u u l ≡ 0
  gap_self u l = sum_zero k.width _ (λ c q. rw (eq-eqb (held u c) (held u c) refl, and-false))

  gap_from_empty : (d l : List ℕ) → gap k d (empty_row k) l ≡ 0
  gap_from_empty d l = sum_zero k.width _ (λ c q. rw (held-empty_row k c q, eq-eqb nothing nothing refl, and-false))

  agree_nothing : (r : ℕ) → agree r nothing ≡ false
  agree_nothing r = go (eqb r nothing)
    where
      go : (b : Bool) → (b && not b) ≡ false
      go true = refl
      go false = refl

  gap_end : (d u : List ℕ) → gap k d u (empty_row k) ≡ 0
  gap_end d u = sum_zero k.width _ (λ c q. rw (held-empty_row k c q, agree_nothing))

  -- ---- the bound, from any two rows

  pub lost_le : (es : List Event) (d u : List ℕ) → length d ≡ k.width → length u ≡ k.width → Clean es
      → lost k d u es ≤ gap k d u (firsts_over k (own es) (empty_row k)) + total (useful_replaced k) k u es
  lost_le [] d u ed eu g = omega arith
  lost_le (Ref m ∷ es) d u ed eu g =
      omega (
        arith,
        gap_ref m d u (firsts_over k (own es) (empty_row k)) g.0 ed eu (length-firsts_over k (own es) (empty_row k) (length-empty_row k)),
        lost_le es (with_reference k d m) (with_reference k u m) (length-with_reference k d m ed) (length-with_reference k u m eu) g.1,
      )
  lost_le (Preempt fs ∷ es) d u ed eu g =
      omega (arith, gap_preempt fs d u (firsts_over k (own es) (empty_row k)) g.0 ed, lost_le es (with_references k d fs) u (length-with_references k fs d ed) eu g.1)

  -- from the same row
  pub lost_same : (es : List Event) (u : List ℕ) → length u ≡ k.width → Clean es → lost k u u es ≤ total (useful_replaced k) k u es
  lost_same es u eu g = omega (arith, gap_self u (firsts_over k (own es) (empty_row k)), lost_le es u u eu eu g)

  -- the disturbed run from any row, the undisturbed one from the empty row
  pub lost-from_empty : (es : List Event) (d : List ℕ) → length d ≡ k.width → Clean es → lost k d (empty_row k) es ≤ total (useful_replaced k) k (empty_row k) es
  lost-from_empty es d ed g = omega (arith, gap_from_empty d (firsts_over k (own es) (empty_row k)), lost_le es d (empty_row k) ed (length-empty_row k) g)

  -- ---- one preemption

  quiet-total : (es : List Event) (u : List ℕ) → preemptions es ≡ 0 → total (useful_replaced k) k u es ≡ 0
  quiet-total [] u z = refl
  quiet-total (Ref m ∷ es) u z = quiet-total es (with_reference k u m) z
  quiet-total (Preempt fs ∷ es) u z = absurd (omega arith)

  -- with no preemption the gap is what is lost
  pub lost-quiet : (es : List Event) (d u : List ℕ) → length d ≡ k.width → length u ≡ k.width → Clean es → preemptions es ≡ 0
      → lost k d u es ≡ gap k d u (firsts_over k (own es) (empty_row k))
  lost-quiet [] d u ed eu g z = sym (gap_end d u)
  lost-quiet (Ref m ∷ es) d u ed eu g z =
      omega (
        arith,
        gap_ref m d u (firsts_over k (own es) (empty_row k)) g.0 ed eu (length-firsts_over k (own es) (empty_row k) (length-empty_row k)),
        lost-quiet es (with_reference k d m) (with_reference k u m) (length-with_reference k d m ed) (length-with_reference k u m eu) g.1 z,
      )
  lost-quiet (Preempt fs ∷ es) d u ed eu g z = absurd (omega arith)

  bit_self : (b : Bool) → bit (b && not b) ≡ 0
  bit_self true = refl
  bit_self false = refl

  pub lost-one : (es : List Event) (u : List ℕ) → length u ≡ k.width → Clean es → preemptions es ≤ 1 → lost k u u es ≡ total (useful_replaced k) k u es
  lost-one [] u eu g z = refl
  lost-one (Ref m ∷ es) u eu g z = omega (arith, bit_self (hits k u m), lost-one es (with_reference k u m) (length-with_reference k u m eu) g.1 z)
  lost-one (Preempt fs ∷ es) u eu g z =
      omega (
        arith,
        gap_same fs u (firsts_over k (own es) (empty_row k)) g.0 eu,
        quiet-total es u (omega arith),
        lost-quiet es (with_references k u fs) u (length-with_references k fs u eu) eu g.1 (omega arith),
      )

  -- the same, after the references pre and before the references post
  pub lost-once : (pre fs post u : List ℕ) → length u ≡ k.width → Clean (refs pre (Preempt fs ∷ refs post []))
      → lost k u u (refs pre (Preempt fs ∷ refs post [])) ≡ useful_replaced k (with_references k u pre) (firsts_over k post (empty_row k)) (with_references k (empty_row k) fs)
  lost-once pre fs post u eu g = lost-one (refs pre (Preempt fs ∷ refs post [])) u eu g (once pre fs post) ∙ total-once (useful_replaced k) k pre fs post u

  -- ---- lost and gained hits are the whole difference between D and U

  four : (a b : Bool) → bit (not a) + bit (a && not b) ≡ bit (not b) + bit (b && not a)
  four true true = refl
  four true false = refl
  four false true = refl
  four false false = refl

  pub balance : (es : List Event) (d u : List ℕ) → disturbed k d es + gained k d u es ≡ misses k u (own es) + lost k d u es
  balance [] d u = refl
  balance (Ref m ∷ es) d u = omega (arith, four (hits k d m) (hits k u m), balance es (with_reference k d m) (with_reference k u m))
  balance (Preempt fs ∷ es) d u = balance es (with_references k d fs) u

  pub upper : (es : List Event) (d u : List ℕ) → length d ≡ k.width → length u ≡ k.width → Clean es
      → disturbed k d es ≤ misses k u (own es) + (gap k d u (firsts_over k (own es) (empty_row k)) + total (useful_replaced k) k u es)
  upper es d u ed eu g = omega (arith, balance es d u, lost_le es d u ed eu g)

  pub upper_same : (es : List Event) (u : List ℕ) → length u ≡ k.width → Clean es → disturbed k u es ≤ misses k u (own es) + total (useful_replaced k) k u es
  upper_same es u eu g = omega (arith, balance es u u, lost_same es u eu g)

  pub upper-from_empty : (es : List Event) (d : List ℕ) → length d ≡ k.width → Clean es → disturbed k d es ≤ misses k (empty_row k) (own es) + total (useful_replaced k) k (empty_row k) es
  upper-from_empty es d ed g = omega (arith, balance es d (empty_row k), lost-from_empty es d ed g)
