-- The closure of a list under a step has exactly the elements that steps from the list reach, if they are all in a finite universe.
-- The idea: each round that adds anything lowers the number of elements of the universe that the list lacks.
use mathlib.Core.Path.{◌≡◌, refl}
use mathlib.Core.Logic.{◌⊎◌, inl, inr, ◌↔◌}
use mathlib.Core.Bool.{Bool, true, false, not, true≢false, false≢true}
use mathlib.Core.List.{List, [], ◌∷◌}
use Prim.Native.Nat.{ℕ, zero, suc, ◌+◌, ◌≤◌, ◌<◌}
use native.Mathlib.Omega.{arith}
use lib.ListN.{length}
use Rattle.cache.specs.Sum.{bit}
use Rattle.cache.proofs.Sums.{bit_le}
use Rattle.model.specs.Lists.{mem}
use Rattle.model.specs.Computed.{add_if, add_all, sub, nexts, close}
use Rattle.model.proofs.Membership.{or_cases, or_left, or_right, both_left, both_right, mem_append_left, mem_append_right, mem-append_cases}

bit-not_le : (a b : Bool) → (a ≡ true → b ≡ true) → bit (not b) ≤ bit (not a)
bit-not_le true b h = rw (h refl) (omega arith)
bit-not_le false b h = bit_le (not b)

module _ {A : Type 0} (eq : A → A → Bool) where
  -- how many of the list us the list l lacks
  abbrev pub missing : List A → List A → ℕ
  missing [] l = 0
  missing (u ∷ us) l = bit (not (mem eq u l)) + missing us l

module _ {A : Type 0} (eq : A → A → Bool) (next : A → List A) where
  -- what steps from the list `first` reach
  pub data Reach (first : List A) : A → Type 0 where
    start : {x : A} → mem eq x first ≡ true → Reach first x
    further : {x y : A} → Reach first x → mem eq y (next x) ≡ true → Reach first y

module _ {A : Type 0} (eq : A → A → Bool) (eq_self : (x : A) → eq x x ≡ true) (eq-true : (x y : A) → eq x y ≡ true → x ≡ y) where
  -- ---- addAll

  add_if_keeps : (x y : A) (b : Bool) (l : List A) → mem eq x l ≡ true → mem eq x (add_if eq b y l) ≡ true
  add_if_keeps x y true l e = e
  add_if_keeps x y false l e = or_right (eq x y) (mem eq x l) e

  add_if_has : (x : A) (b : Bool) (l : List A) → mem eq x l ≡ b → mem eq x (add_if eq b x l) ≡ true
  add_if_has x true l e = e
  add_if_has x false l e = or_left (eq x x) (mem eq x l) (eq_self x)

  add_all_keeps : (x : A) (ys l : List A) → mem eq x l ≡ true → mem eq x (add_all eq ys l) ≡ true
  add_all_keeps x [] l e = e
  add_all_keeps x (y ∷ ys) l e = add_all_keeps x ys (add_if eq (mem eq y l) y l) (add_if_keeps x y (mem eq y l) l e)

  add_all_has : (x : A) (ys l : List A) → mem eq x ys ≡ true → mem eq x (add_all eq ys l) ≡ true
  add_all_has x [] l e = cc
  add_all_has x (y ∷ ys) l e = go (or_cases (eq x y) (mem eq x ys) e) (λ q. add_all_has x ys (add_if eq (mem eq y l) y l) q)
    where
      go : (eq x y ≡ true) ⊎ (mem eq x ys ≡ true) → (mem eq x ys ≡ true → mem eq x (add_all eq ys (add_if eq (mem eq y l) y l)) ≡ true)
          → mem eq x (add_all eq (y ∷ ys) l) ≡ true
      go (inl q) ih = add_all_keeps x ys (add_if eq (mem eq y l) y l) (rw (eq-true x y q) (add_if_has y (mem eq y l) l refl))
      go (inr q) ih = ih q

  add_if_only : (x y : A) (b : Bool) (l : List A) → mem eq x (add_if eq b y l) ≡ true → (eq x y ≡ true) ⊎ (mem eq x l ≡ true)
  add_if_only x y true l e = inr e
  add_if_only x y false l e = or_cases (eq x y) (mem eq x l) e

  add_all_only : (x : A) (ys l : List A) → mem eq x (add_all eq ys l) ≡ true → (mem eq x ys ≡ true) ⊎ (mem eq x l ≡ true)
  add_all_only x [] l e = inr e
  add_all_only x (y ∷ ys) l e = go (add_all_only x ys (add_if eq (mem eq y l) y l) e)
    where
      last : (eq x y ≡ true) ⊎ (mem eq x l ≡ true) → (mem eq x (y ∷ ys) ≡ true) ⊎ (mem eq x l ≡ true)
      last (inl q) = inl (or_left (eq x y) (mem eq x ys) q)
      last (inr q) = inr q

      go : (mem eq x ys ≡ true) ⊎ (mem eq x (add_if eq (mem eq y l) y l) ≡ true) → (mem eq x (y ∷ ys) ≡ true) ⊎ (mem eq x l ≡ true)
      go (inl q) = inl (or_right (eq x y) (mem eq x ys) q)
      go (inr q) = last (add_if_only x y (mem eq y l) l q)

  -- ---- sub

  sub_has : (x : A) (xs ys : List A) → sub eq xs ys ≡ true → mem eq x xs ≡ true → mem eq x ys ≡ true
  sub_has x [] ys s e = cc
  sub_has x (z ∷ xs) ys s e =
      go (or_cases (eq x z) (mem eq x xs) e) (λ q. sub_has x xs ys (both_right (mem eq z ys) (sub eq xs ys) s) q)
    where
      go : (eq x z ≡ true) ⊎ (mem eq x xs ≡ true) → (mem eq x xs ≡ true → mem eq x ys ≡ true) → mem eq x ys ≡ true
      go (inl q) ih = rw (eq-true x z q) (both_left (mem eq z ys) (sub eq xs ys) s)
      go (inr q) ih = ih q

  -- an element that the larger list lacks
  sub_lacks : (xs ys : List A) → sub eq xs ys ≡ false → (x : A) × (mem eq x xs ≡ true) × (mem eq x ys ≡ false)
  sub_lacks [] ys s = absurd (true≢false s)
  sub_lacks (z ∷ xs) ys s = go (mem eq z ys) refl (λ q. sub_lacks xs ys q)
    where
      go : (b : Bool) → mem eq z ys ≡ b → (sub eq xs ys ≡ false → (x : A) × (mem eq x xs ≡ true) × (mem eq x ys ≡ false))
          → (x : A) × (mem eq x (z ∷ xs) ≡ true) × (mem eq x ys ≡ false)
      go true e ih = let (x, p, q) = ih (rw e at s) in (x, or_right (eq x z) (mem eq x xs) p, q)
      go false e ih = (z, or_left (eq z z) (mem eq z xs) (eq_self z), e)

  -- ---- missing

  missing_le : (us l r : List A) → ((x : A) → mem eq x l ≡ true → mem eq x r ≡ true) → missing eq us r ≤ missing eq us l
  missing_le [] l r h = omega arith
  missing_le (u ∷ us) l r h = omega (arith, missing_le us l r h, bit-not_le (mem eq u l) (mem eq u r) (h u))

  missing_lt : (us l r : List A) (w : A) → ((x : A) → mem eq x l ≡ true → mem eq x r ≡ true)
      → mem eq w us ≡ true → mem eq w l ≡ false → mem eq w r ≡ true → missing eq us r < missing eq us l
  missing_lt [] l r w h p q t = absurd (false≢true p)
  missing_lt (u ∷ us) l r w h p q t = go (or_cases (eq w u) (mem eq w us) p) (λ p'. missing_lt us l r w h p' q t)
    where
      go : (eq w u ≡ true) ⊎ (mem eq w us ≡ true) → (mem eq w us ≡ true → missing eq us r < missing eq us l) → missing eq (u ∷ us) r < missing eq (u ∷ us) l
      go (inl e) ih = rw (← (eq-true w u e), q, t) (omega (arith, missing_le us l r h))
      go (inr e) ih = omega (arith, ih e, bit-not_le (mem eq u l) (mem eq u r) (h u))

  missing-some : (us l : List A) (w : A) → mem eq w us ≡ true → mem eq w l ≡ false → 0 < missing eq us l
  missing-some us l w p q =
      omega (arith, missing_lt us l (w ∷ l) w (λ x e. or_right (eq x w) (mem eq x l) e) p q (or_left (eq w w) (mem eq w l) (eq_self w)))

  missing-length : (us l : List A) → missing eq us l ≤ length us
  missing-length [] l = omega arith
  missing-length (u ∷ us) l = omega (arith, missing-length us l, bit_le (not (mem eq u l)))

  -- ---- the graph

  module _ (next : A → List A) where
    pub nexts_has : (x y : A) (l : List A) → mem eq x l ≡ true → mem eq y (next x) ≡ true → mem eq y (nexts next l) ≡ true
    nexts_has x y [] e f = cc
    nexts_has x y (z ∷ l) e f = go (or_cases (eq x z) (mem eq x l) e) (λ q. nexts_has x y l q f)
      where
        go : (eq x z ≡ true) ⊎ (mem eq x l ≡ true) → (mem eq x l ≡ true → mem eq y (nexts next l) ≡ true) → mem eq y (nexts next (z ∷ l)) ≡ true
        go (inl q) ih = mem_append_left eq eq_self eq-true y (next z) (nexts next l) (rw (eq-true x z q) at f)
        go (inr q) ih = mem_append_right eq eq_self eq-true y (next z) (nexts next l) (ih q)

    pub nexts_only : (y : A) (l : List A) → mem eq y (nexts next l) ≡ true → (x : A) × (mem eq x l ≡ true) × (mem eq y (next x) ≡ true)
    nexts_only y [] e = absurd (false≢true e)
    nexts_only y (z ∷ l) e = go (mem-append_cases eq eq_self eq-true y (next z) (nexts next l) e) (λ q. nexts_only y l q)
      where
        go : (mem eq y (next z) ≡ true) ⊎ (mem eq y (nexts next l) ≡ true)
            → (mem eq y (nexts next l) ≡ true → (x : A) × (mem eq x l ≡ true) × (mem eq y (next x) ≡ true))
            → (x : A) × (mem eq x (z ∷ l) ≡ true) × (mem eq y (next x) ≡ true)
        go (inl q) ih = (z, or_left (eq z z) (mem eq z l) (eq_self z), q)
        go (inr q) ih = let (x, p, r) = ih q in (x, or_right (eq x z) (mem eq x l) p, r)

    pub close_stop : (k : ℕ) (l : List A) → sub eq (nexts next l) l ≡ true → close eq next (suc k) l ≡ l
    close_stop k l e = rw (e, close)

    pub close_more : (k : ℕ) (l : List A) → sub eq (nexts next l) l ≡ false → close eq next (suc k) l ≡ close eq next k (add_all eq (nexts next l) l)
    close_more k l e = rw (e, close)

    close_keeps : (k : ℕ) (l : List A) (x : A) → mem eq x l ≡ true → mem eq x (close eq next k l) ≡ true
    close_keeps zero l x e = e
    close_keeps (suc k) l x e = go (sub eq (nexts next l) l) refl (close_keeps k (add_all eq (nexts next l) l) x (add_all_keeps x (nexts next l) l e))
      where
        go : (b : Bool) → sub eq (nexts next l) l ≡ b → mem eq x (close eq next k (add_all eq (nexts next l) l)) ≡ true → mem eq x (close eq next (suc k) l) ≡ true
        go true q ih = rw (close_stop k l q) e
        go false q ih = rw (close_more k l q) ih

    -- what is added is reached
    close_sound : (first : List A) (k : ℕ) (l : List A) → ((x : A) → mem eq x l ≡ true → Reach eq next first x)
        → (x : A) → mem eq x (close eq next k l) ≡ true → Reach eq next first x
    close_sound first zero l h x e = h x e
    close_sound first (suc k) l h x e = go (sub eq (nexts next l) l) refl (close_sound first k (add_all eq (nexts next l) l) more x)
      where
        more : (y : A) → mem eq y (add_all eq (nexts next l) l) ≡ true → Reach eq next first y
        more y q = elim (add_all_only y (nexts next l) l q) [ inl p ↦ (let (z, u, v) = nexts_only y l p in further (h z u) v) | inr p ↦ h y p ]

        go : (b : Bool) → sub eq (nexts next l) l ≡ b → (mem eq x (close eq next k (add_all eq (nexts next l) l)) ≡ true → Reach eq next first x) → Reach eq next first x
        go true q ih = h x (rw (close_stop k l q) at e)
        go false q ih = ih (rw (close_more k l q) at e)

    -- a list that is closed and has the first has every state that is reached
    closed_all : (first l : List A) → ((x : A) → mem eq x first ≡ true → mem eq x l ≡ true) → sub eq (nexts next l) l ≡ true
        → {x : A} → Reach eq next first x → mem eq x l ≡ true
    closed_all first l h s (start {x} e) = h x e
    closed_all first l h s (further {x} {y} r e) = sub_has y (nexts next l) l s (nexts_has x y l (closed_all first l h s r) e)

    -- P is kept along the edges, and only states of the list us have it
    module _ (us : List A) (P : A → Type 0) (P-next : (x y : A) → P x → mem eq y (next x) ≡ true → P y) (P-in : (x : A) → P x → mem eq x us ≡ true) where
      grow_in : (l : List A) → ((x : A) → mem eq x l ≡ true → P x) → (x : A) → mem eq x (add_all eq (nexts next l) l) ≡ true → P x
      grow_in l h x e = elim (add_all_only x (nexts next l) l e) [ inl p ↦ (let (z, u, v) = nexts_only x l p in P-next z x (h z u) v) | inr p ↦ h x p ]

      close_closed : (k : ℕ) (l : List A) → ((x : A) → mem eq x l ≡ true → P x) → missing eq us l ≤ k
          → sub eq (nexts next (close eq next k l)) (close eq next k l) ≡ true
      close_closed zero l h m = go (sub eq (nexts next l) l) refl
        where
          go : (b : Bool) → sub eq (nexts next l) l ≡ b → sub eq (nexts next l) l ≡ true
          go true q = q
          go false q =
              let (w, p, r) = sub_lacks (nexts next l) l q in
              let some : 0 < missing eq us l = missing-some us l w (P-in w (grow_in l h w (add_all_has w (nexts next l) l p))) r in
              absurd (omega arith)
      close_closed (suc k) l h m = go (sub eq (nexts next l) l) refl (close_closed k (add_all eq (nexts next l) l) (grow_in l h))
        where
          more : List A
          more = add_all eq (nexts next l) l

          go : (b : Bool) → sub eq (nexts next l) l ≡ b → (missing eq us more ≤ k → sub eq (nexts next (close eq next k more)) (close eq next k more) ≡ true)
              → sub eq (nexts next (close eq next (suc k) l)) (close eq next (suc k) l) ≡ true
          go true q ih = rw (close_stop k l q) q
          go false q ih =
              let (w, p, r) = sub_lacks (nexts next l) l q in
              let less : missing eq us more < missing eq us l
              = missing_lt us l more w (λ x e. add_all_keeps x (nexts next l) l e) (P-in w (grow_in l h w (add_all_has w (nexts next l) l p))) r (add_all_has w (nexts next l) l p) in
              rw (close_more k l q) (ih (omega arith))

      -- within as many rounds as the universe has states the list has exactly the states that are reached
      pub close_exact : (first : List A) → ((x : A) → mem eq x first ≡ true → P x) → (k : ℕ) → length us ≤ k
          → (x : A) → (mem eq x (close eq next k first) ≡ true) ↔ Reach eq next first x
      close_exact first h k fits x = (
        close_sound first k first (λ y e. start e) x,
        λ r. closed_all first (close eq next k first) (close_keeps k first) (close_closed k first h (omega (arith, missing-length us first))) r,
      )
