-- Laws of `mem`: in joined and mapped lists, in lists made of each with each; the tests of lists and states are equality.
-- Each is an induction on the list, over any type whose test is equality.
use mathlib.Core.Path.{◌≡◌, refl, sym, ap, ◌∙◌}
use mathlib.Core.Logic.{◌⊎◌, inl, inr}
use mathlib.Core.Bool.{Bool, ◌||◌, true, false, ◌&&◌, cond, or-false, or_assoc, true≢false, false≢true}
use mathlib.Core.List.{List, [], ◌∷◌, ◌++◌, map}
use Prim.Native.Nat.{ℕ, zero, suc, ◌*◌, ◌<◌}
use native.Mathlib.Omega.{arith}
use lib.Dec.{eqb, ltb}
use lib.ListN.{length, set, length-append, length-map}
use borrow.Author.Tests.{eqb-true, eq-eqb, ltb-true, lt-ltb}
use Rattle.cache.specs.References.{All}
use Rattle.model.specs.Lists.{mem, Each}
use Rattle.model.specs.Tasks.{Task}
use Rattle.model.specs.Computed.{State, same_list, same_state, inside}

pub or_cases : (a b : Bool) → (a || b) ≡ true → (a ≡ true) ⊎ (b ≡ true)
or_cases true b e = inl refl
or_cases false b e = inr e

pub or_left : (a b : Bool) → a ≡ true → (a || b) ≡ true
or_left a b e = rw e

pub or_right : (a b : Bool) → b ≡ true → (a || b) ≡ true
or_right true b e = refl
or_right false b e = e

pub both_left : (a b : Bool) → (a && b) ≡ true → a ≡ true
both_left true b e = refl
both_left false b e = e

pub both_right : (a b : Bool) → (a && b) ≡ true → b ≡ true
both_right true b e = e
both_right false b e = cc

pub eqb_self : (x : ℕ) → eqb x x ≡ true
eqb_self x = eq-eqb x x refl

pub same_list_self : (x : List ℕ) → same_list x x ≡ true
same_list_self [] = refl
same_list_self (a ∷ x) = rw (eqb_self a, same_list_self x)

pub same_list_true : (x y : List ℕ) → same_list x y ≡ true → x ≡ y
same_list_true [] [] e = refl
same_list_true [] (b ∷ y) e = absurd (false≢true e)
same_list_true (a ∷ x) [] e = absurd (false≢true e)
same_list_true (a ∷ x) (b ∷ y) e = rw (eqb-true a b (both_left (eqb a b) (same_list x y) e), same_list_true x y (both_right (eqb a b) (same_list x y) e))

-- a property of each row of a list is one of all its members
pub each_of : (P : List ℕ → Type 0) (xs : List (List ℕ)) → ((x : List ℕ) → mem same_list x xs ≡ true → P x) → Each P xs
each_of P [] h = tt
each_of P (x ∷ xs) h = (h x (or_left (same_list x x) (mem same_list x xs) (same_list_self x)), each_of P xs (λ y e. h y (or_right (same_list y x) (mem same_list y xs) e)))

pub each_at : (P : List ℕ → Type 0) (xs : List (List ℕ)) → Each P xs → (x : List ℕ) → mem same_list x xs ≡ true → P x
each_at P [] h x e = absurd (false≢true e)
each_at P (y ∷ xs) h x e = elim (or_cases (same_list x y) (mem same_list x xs) e) [ inl p ↦ rw (same_list_true x y p) h.0 | inr p ↦ each_at P xs h.1 x p ]

pub same_state_self : (x : State) → same_state x x ≡ true
same_state_self x = rw (eqb_self x.0, same_list_self x.1)

pub same_state_true : (x y : State) → same_state x y ≡ true → x ≡ y
same_state_true x y e = λ i. (p i, q i)
  where
    p : x.0 ≡ y.0
    p = eqb-true x.0 y.0 (both_left (eqb x.0 y.0) (same_list x.1 y.1) e)

    q : x.1 ≡ y.1
    q = same_list_true x.1 y.1 (both_right (eqb x.0 y.0) (same_list x.1 y.1) e)

pub mem_more : (x m : ℕ) (ms : List ℕ) → mem eqb x (ms ++ (m ∷ [])) ≡ (mem eqb x ms || eqb x m)
mem_more x m [] = or-false (eqb x m)
mem_more x m (y ∷ ms) = ap (λ (b : Bool). eqb x y || b) (mem_more x m ms) ∙ sym (or_assoc (eqb x y) (mem eqb x ms) (eqb x m))

module _ {A : Type 0} (eq : A → A → Bool) (eq_self : (x : A) → eq x x ≡ true) (eq-true : (x y : A) → eq x y ≡ true → x ≡ y) where
  pub mem_append_left : (x : A) (l r : List A) → mem eq x l ≡ true → mem eq x (l ++ r) ≡ true
  mem_append_left x [] r e = cc
  mem_append_left x (y ∷ l) r e = go (or_cases (eq x y) (mem eq x l) e) (λ q. mem_append_left x l r q)
    where
      go : (eq x y ≡ true) ⊎ (mem eq x l ≡ true) → (mem eq x l ≡ true → mem eq x (l ++ r) ≡ true) → mem eq x (y ∷ l ++ r) ≡ true
      go (inl q) ih = or_left (eq x y) (mem eq x (l ++ r)) q
      go (inr q) ih = or_right (eq x y) (mem eq x (l ++ r)) (ih q)

  pub mem_append_right : (x : A) (l r : List A) → mem eq x r ≡ true → mem eq x (l ++ r) ≡ true
  mem_append_right x [] r e = e
  mem_append_right x (y ∷ l) r e = or_right (eq x y) (mem eq x (l ++ r)) (mem_append_right x l r e)

  pub mem-append_cases : (x : A) (l r : List A) → mem eq x (l ++ r) ≡ true → (mem eq x l ≡ true) ⊎ (mem eq x r ≡ true)
  mem-append_cases x [] r e = inr e
  mem-append_cases x (y ∷ l) r e = go (or_cases (eq x y) (mem eq x (l ++ r)) e) (λ q. mem-append_cases x l r q)
    where
      go : (eq x y ≡ true) ⊎ (mem eq x (l ++ r) ≡ true) → (mem eq x (l ++ r) ≡ true → (mem eq x l ≡ true) ⊎ (mem eq x r ≡ true))
          → (mem eq x (y ∷ l) ≡ true) ⊎ (mem eq x r ≡ true)
      go (inl q) ih = inl (or_left (eq x y) (mem eq x l) q)
      go (inr q) ih = elim (ih q) [ inl p ↦ inl (or_right (eq x y) (mem eq x l) p) | inr p ↦ inr p ]

-- ---- membership under a map

module _ {A B : Type 0} (eq_a : A → A → Bool) (eq_a-self : (x : A) → eq_a x x ≡ true) (eq_a-true : (x y : A) → eq_a x y ≡ true → x ≡ y)
    (eq_b : B → B → Bool) (eq_b-self : (x : B) → eq_b x x ≡ true) (eq_b-true : (x y : B) → eq_b x y ≡ true → x ≡ y) (f : A → B) where
  pub mem-map : (x : A) (l : List A) → mem eq_a x l ≡ true → mem eq_b (f x) (map f l) ≡ true
  mem-map x [] e = absurd (false≢true e)
  mem-map x (y ∷ l) e = go (or_cases (eq_a x y) (mem eq_a x l) e) (λ q. mem-map x l q)
    where
      go : (eq_a x y ≡ true) ⊎ (mem eq_a x l ≡ true) → (mem eq_a x l ≡ true → mem eq_b (f x) (map f l) ≡ true) → mem eq_b (f x) (map f (y ∷ l)) ≡ true
      go (inl q) ih = or_left (eq_b (f x) (f y)) (mem eq_b (f x) (map f l)) (rw (eq_a-true x y q) (eq_b-self (f y)))
      go (inr q) ih = or_right (eq_b (f x) (f y)) (mem eq_b (f x) (map f l)) (ih q)

  pub mem_of_map : (y : B) (l : List A) → mem eq_b y (map f l) ≡ true → (x : A) × (mem eq_a x l ≡ true) × (y ≡ f x)
  mem_of_map y [] e = absurd (false≢true e)
  mem_of_map y (z ∷ l) e = go (or_cases (eq_b y (f z)) (mem eq_b y (map f l)) e) (λ q. mem_of_map y l q)
    where
      go : (eq_b y (f z) ≡ true) ⊎ (mem eq_b y (map f l) ≡ true) → (mem eq_b y (map f l) ≡ true → (x : A) × (mem eq_a x l ≡ true) × (y ≡ f x))
          → (x : A) × (mem eq_a x (z ∷ l) ≡ true) × (y ≡ f x)
      go (inl q) ih = (z, or_left (eq_a z z) (mem eq_a z l) (eq_a-self z), eq_b-true y (f z) q)
      go (inr q) ih = let (x, p, r) = ih q in (x, or_right (eq_a x z) (mem eq_a x l) p, r)

-- each a of the first list with each x of the second
module _ {A B C : Type 0} (f : A → B → C) where
  unfoldable pub spread : List A → List B → List C
  spread [] bs = []
  spread (a ∷ ks) bs = map (f a) bs ++ spread ks bs

  pub length_spread : (ks : List A) (bs : List B) → length (spread ks bs) ≡ length ks * length bs
  unfolding spread
  length_spread [] bs = omega arith
  length_spread (a ∷ ks) bs = rw (length-append, length-map, length_spread ks bs) (omega arith)

module _ {A B C : Type 0} (eq_a : A → A → Bool) (eq_a-self : (x : A) → eq_a x x ≡ true) (eq_a-true : (x y : A) → eq_a x y ≡ true → x ≡ y)
    (eq_b : B → B → Bool) (eq_b-self : (x : B) → eq_b x x ≡ true) (eq_b-true : (x y : B) → eq_b x y ≡ true → x ≡ y)
    (eq_c : C → C → Bool) (eq_c-self : (x : C) → eq_c x x ≡ true) (eq_c-true : (x y : C) → eq_c x y ≡ true → x ≡ y) (f : A → B → C) where
  pub mem_spread : (a : A) (ks : List A) (b : B) (bs : List B) → mem eq_a a ks ≡ true → mem eq_b b bs ≡ true → mem eq_c (f a b) (spread f ks bs) ≡ true
  unfolding spread
  mem_spread a [] b bs e h = absurd (false≢true e)
  mem_spread a (z ∷ ks) b bs e h = go (or_cases (eq_a a z) (mem eq_a a ks) e) (λ q. mem_spread a ks b bs q h)
    where
      go : (eq_a a z ≡ true) ⊎ (mem eq_a a ks ≡ true) → (mem eq_a a ks ≡ true → mem eq_c (f a b) (spread f ks bs) ≡ true) → mem eq_c (f a b) (spread f (z ∷ ks) bs) ≡ true
      go (inl q) ih = mem_append_left eq_c eq_c-self eq_c-true (f a b) (map (f z) bs) (spread f ks bs)
          (rw (eq_a-true a z q) (mem-map eq_b eq_b-self eq_b-true eq_c eq_c-self eq_c-true (f z) b bs h))
      go (inr q) ih = mem_append_right eq_c eq_c-self eq_c-true (f a b) (map (f z) bs) (spread f ks bs) (ih q)

pub set_in : (x m : ℕ) (r : List ℕ) (i : ℕ) → mem eqb x (set r i m) ≡ true → (eqb x m ≡ true) ⊎ (mem eqb x r ≡ true)
set_in x m [] i e = inr e
set_in x m (y ∷ r) zero e = elim (or_cases (eqb x m) (mem eqb x r) e) [ inl p ↦ inl p | inr p ↦ inr (or_right (eqb x y) (mem eqb x r) p) ]
set_in x m (y ∷ r) (suc i) e = go (or_cases (eqb x y) (mem eqb x (set r i m)) e) (λ q. set_in x m r i q)
  where
    go : (eqb x y ≡ true) ⊎ (mem eqb x (set r i m) ≡ true) → (mem eqb x (set r i m) ≡ true → (eqb x m ≡ true) ⊎ (mem eqb x r ≡ true))
        → (eqb x m ≡ true) ⊎ (mem eqb x (y ∷ r) ≡ true)
    go (inl q) ih = inr (or_left (eqb x y) (mem eqb x r) q)
    go (inr q) ih = elim (ih q) [ inl p ↦ inl p | inr p ↦ inr (or_right (eqb x y) (mem eqb x r) p) ]

-- ---- lists of one element

pub one-is : (b c : ℕ) → mem eqb b (c ∷ []) ≡ true → b ≡ c
one-is b c e = eqb-true b c (elim (or_cases (eqb b c) false e) [ inl p ↦ p | inr p ↦ absurd (false≢true p) ])

pub one_has : (b : ℕ) → mem eqb b (b ∷ []) ≡ true
one_has b = or_left (eqb b b) false (eqb_self b)

-- ---- states made from block numbers

pub states_has : (f : ℕ → State) (b : ℕ) (l : List ℕ) → mem eqb b l ≡ true → mem same_state (f b) (map f l) ≡ true
states_has f b l e = mem-map eqb eqb_self eqb-true same_state same_state_self same_state_true f b l e

pub states_only : (f : ℕ → State) (x : State) (l : List ℕ) → mem same_state x (map f l) ≡ true → (b : ℕ) × (mem eqb b l ≡ true) × (x ≡ f b)
states_only f x l e = mem_of_map eqb eqb_self eqb-true same_state same_state_self same_state_true f x l e

pub inside_has : (t : Task) (b : ℕ) (l : List ℕ) → b < length t → mem eqb b l ≡ true → mem eqb b (inside t l) ≡ true
inside_has t b [] h e = cc
inside_has t b (x ∷ l) h e = go (ltb x (length t)) refl (or_cases (eqb b x) (mem eqb b l) e) (λ q. inside_has t b l h q)
  where
    go : (s : Bool) → ltb x (length t) ≡ s → (eqb b x ≡ true) ⊎ (mem eqb b l ≡ true) → (mem eqb b l ≡ true → mem eqb b (inside t l) ≡ true)
        → mem eqb b (cond s (x ∷ inside t l) (inside t l)) ≡ true
    go true q (inl p) ih = or_left (eqb b x) (mem eqb b (inside t l)) p
    go false q (inl p) ih = absurd (true≢false (sym (lt-ltb x (length t) (rw (eqb-true b x p) at h)) ∙ q))
    go true q (inr p) ih = or_right (eqb b x) (mem eqb b (inside t l)) (ih p)
    go false q (inr p) ih = ih p

pub inside_only : (t : Task) (b : ℕ) (l : List ℕ) → mem eqb b (inside t l) ≡ true → (b < length t) × (mem eqb b l ≡ true)
inside_only t b [] e = absurd (false≢true e)
inside_only t b (x ∷ l) e = go (ltb x (length t)) refl e (inside_only t b l)
  where
    go : (s : Bool) → ltb x (length t) ≡ s → mem eqb b (cond s (x ∷ inside t l) (inside t l)) ≡ true
        → (mem eqb b (inside t l) ≡ true → (b < length t) × (mem eqb b l ≡ true)) → (b < length t) × (mem eqb b (x ∷ l) ≡ true)
    go true q e ih = elim (or_cases (eqb b x) (mem eqb b (inside t l)) e)
        [ inl p ↦ (rw (eqb-true b x p) (ltb-true x (length t) q), or_left (eqb b x) (mem eqb b l) p) | inr p ↦ ((ih p).0, or_right (eqb b x) (mem eqb b l) (ih p).1) ]
    go false q e ih = ((ih e).0, or_right (eqb b x) (mem eqb b l) (ih e).1)

-- ---- a property of each element

pub all_in_lem : (P : ℕ → Type 0) (ms : List ℕ) → ((m : ℕ) → mem eqb m ms ≡ true → P m) → All P ms
all_in_lem P [] h = tt
all_in_lem P (m ∷ ms) h = (h m (or_left (eqb m m) (mem eqb m ms) (eqb_self m)), all_in_lem P ms (λ x e. h x (or_right (eqb x m) (mem eqb x ms) e)))

pub all_join : (P : ℕ → Type 0) (l r : List ℕ) → All P l → All P r → All P (l ++ r)
all_join P [] r a b = b
all_join P (x ∷ l) r a b = (a.0, all_join P l r a.1 b)

pub all_of_lem : (P : ℕ → Type 0) (ms : List ℕ) → All P ms → (m : ℕ) → mem eqb m ms ≡ true → P m
all_of_lem P [] a m e = absurd (false≢true e)
all_of_lem P (x ∷ ms) a m e = elim (or_cases (eqb m x) (mem eqb m ms) e) [ inl q ↦ rw (eqb-true m x q) a.0 | inr q ↦ all_of_lem P ms a.1 m q ]
