-- What comes in at the points of a path, each at its own: none is dropped, and none is taken out of turn, `taken_all`.
-- The idea: the points of a path rise, and so do those of a list that never falls. What comes in is left open: it has a position and a number of
-- references done.
use mathlib.Core.Path.{◌≡◌, refl, sym, ap, ◌∙◌}
use mathlib.Core.Logic.{◌⊎◌, inl, inr}
use mathlib.Core.Bool.{Bool, true, false, ◌&&◌, and-false, cond}
use mathlib.Core.List.{List, [], ◌∷◌, ◌++◌}
use Prim.Native.Nat.{ℕ, zero, suc, ◌+◌, ◌≤◌, ◌<◌}
use native.Mathlib.Nat.{zero-add}
use native.Mathlib.Omega.{arith}
use lib.Dec.{eqb}
use lib.ListN.{length, get_or}
use borrow.Author.Tests.{eqb-true, eqb-false, eq-eqb, ne_eqb}
use Rattle.model.specs.Lists.{Each, keep}
use Rattle.model.specs.Tasks.{Task, block, Done}
use Rattle.model.specs.Runs.{NotBefore, Point, points_from, block_points, points}
use Rattle.model.proofs.Membership.{both_left, both_right}

-- ---- points in order

-- the point (i, d) comes before the point (j, e)
abbrev pub Before : ℕ → ℕ → ℕ → ℕ → Type 0
Before i d j e = (i < j) ⊎ ((i ≡ j) × (d < e))

pub before-from : (i d j e x y : ℕ) → Before i d j e → NotBefore j e x y → Before i d x y
before-from i d j e x y (inl a) (inl b) = inl (omega arith)
before-from i d j e x y (inl a) (inr (b, c)) = inl (omega arith)
before-from i d j e x y (inr (a, b)) (inl c) = inl (omega arith)
before-from i d j e x y (inr (a, b)) (inr (c, f)) = inr (omega arith, omega arith)

pub from-from : (i d j e x y : ℕ) → NotBefore i d j e → NotBefore j e x y → NotBefore i d x y
from-from i d j e x y (inl a) (inl b) = inl (omega arith)
from-from i d j e x y (inl a) (inr (b, c)) = inl (omega arith)
from-from i d j e x y (inr (a, b)) (inl c) = inl (omega arith)
from-from i d j e x y (inr (a, b)) (inr (c, f)) = inr (omega arith, omega arith)

-- the two points are the same
abbrev pub same : ℕ → ℕ → ℕ → ℕ → Bool
same i d j e = eqb i j && eqb d e

pub before_differs : (i d j e : ℕ) → Before i d j e → same i d j e ≡ false
before_differs i d j e (inl a) = rw (ne_eqb i j (λ q. omega arith))
before_differs i d j e (inr (a, b)) = rw (ne_eqb d e (λ q. omega arith), and-false)

pub after_differs : (i d j e : ℕ) → Before j e i d → same i d j e ≡ false
after_differs i d j e (inl a) = rw (ne_eqb i j (λ q. omega arith))
after_differs i d j e (inr (a, b)) = rw (ne_eqb d e (λ q. omega arith), and-false)

-- each point of the list comes after the point (i, d)
abbrev After : ℕ → ℕ → List Point → Type 0
After i d ps = Each (λ (p : Point). Before i d p.position p.done) ps

abbrev Rising : List Point → Type 0
Rising [] = Unit {0}
Rising (p ∷ ps) = After p.position p.done ps × Rising ps

after-from : (i d j e : ℕ) (ms : List ℕ) (rest : List Point) → Before i d j (suc e) → After i d rest → After i d (points_from j e ms ++ rest)
after-from i d j e [] rest l h = h
after-from i d j e (m ∷ ms) rest l h = (l, after-from i d j (suc e) ms rest (more l) h)
  where
    more : Before i d j (suc e) → Before i d j (suc (suc e))
    more (inl a) = inl a
    more (inr (a, b)) = inr (a, omega arith)

after-path : (t : Task) (i d j : ℕ) (p : List ℕ) → i < j → After i d (points t j p)
after-path t i d j [] l = tt
after-path t i d j (b ∷ p) l = go (block t b).references (after-path t i d (suc j) p (omega arith))
  where
    go : (ms : List ℕ) → After i d (points t (suc j) p) → After i d (block_points j ms ++ points t (suc j) p)
    go [] h = (inl l, h)
    go (m ∷ ms) h = after-from i d j 0 (m ∷ ms) (points t (suc j) p) (inl l) h

rising-from : (t : Task) (i d : ℕ) (ms p : List ℕ) → Rising (points t (suc i) p) → Rising (points_from i d ms ++ points t (suc i) p)
rising-from t i d [] p h = h
rising-from t i d (m ∷ ms) p h =
    (after-from i (suc d) i (suc d) ms (points t (suc i) p) (inr (refl, omega arith)) (after-path t i (suc d) (suc i) p (omega arith)), rising-from t i (suc d) ms p h)

rising-points : (t : Task) (i : ℕ) (p : List ℕ) → Rising (points t i p)
rising-points t i [] = tt
rising-points t i (b ∷ p) = go (block t b).references (rising-points t (suc i) p)
  where
    go : (ms : List ℕ) → Rising (points t (suc i) p) → Rising (block_points i ms ++ points t (suc i) p)
    go [] h = (after-path t i 0 (suc i) p (omega arith), h)
    go (m ∷ ms) h = rising-from t i 0 (m ∷ ms) p h

-- ---- what comes in

module _ {A : Type 0} (position done : A → ℕ) where
  -- those with this point, in list order
  abbrev pub incoming : ℕ → ℕ → List A → List A
  incoming i d xs = keep (λ (x : A). same (position x) (done x) i d) xs

  -- those that are taken at the points, in the order in which they are taken
  abbrev pub taken : List A → List Point → List A
  taken xs [] = []
  taken xs (p ∷ ps) = incoming p.position p.done xs ++ taken xs ps

  -- their points never fall
  abbrev pub InOrder : List A → Type 0
  InOrder [] = Unit {0}
  InOrder (x ∷ []) = Unit {0}
  InOrder (x ∷ y ∷ xs) = NotBefore (position x) (done x) (position y) (done y) × InOrder (y ∷ xs)

  -- the list has the point of x
  abbrev Has : A → List Point → Type 0
  Has x [] = ⊥
  Has x (p ∷ ps) = (same (position x) (done x) p.position p.done ≡ true) ⊎ Has x ps

  same_position : (x : A) (i d : ℕ) → same (position x) (done x) i d ≡ true → position x ≡ i
  same_position x i d e = eqb-true (position x) i (both_left (eqb (position x) i) (eqb (done x) d) e)

  same_done : (x : A) (i d : ℕ) → same (position x) (done x) i d ≡ true → done x ≡ d
  same_done x i d e = eqb-true (done x) d (both_right (eqb (position x) i) (eqb (done x) d) e)

  has_after : (x : A) (i d : ℕ) (ps : List Point) → After i d ps → Has x ps → Before i d (position x) (done x)
  has_after x i d [] h x3 = elim x3 [ ]
  has_after x i d (p ∷ ps) h (inl e) = here h.0
    where
      here : Before i d p.position p.done → Before i d (position x) (done x)
      here (inl a) = inl (omega (arith, same_position x p.position p.done e))
      here (inr (a, b)) = inr (omega (arith, same_position x p.position p.done e), omega (arith, same_done x p.position p.done e))
  has_after x i d (p ∷ ps) h (inr e) = has_after x i d ps h.1 e

  none_yet : (i d : ℕ) (xs : List A) → Each (λ (x : A). Before i d (position x) (done x)) xs → incoming i d xs ≡ []
  none_yet i d [] h = refl
  none_yet i d (x ∷ xs) h = rw (after_differs (position x) (done x) i d h.0, none_yet i d xs h.1)

  taken_past : (x : A) (xs : List A) (ps : List Point) → After (position x) (done x) ps → taken (x ∷ xs) ps ≡ taken xs ps
  taken_past x xs [] h = refl
  taken_past x xs (p ∷ ps) h = rw (before_differs (position x) (done x) p.position p.done h.0, taken_past x xs ps h.1)

  later : (x : A) (i d : ℕ) (xs : List A) → Before i d (position x) (done x) → Each (λ (y : A). NotBefore (position x) (done x) (position y) (done y)) xs
      → Each (λ (y : A). Before i d (position y) (done y)) xs
  later x i d [] l h = tt
  later x i d (y ∷ xs) l h = (before-from i d (position x) (done x) (position y) (done y) l h.0, later x i d xs l h.1)

  taken_first : (x : A) (xs : List A) (ps : List Point) → Rising ps → Has x ps → Each (λ (y : A). NotBefore (position x) (done x) (position y) (done y)) xs
      → taken (x ∷ xs) ps ≡ x ∷ taken xs ps
  taken_first x xs [] r h n = absurd h
  taken_first x xs (p ∷ ps) r (inl e) n = rw (e, taken_past x xs ps (passed r.0))
    where
      passed : After p.position p.done ps → After (position x) (done x) ps
      passed h = rw (same_position x p.position p.done e, same_done x p.position p.done e) h
  taken_first x xs (p ∷ ps) r (inr h) n =
      let l = has_after x p.position p.done ps r.0 h in
      rw (after_differs (position x) (done x) p.position p.done l, none_yet p.position p.done xs (later x p.position p.done xs l n), taken_first x xs ps r.1 h n)

  pub order-later : (x : A) (xs : List A) → InOrder (x ∷ xs) → Each (λ (y : A). NotBefore (position x) (done x) (position y) (done y)) xs
  order-later x [] h = tt
  order-later x (y ∷ xs) h = (h.0, further xs (order-later y xs h.1))
    where
      further : (zs : List A) → Each (λ (z : A). NotBefore (position y) (done y) (position z) (done z)) zs → Each (λ (z : A). NotBefore (position x) (done x) (position z) (done z)) zs
      further [] g = tt
      further (z ∷ zs) g = (from-from (position x) (done x) (position y) (done y) (position z) (done z) h.0 g.0, further zs g.1)

  pub order-rest : (x : A) (xs : List A) → InOrder (x ∷ xs) → InOrder xs
  order-rest x [] h = tt
  order-rest x (y ∷ xs) h = h.1

  taken_points : (xs : List A) (ps : List Point) → Rising ps → InOrder xs → Each (λ (x : A). Has x ps) xs → taken xs ps ≡ xs
  taken_points [] ps r h e = none ps
    where
      none : (ps : List Point) → taken [] ps ≡ []
      none [] = refl
      none (p ∷ ps) = none ps
  taken_points (x ∷ xs) ps r h e =
      taken_first x xs ps r e.0 (order-later x xs h) ∙ ap (λ (l : List A). x ∷ l) (taken_points xs ps r (order-rest x xs h) e.1)

  -- the path has the point of each that lies in it and has a right number of references done
  has_from : (x : A) (i d : ℕ) (ms : List ℕ) (rest : List Point) → position x ≡ i → d < done x → done x ≤ d + length ms → Has x (points_from i d ms ++ rest)
  has_from x i d [] rest p l h = absurd (omega arith)
  has_from x i d (m ∷ ms) rest p l h = go (eqb (done x) (suc d)) refl (λ q. has_from x i (suc d) ms rest p q (omega arith))
    where
      go : (b : Bool) → eqb (done x) (suc d) ≡ b → (suc d < done x → Has x (points_from i (suc d) ms ++ rest)) → Has x (points_from i d (m ∷ ms) ++ rest)
      go true e ih = inl (rw (eq-eqb (position x) i p, e))
      go false e ih = inr (ih (omega (arith, eqb-false (done x) (suc d) e)))

  has_more : (x : A) (ls ps : List Point) → Has x ps → Has x (ls ++ ps)
  has_more x [] ps h = h
  has_more x (p ∷ ls) ps h = inr (has_more x ls ps h)

  has_block : (x : A) (i : ℕ) (ms : List ℕ) (rest : List Point) → position x ≡ i → Done ms (done x) → Has x (block_points i ms ++ rest)
  has_block x i [] rest p h = inl (rw (eq-eqb (position x) i p, eq-eqb (done x) 0 h))
  has_block x i (m ∷ ms) rest p h = has_from x i 0 (m ∷ ms) rest p h.0 (omega (arith, h.1))

  has_point : (t : Task) (x : A) (i at : ℕ) (p : List ℕ) → position x ≡ i + at → at < length p → Done (block t (get_or p at 0)).references (done x) → Has x (points t i p)
  has_point t x i at [] e l h = absurd (omega arith)
  has_point t x i zero (b ∷ p) e l h = has_block x i (block t b).references (points t (suc i) p) (omega arith) h
  has_point t x i (suc at) (b ∷ p) e l h = has_more x (block_points i (block t b).references) (points t (suc i) p) (has_point t x (suc i) at p (omega arith) (omega arith) h)

  pub taken_all : (t : Task) (path : List ℕ) (xs : List A) → InOrder xs
      → Each (λ (x : A). (position x < length path) × Done (block t (get_or path (position x) 0)).references (done x)) xs → taken xs (points t 0 path) ≡ xs
  taken_all t path xs h e = taken_points xs (points t 0 path) (rising-points t 0 path) h (there xs e)
    where
      there : (xs : List A) → Each (λ (x : A). (position x < length path) × Done (block t (get_or path (position x) 0)).references (done x)) xs
          → Each (λ (x : A). Has x (points t 0 path)) xs
      there [] h = tt
      there (x ∷ xs) h = (has_point t x 0 (position x) path (sym (zero-add (position x))) h.0.0 h.0.1, there xs h.1)

  -- ---- what holds of each

  pub record At (P : A → Type 0) (i d : ℕ) (x : A) : Type 0 where
    pub holds : P x
    pub at_position : position x ≡ i
    pub at_done : done x ≡ d

  pub each_incoming : (P : A → Type 0) (i d : ℕ) (xs : List A) → Each P xs → Each (At P i d) (incoming i d xs)
  each_incoming P i d [] h = tt
  each_incoming P i d (x ∷ xs) h = go (same (position x) (done x) i d) refl (each_incoming P i d xs h.1)
    where
      go : (s : Bool) → same (position x) (done x) i d ≡ s → Each (At P i d) (incoming i d xs) → Each (At P i d) (cond s (x ∷ incoming i d xs) (incoming i d xs))
      go true e r = (record { holds = h.0; at_position = same_position x i d e; at_done = same_done x i d e }, r)
      go false e r = r
