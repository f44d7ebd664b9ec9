-- The least number that meets the equation: rounding up, that what is asked for grows with the time, and that the iteration finds the least number or
-- passes the deadline.
use mathlib.Core.Path.{◌≡◌, refl, sym, ap, ap₂, ◌∙◌}
use mathlib.Core.Bool.{Bool, true, false, cond}
use mathlib.Core.List.{List}
use Prim.Native.Nat.{ℕ, zero, suc, ◌+◌, ◌*◌, ◌-◌, ◌/◌, ◌≤◌, ◌<◌}
use native.Mathlib.Nat.{le_refl, mul-le-mul_left, mul-le-mul_right, div-lt_iff_lt-mul, div-mul-le_self, lt-div-mul-add}
use native.Mathlib.Omega.{arith}
use native.Mathlib.Numerals.{add-one}
use lib.Dec.{eqb, leb}
use lib.ListN.{get_or, length, set}
use lib.Seq.{get_or-set_same, get_or-set_other}
use borrow.Author.Tests.{eqb-true, eqb-false, eq-eqb, ne_eqb, leb-true, leb-false}
use Rattle.std.specs.Prelude.{Option, Some, None}
use Rattle.cache.specs.Sum.{sum, bit}
use Rattle.cache.proofs.Sums.{sum_cong, sum_le}
use Rattle.response.specs.Response.{ceil, g, cost, right_side, Answer, within, late, first_from, answer, response_time, demand}
use Rattle.response.specs.Iteration.{load, Below}
use Rattle.response.specs.declared.Record.{Record}
use Rattle.response.specs.Times.{met, with_response}

-- ---- rounding up

-- ceil r t is the least number k with r <= k t
pub ceil_covers : (r t : ℕ) → 0 < t → r ≤ ceil r t * t
unfolding ceil
ceil_covers r t h = omega (arith, lt-div-mul-add {a = r + (t - 1)} {b = t} h)

pub ceil-least : (r t k : ℕ) → 0 < t → r ≤ k * t → ceil r t ≤ k
unfolding ceil
ceil-least r t k h l =
    let e : suc k * t ≡ k * t + t = omega arith in
    omega (arith, (div-lt_iff_lt-mul {k = t} {x = r + (t - 1)} {y = suc k} h).1 (omega arith))

pub ceil_mono : (r s t : ℕ) → 0 < t → r ≤ s → ceil r t ≤ ceil s t
ceil_mono r s t h l = ceil-least r t (ceil s t) h (omega (arith, ceil_covers s t h))

pub ceil-bound : (r t : ℕ) → 0 < t → ceil r t ≤ r
ceil-bound r t h = ceil-least r t r h (omega (arith, mul-le-mul_left {m = 1} {n = t} r h))

-- ---- what is asked for

-- it grows with the time
pub demand_mono : (c : ℕ) (periods costs : List ℕ) (i : ℕ) → ((j : ℕ) → j < i → 0 < get_or periods j 0) → (r s : ℕ) → r ≤ s → demand c periods costs i r ≤ demand c periods costs i s
unfolding demand
demand_mono c periods costs i h r s l =
    omega (
      arith,
      sum_le i (λ j. ceil r (get_or periods j 0) * get_or costs j 0) (λ j. ceil s (get_or periods j 0) * get_or costs j 0)
          (λ j k. mul-le-mul_right (get_or costs j 0) (ceil_mono r s (get_or periods j 0) (h j k) l)),
    )

-- ---- the least number that meets the equation

-- what the search answers is right, and nothing else is
module _ (f : ℕ → ℕ) where
  first-none : (k r : ℕ) → ((s : ℕ) → r ≤ s → s < r + k → s ≡ f s → ⊥) → first_from f k r ≡ 0
  unfolding first_from
  first-none zero r h = refl
  first-none (suc k) r h = rw (ne_eqb r (f r) (h r (le_refl r) (omega arith))) (first-none k (suc r) (λ s a b. h s (omega arith) (omega arith)))

  first_some : (k r x : ℕ) → r ≤ x → x < r + k → x ≡ f x → ((s : ℕ) → r ≤ s → s < x → s ≡ f s → ⊥) → first_from f k r ≡ x
  unfolding first_from
  first_some zero r x a b e h = absurd (omega arith)
  first_some (suc k) r x a b e h = go (eqb r x) refl (λ l. first_some k (suc r) x l (omega arith) e (λ s p q. h s (omega arith) q))
    where
      go : (t : Bool) → eqb r x ≡ t → (suc r ≤ x → first_from f k (suc r) ≡ x) → cond (eqb r (f r)) r (first_from f k (suc r)) ≡ x
      go true q ih = let z : r ≡ x = eqb-true r x q in rw (eq-eqb r (f r) (rw z e)) z
      go false q ih =
          let l : r < x = omega (arith, eqb-false r x q) in
          rw (ne_eqb r (f r) (h r (le_refl r) l)) (ih l)

  pub answer_unique : (d x : ℕ) → Answer f d x → x ≡ answer f d
  answer_unique d x (within p l) = sym (first_some d 1 x p.positive (omega arith) p.meets (λ s a b e. omega (arith, p.least s a e)))
  answer_unique d x (late h) = sym (first-none d 1 (λ s a b e. h s a (omega arith) e))

-- an iteration that begins below every number that meets the equation stays below, where f grows
module _ (f : ℕ → ℕ) (grows : (r s : ℕ) → r ≤ s → f r ≤ f s) where
  pub below_next : (r : ℕ) → Below f r → Below f (f r)
  below_next r b = record {
    positive = omega (arith, b.positive, b.rises);
    rises = grows r (f r) b.rises;
    under = λ s a e. omega (arith, grows r s (b.under s a e), e);
  }

  pub below_met : (d r : ℕ) → Below f r → r ≤ d → r ≡ f r → Answer f d r
  below_met d r b l e = within (record { positive = b.positive; meets = e; least = b.under }) l

  pub below-late : (d r : ℕ) → Below f r → d < r → Answer f d 0
  below-late d r b l = late (λ s a k e. omega (arith, b.under s a e))

-- ---- where the iteration begins

-- what is asked for is at least the shares of the time
module _ (c : ℕ) (periods costs : List ℕ) where
  share_under : (s j : ℕ) → 0 < get_or periods j 0 → s * (get_or costs j 0 * 1073741824 / get_or periods j 0) ≤ ceil s (get_or periods j 0) * get_or costs j 0 * 1073741824
  share_under s j h =
      let t = get_or periods j 0 in
      let k = get_or costs j 0 * 1073741824 in
      let u = k / t in
      let n = ceil s t in
      let a : s * u ≤ n * t * u = mul-le-mul_right u (ceil_covers s t h) in
      let b : n * (u * t) ≤ n * k = mul-le-mul_left n (div-mul-le_self k t) in
      let e : n * t * u ≡ n * (u * t) = omega arith in
      let f : n * k ≡ n * get_or costs j 0 * 1073741824 = omega arith in
      omega (arith, a, b, e, f)

  sum-under : (s i : ℕ) → ((j : ℕ) → j < i → 0 < get_or periods j 0)
      → s * sum i (λ (j : ℕ). get_or costs j 0 * 1073741824 / get_or periods j 0) ≤ sum i (λ (j : ℕ). ceil s (get_or periods j 0) * get_or costs j 0) * 1073741824
  sum-under s zero h = omega arith
  sum-under s (suc i) h =
      let x = sum i (λ (j : ℕ). get_or costs j 0 * 1073741824 / get_or periods j 0) in
      let y = get_or costs i 0 * 1073741824 / get_or periods i 0 in
      let e : s * (x + y) ≡ s * x + s * y = omega arith in
      omega (arith, e, sum-under s i (λ j l. h j (omega arith)), share_under s i (h i (le_refl (suc i))))

  module _ (i : ℕ) (some : (j : ℕ) → j < i → 0 < get_or periods j 0) where
    load-under : (s : ℕ) → c * 1073741824 + s * load periods costs i ≤ demand c periods costs i s * 1073741824
    unfolding load demand
    load-under s = omega (arith, sum-under s i some)

    -- the shares are the whole time or more: any number will do
    pub below_full : 0 < c → 1073741824 ≤ load periods costs i → (r : ℕ) → 0 < r → Below (demand c periods costs i) r
    below_full own full r positive = record {
      positive = positive;
      rises = omega (arith, load-under r, mul-le-mul_left r full);
      under = λ s a e. absurd (omega (arith, load-under s, mul-le-mul_left s full, e));
    }

    -- c / (1 - the shares), rounded up
    pub below_shares : 0 < c → load periods costs i < 1073741824 → (r : ℕ) → r ≡ ceil (c * 1073741824) (1073741824 - load periods costs i)
        → Below (demand c periods costs i) r
    below_shares own less r e = record {
      positive = some_time r (covers r e);
      rises = go (leb r (demand c periods costs i r)) refl;
      under = λ s a q. omega (arith, e, ceil-least (c * 1073741824) rest s there (omega (arith, load-under s, parts s, q)));
    }
      where
        rest : ℕ
        rest = 1073741824 - load periods costs i

        there : 0 < rest
        there = omega arith

        parts : (s : ℕ) → s * rest + s * load periods costs i ≡ s * 1073741824
        parts s = let x : rest + load periods costs i ≡ 1073741824 = omega arith in let y : s * (rest + load periods costs i) ≡ s * rest + s * load periods costs i = omega arith in sym y ∙ ap (λ (z : ℕ). s * z) x

        covers : (r : ℕ) → r ≡ ceil (c * 1073741824) rest → c * 1073741824 ≤ r * rest
        covers r e = rw e (ceil_covers (c * 1073741824) rest there)

        some_time : (r : ℕ) → c * 1073741824 ≤ r * rest → 0 < r
        some_time zero l = absurd (omega arith)
        some_time (suc r) l = omega arith

        go : (b : Bool) → leb r (demand c periods costs i r) ≡ b → r ≤ demand c periods costs i r
        go true q = leb-true r (demand c periods costs i r) q
        go false q =
            let l : demand c periods costs i r < r = leb-false r (demand c periods costs i r) q in
            let one : (r - 1) * rest + rest ≡ r * rest = let z : r ≡ (r - 1) + 1 = omega arith in let w : ((r - 1) + 1) * rest ≡ (r - 1) * rest + rest = omega arith in sym (ap (λ (k : ℕ). k * rest) z ∙ w) in
            absurd (omega (arith, e, ceil-least (c * 1073741824) rest (r - 1) there (omega (arith, load-under r, parts r, one, l))))

-- the loop that adds the shares
pub load-none : (periods costs : List ℕ) → 0 ≡ load periods costs 0
unfolding load
load-none periods costs = refl

pub load_turn : (periods costs : List ℕ) (j : ℕ) {sum k : ℕ} → sum ≡ load periods costs j → k ≡ get_or costs j 0 * 1073741824 / get_or periods j 0
    → sum + k ≡ load periods costs (j + 1)
unfolding load
load_turn periods costs j e h = rw (add-one j, e, h)

-- ---- the loop that adds the terms

pub demand-none : (c : ℕ) (periods costs : List ℕ) (r : ℕ) → c ≡ demand c periods costs 0 r
unfolding demand
demand-none c periods costs r = omega arith

pub demand_turn : (c : ℕ) (periods costs : List ℕ) (r j : ℕ) {sum k : ℕ} → sum ≡ demand c periods costs j r → k ≡ ceil r (get_or periods j 0)
    → sum + k * get_or costs j 0 ≡ demand c periods costs (j + 1) r
unfolding demand
demand_turn c periods costs r j e h = rw (add-one j, e, h) (omega arith)

-- one term more
pub sum_turn : (f : ℕ → ℕ) (k : ℕ) {x y : ℕ} → x ≡ sum k f → y ≡ f k → x + y ≡ sum (k + 1) f
sum_turn f k e h = rw (add-one k, e, h)

-- a store at j, and what holds of each place below j
pub costs_turn : (f : ℕ → ℕ) (xs : List ℕ) (m j v : ℕ) → j < length xs → ((h : ℕ) → h < j → (get_or xs h 0 ≡ f h) × (get_or xs h 0 ≤ m)) → v ≡ f j → v ≤ m
    → (h : ℕ) → h < j + 1 → (get_or (set xs j v) h 0 ≡ f h) × (get_or (set xs j v) h 0 ≤ m)
costs_turn f xs m j v l old e b h k = go (eqb h j) refl
  where
    go : (t : Bool) → eqb h j ≡ t → (get_or (set xs j v) h 0 ≡ f h) × (get_or (set xs j v) h 0 ≤ m)
    go true q =
        let z : h ≡ j = eqb-true h j q in
        let s : get_or (set xs j v) h 0 ≡ v = ap (λ (n : ℕ). get_or (set xs j v) n 0) z ∙ get_or-set_same xs j v 0 l in
        (s ∙ e ∙ ap f (sym z), omega arith)
    go false q =
        let ne : h ≡ j → ⊥ = eqb-false h j q in
        let s : get_or (set xs j v) h 0 ≡ get_or xs h 0 = get_or-set_other xs j h v 0 ne in
        let o = old h (omega (arith, ne)) in
        (s ∙ o.0, omega (arith, o.1))

-- the costs that the code has are those of the definition
pub same_demand : (c t : ℕ → ℕ) (periods : List ℕ) (pair : ℕ → ℕ → ℕ) (penalty i : ℕ) (costs : List ℕ) → ((j : ℕ) → j < i → get_or periods j 0 ≡ t j)
    → ((j : ℕ) → j < i → get_or costs j 0 ≡ cost c pair penalty i j) → (r : ℕ) → demand (c i) periods costs i r ≡ right_side c t pair penalty i r
unfolding demand right_side
same_demand c t periods pair penalty i costs p h r =
    omega (
      arith,
      sum_cong i (λ j. ceil r (get_or periods j 0) * get_or costs j 0) (λ j. ceil r (t j) * cost c pair penalty i j)
          (λ j l. ap₂ (λ (x y : ℕ). ceil r x * y) (p j l) (h j l)),
    )

pub same_answer : (f f' : ℕ → ℕ) (d : ℕ) → ((r : ℕ) → f r ≡ f' r) → answer f d ≡ answer f' d
same_answer f f' d h = ap (λ (e : ℕ → ℕ). answer e d) (λ i r. h r i)

first_le : (f : ℕ → ℕ) (k r : ℕ) → first_from f k r ≤ r + k
unfolding first_from
first_le f zero r = omega arith
first_le f (suc k) r = go (eqb r (f r)) (first_le f k (suc r))
  where
    go : (t : Bool) → first_from f k (suc r) ≤ suc r + k → cond t r (first_from f k (suc r)) ≤ r + suc k
    go true ih = omega arith
    go false ih = omega arith

pub answer_le : (f : ℕ → ℕ) (d : ℕ) → answer f d ≤ 1 + d
answer_le f d = first_le f d 1

-- ---- the same times and pair numbers give the same R

pub same_g : (pair pair' : ℕ → ℕ → ℕ) (i j : ℕ) → j < i → ((h : ℕ) → j < h → h ≤ i → pair h j ≡ pair' h j) → g pair i j ≡ g pair' i j
unfolding g
same_g pair pair' i j l h = sum_cong (i - j) (λ k. pair (j + 1 + k) j) (λ k. pair' (j + 1 + k) j) (λ k m. h (j + 1 + k) (omega arith) (omega arith))

module _ (c c' t t' : ℕ → ℕ) (pair pair' : ℕ → ℕ → ℕ) (penalty i : ℕ) where
  pub same_right : ((j : ℕ) → j ≤ i → (c j ≡ c' j) × (t j ≡ t' j)) → ((h j : ℕ) → j < h → h ≤ i → pair h j ≡ pair' h j) → (r : ℕ)
      → right_side c t pair penalty i r ≡ right_side c' t' pair' penalty i r
  unfolding right_side
  same_right times pairs r =
      ap₂ (λ (x y : ℕ). x + y) (times i (le_refl i)).0
      (sum_cong i (λ j. ceil r (t j) * cost c pair penalty i j) (λ j. ceil r (t' j) * cost c' pair' penalty i j)
      (λ j l. ap₂ (λ (x y : ℕ). ceil r x * y) (times j (omega arith)).1
      (ap₂ (λ (x y : ℕ). x + penalty * y) (times j (omega arith)).0 (same_g pair pair' i j l (λ h a b. pairs h j a b)))))

  pub same_response : (d d' : ℕ → ℕ) → ((j : ℕ) → j ≤ i → (c j ≡ c' j) × (t j ≡ t' j)) → d i ≡ d' i → ((h j : ℕ) → j < h → h ≤ i → pair h j ≡ pair' h j)
      → response_time c t d pair penalty i ≡ response_time c' t' d' pair' penalty i
  same_response d d' times deadline pairs =
      same_answer (right_side c t pair penalty i) (right_side c' t' pair' penalty i) (d i) (same_right times pairs)
      ∙ ap (λ (k : ℕ). answer (right_side c' t' pair' penalty i) k) deadline

-- ---- an R, or none

pub met_some : {x r : ℕ} → 0 < r → r ≡ x → Some r ≡ met x
met_some {r = r} h e = rw (← e, ne_eqb r 0 (λ z. omega arith))

pub met_none : {x : ℕ} → 0 ≡ x → None ≡ met x
met_none e = ap met e

none_is_no_r : {r : ℕ} → ◌≡◌ {A = Option ℕ} None (Some r) → ⊥
none_is_no_r e = cc

-- R of which a task is told, and that there is none
pub is_met : (x : ℕ) {r : ℕ} → met x ≡ Some r → (x ≡ r) × (eqb x 0 ≡ false)
is_met x {r} e = go (eqb x 0) refl
  where
    go : (b : Bool) → eqb x 0 ≡ b → (x ≡ r) × (eqb x 0 ≡ false)
    go true q = let none : ◌≡◌ {A = Option ℕ} None (Some r) = rw q at e in absurd (none_is_no_r none)
    go false q = let told : ◌≡◌ {A = Option ℕ} (Some x) (Some r) = rw q at e in (cc, q)

pub is_none : (x : ℕ) → met x ≡ None → eqb x 0 ≡ true
is_none x e = go (eqb x 0) refl
  where
    go : (b : Bool) → eqb x 0 ≡ b → eqb x 0 ≡ true
    go true q = q
    go false q = let told : ◌≡◌ {A = Option ℕ} (Some x) None = rw q at e in absurd (none_is_no_r (sym told))

-- the record with R and a mark
abbrev the_record : Record → ℕ → ℕ → Record
the_record task n m = record { c = task.c; t = task.t; d = task.d; r = n; late = m }

pub with_r : (task : Record) (x : ℕ) {r : ℕ} → met x ≡ Some r → record { c = task.c; t = task.t; d = task.d; r = r; late = 0 } ≡ with_response task x
with_r task x e = let (same, some) = is_met x e in ap₂ (λ (n m : ℕ). the_record task n m) (sym same) (sym (ap bit some))

pub with_none : (task : Record) (x : ℕ) → met x ≡ None → record { c = task.c; t = task.t; d = task.d; r = 0; late = 1 } ≡ with_response task x
with_none task x e = let late = is_none x e in ap₂ (λ (n m : ℕ). the_record task n m) (sym (eqb-true x 0 late)) (sym (ap bit late))
