-- The times of a list, and check 21 by them, in the code's words.
use mathlib.Core.Path.{◌≡◌, refl, sym, ap, ap₂, subst, ◌∙◌}
use mathlib.Core.Logic.{◌⊎◌, inl, inr}
use mathlib.Core.Bool.{Bool, true, false, ◌||◌, false≢true}
use mathlib.Core.List.{List, [], ◌∷◌, map}
use Prim.Native.Nat.{ℕ, zero, suc, ◌+◌, ◌≤◌, ◌<◌, min}
use native.Mathlib.Nat.{not-suc-le-zero, le_refl}
use native.Mathlib.Numerals.{add-one}
use native.Mathlib.Omega.{arith}
use lib.Dec.{eqb, leb}
use lib.ListN.{length, get_or, set, take, drop, drop_of_length-le, length-set, length-take}
use lib.Seq.{take_all, drop-cons, get_or-take, get_or-set_same, get_or-set_other}
use borrow.Author.Tests.{leb-true, leb-false, eqb-true, eqb-false}
use Rattle.model.proofs.Membership.{or_cases, or_left, or_right}
use Rattle.project.proofs.Accepted.{or_false_left, or_false_right}
use Rattle.response.specs.declared.Record.{Record}
use Rattle.response.specs.declared.Times.{Times}
use Rattle.response.specs.Times.{no_record, record_of, no_times, timed}
use Rattle.responses.specs.Responses.{any}
use Rattle.responses.specs.Plan.{times_with, times_of}

-- ---- tests of numbers

pub any_has : (test : ℕ → Bool) (n i : ℕ) → i < n → test i ≡ true → any n test ≡ true
any_has test zero i l e = absurd (not-suc-le-zero l)
any_has test (suc n) i l e = go (eqb i n) refl (λ m. any_has test n i m e)
  where
    go : (b : Bool) → eqb i n ≡ b → (i < n → any n test ≡ true) → (any n test || test n) ≡ true
    go true q ih = or_right (any n test) (test n) (subst (λ (k : ℕ). test k ≡ true) (eqb-true i n q) e)
    go false q ih = or_left (any n test) (test n) (ih (omega (arith, eqb-false i n q)))

pub any_cong : (f g : ℕ → Bool) (n : ℕ) → ((i : ℕ) → i < n → f i ≡ g i) → any n f ≡ any n g
any_cong f g zero h = refl
any_cong f g (suc n) h = ap₂ (λ (a b : Bool). a || b) (any_cong f g n (λ i l. h i (omega arith))) (h n (le_refl (suc n)))

pub any_none : (test : ℕ → Bool) (n : ℕ) → any n test ≡ false → (i : ℕ) → i < n → test i ≡ false
any_none test zero e i l = absurd (not-suc-le-zero l)
any_none test (suc n) e i l = go (eqb i n) refl (λ m. any_none test n (or_false_left (any n test) (test n) e) i m)
  where
    go : (b : Bool) → eqb i n ≡ b → (i < n → test i ≡ false) → test i ≡ false
    go true q ih = subst (λ (k : ℕ). test k ≡ false) (sym (eqb-true i n q)) (or_false_right (any n test) (test n) e)
    go false q ih = ih (omega (arith, eqb-false i n q))

pub any_some : (test : ℕ → Bool) (n : ℕ) → any n test ≡ true → (i : ℕ) × (i < n) × (test i ≡ true)
any_some test zero e = absurd (false≢true e)
any_some test (suc n) e = go (or_cases (any n test) (test n) e) (λ p. any_some test n p)
  where
    go : (any n test ≡ true) ⊎ (test n ≡ true) → (any n test ≡ true → (i : ℕ) × (i < n) × (test i ≡ true)) → (i : ℕ) × (i < suc n) × (test i ≡ true)
    go (inl p) ih = let (i, l, q) = ih p in (i, omega arith, q)
    go (inr q) ih = (n, omega arith, q)

-- ---- the loop that gathers the times: ys are the records gathered

-- the first eight records, as the code lends them
pub first_eight : (xs : List Record) {n : ℕ} → n ≡ min (length xs) 8 → take n xs ≡ take 8 xs
first_eight xs {n} e = go (leb (length xs) 8) refl
  where
    go : (b : Bool) → leb (length xs) 8 ≡ b → take n xs ≡ take 8 xs
    go true q = let l = leb-true (length xs) 8 q in take_all n xs (omega arith) ∙ sym (take_all 8 xs l)
    go false q = let l = leb-false (length xs) 8 q in let m : n ≡ 8 = omega arith in ap (λ (k : ℕ). take k xs) m

pub times_turn : (x : Times) (i : ℕ) (ys : List Record) (d : Record) {r : Record} → i < length ys → r ≡ get_or ys i d
    → times_with (timed x i r) (i + 1) (drop (i + 1) ys) ≡ times_with x i (drop i ys)
unfolding times_with
times_turn x i ys d h e =
    ap (λ (q : Record). times_with (timed x i q) (i + 1) (drop (i + 1) ys)) e
    ∙ ap (λ (k : ℕ). times_with (timed x i (get_or ys i d)) (i + 1) (drop k ys)) (add-one i)
    ∙ sym (ap (times_with x i) (drop-cons ys i d h))

pub times_end : (x : Times) (i : ℕ) (ys : List Record) → length ys ≤ i → x ≡ times_with x i (drop i ys)
unfolding times_with
times_end x i ys h = rw (drop_of_length-le ys {i = i} h) refl

pub times_count : (x : Times) (i : ℕ) (ys : List Record) → (times_with x i ys).count ≡ x.count
unfolding times_with
times_count x i [] = refl
times_count x i (r ∷ ys) = times_count (timed x i r) (i + 1) ys

-- ---- the times gathered are those of the records

-- numbers stored one after the other, the first at i
unfoldable puts : List ℕ → ℕ → List ℕ → List ℕ
puts l i [] = l
puts l i (v ∷ vs) = puts (set l i v) (i + 1) vs

puts_below : (l : List ℕ) (i : ℕ) (vs : List ℕ) (h : ℕ) → h < i → get_or (puts l i vs) h 0 ≡ get_or l h 0
unfolding puts
puts_below l i [] h b = refl
puts_below l i (v ∷ vs) h b = puts_below (set l i v) (i + 1) vs h (omega arith) ∙ get_or-set_other l i h v 0 (λ e. omega (arith, e))

puts_at : (l : List ℕ) (i : ℕ) (vs : List ℕ) (k : ℕ) → i + length vs ≤ length l → k < length vs → get_or (puts l i vs) (i + k) 0 ≡ get_or vs k 0
unfolding puts
puts_at l i [] k b h = absurd (not-suc-le-zero h)
puts_at l i (v ∷ vs) zero b h =
    let e : i + 0 ≡ i = omega arith in
    rw e (puts_below (set l i v) (i + 1) vs i (omega arith) ∙ get_or-set_same l i v 0 (omega arith))
puts_at l i (v ∷ vs) (suc k) b h =
    let e : i + suc k ≡ i + 1 + k = omega arith in
    rw e (puts_at (set l i v) (i + 1) vs k (omega (arith, length-set l i v)) (omega arith))

field_at : (f : Record → ℕ) → f no_record ≡ 0 → (ys : List Record) (k : ℕ) → get_or (map f ys) k 0 ≡ f (get_or ys k no_record)
field_at f z [] k = sym z
field_at f z (y ∷ ys) zero = refl
field_at f z (y ∷ ys) (suc k) = field_at f z ys k

map-long : (f : Record → ℕ) (ys : List Record) → length (map f ys) ≡ length ys
map-long f [] = refl
map-long f (y ∷ ys) = ap suc (map-long f ys)

times_c : (x : Times) (i : ℕ) (ys : List Record) → (times_with x i ys).c ≡ puts x.c i (map (λ r. r.c) ys)
unfolding times_with puts
times_c x i [] = refl
times_c x i (r ∷ ys) = times_c (timed x i r) (i + 1) ys

times_t : (x : Times) (i : ℕ) (ys : List Record) → (times_with x i ys).t ≡ puts x.t i (map (λ r. r.t) ys)
unfolding times_with puts
times_t x i [] = refl
times_t x i (r ∷ ys) = times_t (timed x i r) (i + 1) ys

times_d : (x : Times) (i : ℕ) (ys : List Record) → (times_with x i ys).d ≡ puts x.d i (map (λ r. r.d) ys)
unfolding times_with puts
times_d x i [] = refl
times_d x i (r ∷ ys) = times_d (timed x i r) (i + 1) ys

module _ (xs : List Record) (k : ℕ) (h : k < length xs) (few : k < 8) where
  abbrev ys : List Record
  ys = take 8 xs

  at : (f : Record → ℕ) → f no_record ≡ 0 → (l m : List ℕ) → length l ≡ 8 → m ≡ puts l 0 (map f ys) → f (record_of xs k) ≡ get_or m k 0
  at f z l m e q =
      let o : 0 + k ≡ k = omega arith in
      let p = puts_at l 0 (map f ys) k (omega (arith, map-long f ys, length-take 8 xs)) (omega (arith, map-long f ys, length-take 8 xs)) in
      sym (ap (λ (n : List ℕ). get_or n k 0) q ∙ ap (λ (i : ℕ). get_or (puts l 0 (map f ys)) i 0) (sym o) ∙ p ∙ field_at f z ys k
      ∙ ap f (get_or-take 8 xs k no_record few))

  pub times_at : ((record_of xs k).c ≡ get_or (times_of xs).c k 0) × ((record_of xs k).t ≡ get_or (times_of xs).t k 0) × ((record_of xs k).d ≡ get_or (times_of xs).d k 0)
  times_at =
      let x = no_times (length xs) in (
        at (λ r. r.c) refl x.c (times_of xs).c refl (times_c x 0 ys),
        at (λ r. r.t) refl x.t (times_of xs).t refl (times_t x 0 ys),
        at (λ r. r.d) refl x.d (times_of xs).d refl (times_d x 0 ys),
      )
