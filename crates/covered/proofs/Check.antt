-- Table's check 11 of Point 9, decided by rounds: the computed answer is true exactly when for some k some block has 33 different uncovered
-- rows of paths, or of ways on, of at most k blocks; and where it is true the full sets have more than 32 too, so every table given before
-- is given still.
-- The idea: the rounds are computed until one changes nothing; a set of uncovered rows is a part of the full set.
use mathlib.Core.Path.{◌≡◌, refl, sym, ◌∙◌}
use mathlib.Core.Logic.{◌⊎◌, inl, inr, ◌↔◌}
use mathlib.Core.Bool.{Bool, true, false, ◌||◌, cond, true≢false, false≢true}
use mathlib.Core.List.{List, [], ◌∷◌}
use Prim.Native.Nat.{ℕ, zero, suc, ◌≤◌, ◌<◌}
use native.Mathlib.Omega.{arith}
use lib.Dec.{eqb, ltb}
use lib.ListN.{length}
use borrow.Author.Tests.{eqb-true, ltb-true}
use Rattle.cache.specs.Cache.{Cache, one_line}
use Rattle.model.specs.Lists.{mem}
use Rattle.model.specs.Tasks.{Task}
use Rattle.model.specs.States.{Reaches, Lives, ThirtyThree}
use Rattle.model.specs.Computed.{State, same_list, same_state, reach_next, reach_start, live_next, live_start, rounds, rows_at, sorted, reaching, living}
use Rattle.model.proofs.Membership.{or_cases, or_left, or_right, same_state_self, same_state_true}
use Rattle.model.proofs.Policies.{one_lawful}
use Rattle.model.proofs.Universe.{universe, universe_rounds, in_universe}
use Rattle.model.proofs.Most.{rows_at_has, rows_at_only}
use Rattle.model.proofs.Sorted.{sorted-rising, sorted_has, sorted_only, rising_unique, reaching-rows, living-rows}
use Rattle.gather.specs.Graph.{too_many}
use Rattle.gather.proofs.Distinct.{Distinct, sorted-length}
use Rattle.gather.proofs.Gathering.{many-before}
use Rattle.covered.specs.Covered.{Uncovered, ReachesBy, LivesBy, Exceeds, UncoveredFault11}
use Rattle.covered.specs.Rounds.{state_within, full_round, reaching_round, live_round, reaching_exceeds, live_exceeds, uncovered_test11}
use Rattle.covered.proofs.Many.{many_33, long_33, one_of_33}
use Rattle.covered.proofs.Order.{state_within_self, state_within_trans, state_within-both}
use Rattle.covered.proofs.Rounds.{Once, kept-once, some_round_lem}
use Rattle.covered.proofs.States.{reach_mono, live_mono, reach_in_task, live_in_task, reaching_round_lem, live_round_lem}

-- ---- lists without repetition

not_true : (b : Bool) → (b ≡ true → ⊥) → b ≡ false
not_true true h = absurd (h refl)
not_true false h = refl

rows_at_distinct : (b : ℕ) (l : List State) → Once same_state l → Distinct (rows_at b l)
rows_at_distinct b [] o = tt
rows_at_distinct b (x ∷ l) o = go (eqb x.0 b) refl (rows_at_distinct b l o.1)
  where
    same : (c : ℕ) → x.0 ≡ c → mem same_state (c, x.1) l ≡ true → mem same_state x l ≡ true
    same c e i = rw (← e) at i

    go : (s : Bool) → eqb x.0 b ≡ s → Distinct (rows_at b l) → Distinct (cond s (x.1 ∷ rows_at b l) (rows_at b l))
    go true q d = (not_true (mem same_list x.1 (rows_at b l)) (λ e. true≢false (sym (same b (eqb-true x.0 b q) (rows_at_only b x.1 l e)) ∙ o.0)), d)
    go false q d = d

-- ---- a block with more than 32 rows

too_many-at : (all : ℕ → List (List ℕ)) (B : ℕ) → too_many all B ≡ true → (b : ℕ) × (b < B) × (32 < length (all b))
too_many-at all zero e = absurd (false≢true e)
too_many-at all (suc B) e = go (or_cases (ltb 32 (length (all B))) (too_many all B) e) (too_many-at all B)
  where
    go : (ltb 32 (length (all B)) ≡ true) ⊎ (too_many all B ≡ true) → (too_many all B ≡ true → (b : ℕ) × (b < B) × (32 < length (all b))) → (b : ℕ) × (b < suc B) × (32 < length (all b))
    go (inl p) ih = (B, omega arith, ltb-true 32 (length (all B)) p)
    go (inr p) ih = let (b, h, l) = ih p in (b, omega arith, l)

too_many_cong : (all all' : ℕ → List (List ℕ)) → ((b : ℕ) → all b ≡ all' b) → (B : ℕ) → too_many all B ≡ too_many all' B
too_many_cong all all' h zero = refl
too_many_cong all all' h (suc B) = rw (h B, too_many_cong all all' h B)

full_same : (B : ℕ) (l r : List State) → ((x : State) → (mem same_state x l ≡ true) ↔ (mem same_state x r ≡ true)) → full_round B l ≡ full_round B r
full_same B l r h = too_many_cong (λ b. sorted (rows_at b l)) (λ b. sorted (rows_at b r)) (λ b.
    rising_unique (sorted (rows_at b l)) (sorted (rows_at b r)) (sorted-rising (rows_at b l)) (sorted-rising (rows_at b r))
    (λ y. (
      λ e. sorted_has (rows_at b r) y (rows_at_has b y r ((h (b, y)).0 (rows_at_only b y l (sorted_only (rows_at b l) y e)))),
      λ e. sorted_has (rows_at b l) y (rows_at_has b y l ((h (b, y)).1 (rows_at_only b y r (sorted_only (rows_at b r) y e)))),
    ))) B

-- ---- from a round's list to 33 rows, and back

module _ (t : Task) (Q : ℕ → ℕ → List ℕ → Type 0) (round : ℕ → List State) (shift : ℕ → ℕ) (round-once : (n : ℕ) → Once same_state (round n))
    (exact : (n b : ℕ) (row : List ℕ) → (mem same_list row (rows_at b (round n)) ≡ true) ↔ Uncovered (Q (shift n) b) row) where
  rows-many : (n b : ℕ) → length (sorted (rows_at b (round n))) ≡ length (rows_at b (round n))
  rows-many n b = sorted-length (rows_at b (round n)) (rows_at_distinct b (round n) (round-once n))

  full_exceeds : (n : ℕ) → full_round (length t) (round n) ≡ true → Exceeds t Q
  full_exceeds n e =
      let (b, h, l) = too_many-at (λ b. sorted (rows_at b (round n))) (length t) e in
      (shift n, b, h, many_33 (Uncovered (Q (shift n) b)) (rows_at b (round n)) (rows_at_distinct b (round n) (round-once n)) (omega (arith, rows-many n b)) (λ row i. (exact n b row).0 i))

  exceeds_full : (n k b : ℕ) → b < length t → ThirtyThree (Uncovered (Q k b)) → k ≡ shift n → full_round (length t) (round n) ≡ true
  exceeds_full n k b h x e =
      many-before (λ b. sorted (rows_at b (round n))) b (length t) h
      (omega (arith, rows-many n b, long_33 (Uncovered (Q (shift n) b)) (rows_at b (round n)) (rw e at x) (λ row u. (exact n b row).1 u)))

module _ (k : Cache) (t : Task) where
  reaching-once : (n : ℕ) → Once same_state (reaching_round k t n)
  reaching-once = kept-once same_state same_state_self same_state_true state_within state_within_self state_within_trans state_within-both (reach_next (one_line k) t) (reach_mono k t) (reach_start (one_line k) t)

  live-once : (n : ℕ) → Once same_state (live_round k t n)
  live-once = kept-once same_state same_state_self same_state_true state_within state_within_self state_within_trans state_within-both (live_next (one_line k) t) (live_mono k t) (live_start (one_line k) t)

  some-reaching : (reaching_exceeds k t ≡ true) ↔ ((n : ℕ) × (full_round (length t) (reaching_round k t n) ≡ true))
  some-reaching =
      some_round_lem same_state same_state_self same_state_true state_within state_within_self state_within_trans state_within-both (reach_next (one_line k) t) (reach_mono k t) (reach_start (one_line k) t)
      (universe (one_line k) (one_lawful k) t) (λ x w. in_universe (one_line k) (one_lawful k) t x (reach_in_task k t w)) (full_round (length t)) (full_same (length t)) (rounds (one_line k) t) (omega (arith, universe_rounds (one_line k) (one_lawful k) t))

  some-live : (live_exceeds k t ≡ true) ↔ ((n : ℕ) × (full_round (length t) (live_round k t n) ≡ true))
  some-live =
      some_round_lem same_state same_state_self same_state_true state_within state_within_self state_within_trans state_within-both (live_next (one_line k) t) (live_mono k t) (live_start (one_line k) t)
      (universe (one_line k) (one_lawful k) t) (λ x w. in_universe (one_line k) (one_lawful k) t x (live_in_task k t w)) (full_round (length t)) (full_same (length t)) (rounds (one_line k) t) (omega (arith, universe_rounds (one_line k) (one_lawful k) t))

  -- no path has 0 blocks, so k is a number of steps and one
  pub some_k : (m b : ℕ) → ThirtyThree (Uncovered (ReachesBy k t m b)) → (n : ℕ) × (m ≡ suc n)
  some_k zero b x = let (row, u) = one_of_33 (Uncovered (ReachesBy k t zero b)) x in let (p, w, l, d) = u.0 in absurd (omega arith)
  some_k (suc n) b x = (n, refl)

  -- the test of the reaching states, and of the live states
  pub reaching_check : (reaching_exceeds k t ≡ true) ↔ Exceeds t (ReachesBy k t)
  reaching_check = (
    λ e. let (n, f) = some-reaching.0 e in full_exceeds t (ReachesBy k t) (reaching_round k t) suc reaching-once (reaching_round_lem k t) n f,
    λ (m, b, h, x). let (n, e) = some_k m b x in some-reaching.1 (n, exceeds_full t (ReachesBy k t) (reaching_round k t) suc reaching-once (reaching_round_lem k t) n m b h x e),
  )

  pub live_check : (live_exceeds k t ≡ true) ↔ Exceeds t (LivesBy k t)
  live_check = (
    λ e. let (n, f) = some-live.0 e in full_exceeds t (LivesBy k t) (live_round k t) (λ n. n) live-once (live_round_lem k t) n f,
    λ (m, b, h, x). some-live.1 (m, exceeds_full t (LivesBy k t) (live_round k t) (λ n. n) live-once (live_round_lem k t) m m b h x refl),
  )

  pub uncovered11_exact : (uncovered_test11 k t ≡ true) ↔ UncoveredFault11 k t
  uncovered11_exact = (
    λ e. elim (or_cases (reaching_exceeds k t) (live_exceeds k t) e) [ inl p ↦ inl (reaching_check.0 p) | inr p ↦ inr (live_check.0 p) ],
    λ x. elim x [ inl p ↦ or_left (reaching_exceeds k t) (live_exceeds k t) (reaching_check.1 p) | inr p ↦ or_right (reaching_exceeds k t) (live_exceeds k t) (live_check.1 p) ],
  )

  -- ---- where it is given, it was given before: some block has more than 32 states

  pub reaching-before : (B : ℕ) → length t ≤ B → Exceeds t (ReachesBy k t) → too_many (reaching k t) B ≡ true
  reaching-before B few (m, b, h, x) =
      many-before (reaching k t) b B (omega arith) (long_33 (Uncovered (ReachesBy k t m b)) (reaching k t b) x (λ row u. (reaching-rows k t b row).1 (any row u.0)))
    where
      any : (row : List ℕ) → ReachesBy k t m b row → Reaches k t b row
      any row (p, w, l, e) = (p, w, e)

  pub live-before : (B : ℕ) → length t ≤ B → Exceeds t (LivesBy k t) → too_many (living k t) B ≡ true
  live-before B few (m, b, h, x) =
      many-before (living k t) b B (omega arith) (long_33 (Uncovered (LivesBy k t m b)) (living k t b) x (λ row u. (living-rows k t b row).1 (any row u.0)))
    where
      any : (row : List ℕ) → LivesBy k t m b row → Lives k t b row
      any row (p, w, l, e) = (p, w, e)

  pub uncovered11_before : (B : ℕ) → length t ≤ B → UncoveredFault11 k t → (too_many (reaching k t) B || too_many (living k t) B) ≡ true
  uncovered11_before B h (inl x) = or_left (too_many (reaching k t) B) (too_many (living k t) B) (reaching-before B h x)
  uncovered11_before B h (inr x) = or_right (too_many (reaching k t) B) (too_many (living k t) B) (live-before B h x)

  -- so where no block has more than 32 states the test passes
  pub uncovered11_fewer : (B : ℕ) → length t ≤ B → (too_many (reaching k t) B || too_many (living k t) B) ≡ false → uncovered_test11 k t ≡ false
  uncovered11_fewer B h e = not_true (uncovered_test11 k t) (λ q. true≢false (sym (uncovered11_before B h (uncovered11_exact.0 q)) ∙ e))
