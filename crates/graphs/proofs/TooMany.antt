-- The test of check 11 holds exactly when its fault is there, for rows of every width: `test11_exact`.
-- The idea: a block's states are listed without repetition, so 33 of the list are 33 different rows, and 33 different rows are in no shorter list.
use mathlib.Core.Path.{◌≡◌, refl, sym, ◌∙◌}
use mathlib.Core.Logic.{◌≢◌, ◌⊎◌, inl, inr, ◌↔◌}
use mathlib.Core.Bool.{true, true≢false, false≢true}
use mathlib.Core.List.{List, [], ◌∷◌}
use Prim.Native.Nat.{ℕ, zero, suc, ◌≤◌, ◌<◌}
use native.Mathlib.Omega.{arith}
use lib.Dec.{ltb}
use lib.ListN.{length, take}
use lib.Seq.{length-take-le}
use borrow.Author.Tests.{ltb-true}
use Rattle.cache.specs.Cache.{wide, direct}
use Rattle.model.specs.Lists.{mem, Each}
use Rattle.model.specs.Tasks.{Task}
use Rattle.model.specs.States.{Reaches, Lives, Different, ThirtyThree, Fault11}
use Rattle.model.specs.Order.{Rising}
use Rattle.model.specs.Computed.{same_list, reaching, living}
use Rattle.model.proofs.Membership.{or_cases, or_left, or_right, each_of, each_at}
use Rattle.model.proofs.Paths.{path-first, path-last}
use Rattle.model.proofs.Sorted.{before_self, below_all, reaching-rows, living-rows, reaching-rising, living-rising}
use Rattle.model.proofs.Width.{count-reaching, count-living}
use Rattle.gather.specs.Graph.{too_many}
use Rattle.gather.proofs.Distinct.{Distinct, not_true, no_longer}
use Rattle.gather.proofs.Gathering.{many-before}
use Rattle.graphs.specs.TaskRows.{test11}

many-at : (all : ℕ → List (List ℕ)) (n : ℕ) → too_many all n ≡ true → (b : ℕ) × (b < n) × (32 < length (all b))
many-at all zero e = absurd (false≢true e)
many-at all (suc n) e = go (or_cases (ltb 32 (length (all n))) (too_many all n) e) (many-at all n)
  where
    go : (ltb 32 (length (all n)) ≡ true) ⊎ (too_many all n ≡ true) → (too_many all n ≡ true → (b : ℕ) × (b < n) × (32 < length (all b))) → (b : ℕ) × (b < suc n) × (32 < length (all b))
    go (inl p) ih = (n, omega arith, ltb-true 32 (length (all n)) p)
    go (inr p) ih = let (b, l, h) = ih p in (b, omega arith, h)

-- ---- 33 rows of a rising list

rising-different : (l : List (List ℕ)) → Rising l → Different l
rising-different [] h = tt
rising-different (x ∷ l) h = (each_of (λ (y : List ℕ). x ≢ y) l (λ y e q. true≢false (sym (below_all x l h.0 h.1 y e) ∙ rw q (before_self y))), rising-different l h.1)

take-each : (P : List ℕ → Type 0) (n : ℕ) (l : List (List ℕ)) → Each P l → Each P (take n l)
take-each P zero l h = tt
take-each P (suc n) [] h = tt
take-each P (suc n) (x ∷ l) h = (h.0, take-each P n l h.1)

take-different : (n : ℕ) (l : List (List ℕ)) → Different l → Different (take n l)
take-different zero l h = tt
take-different (suc n) [] h = tt
take-different (suc n) (x ∷ l) h = (take-each (λ (y : List ℕ). x ≢ y) n l h.0, take-different n l h.1)

different_distinct : (l : List (List ℕ)) → Different l → Distinct l
different_distinct [] h = tt
different_distinct (x ∷ l) h = (not_true (mem same_list x l) (λ e. each_at (λ (y : List ℕ). x ≢ y) l h.0 x e refl), different_distinct l h.1)

-- the states of a kind, listed in dictionary order: more than 32 of them are 33 different ones
module _ (State : List ℕ → Type 0) (all : List (List ℕ)) (up : Rising all) (is : (row : List ℕ) → (mem same_list row all ≡ true) ↔ State row) where
  some_33 : 32 < length all → ThirtyThree State
  some_33 h = record {
    rows = take 33 all;
    many = length-take-le 33 all h;
    different = take-different 33 all (rising-different all up);
    states = take-each State 33 all (each_of State all (λ row e. (is row).0 e));
  }

  more_32 : ThirtyThree State → 32 < length all
  more_32 x =
      let long = no_longer x.rows all (different_distinct x.rows x.different) (λ row e. (is row).1 (each_at State x.rows x.states row e)) in
      omega (arith, x.many)

a_state : {State : List ℕ → Type 0} → ThirtyThree State → (row : List ℕ) × State row
a_state {State} x = go x.rows x.many x.states
  where
    go : (rows : List (List ℕ)) → length rows ≡ 33 → Each State rows → (row : List ℕ) × State row
    go [] e h = absurd (omega arith)
    go (row ∷ rows) e h = (row, h.0)

-- ---- both kinds of states of a task of at most 24 blocks, in n cache blocks and rows of w places

module _ (w n : ℕ) (pos : 0 < n) (wide_enough : n ≤ w) (t : Task) (few : length t ≤ 24) where
  reaching_33 : (b : ℕ) → (32 < length (reaching (wide w n) t b)) ↔ ThirtyThree (Reaches (direct n) t b)
  reaching_33 b =
      let k = direct n in
      let same = count-reaching n w pos wide_enough t b in (
        λ h. some_33 (Reaches k t b) (reaching k t b) (reaching-rising k t b) (reaching-rows k t b) (omega arith),
        λ x. let h = more_32 (Reaches k t b) (reaching k t b) (reaching-rising k t b) (reaching-rows k t b) x in omega arith,
      )

  living_33 : (b : ℕ) → (32 < length (living (wide w n) t b)) ↔ ThirtyThree (Lives (direct n) t b)
  living_33 b =
      let k = direct n in
      let same = count-living n w pos wide_enough t b in (
        λ h. some_33 (Lives k t b) (living k t b) (living-rising k t b) (living-rows k t b) (omega arith),
        λ x. let h = more_32 (Lives k t b) (living k t b) (living-rising k t b) (living-rows k t b) x in omega arith,
      )

  pub test11_exact : (test11 (wide w n) t ≡ true) ↔ Fault11 (direct n) t
  test11_exact = (λ e. there (or_cases (too_many (reaching (wide w n) t) 24) (too_many (living (wide w n) t) 24) e), back)
    where
      there : (too_many (reaching (wide w n) t) 24 ≡ true) ⊎ (too_many (living (wide w n) t) 24 ≡ true) → Fault11 (direct n) t
      there (inl e) =
          let (b, l, h) = many-at (reaching (wide w n) t) 24 e in
          let x = (reaching_33 b).0 h in
          let (row, (p, path, q)) = a_state x in
          (b, path-last t path, inl x)
      there (inr e) =
          let (b, l, h) = many-at (living (wide w n) t) 24 e in
          let x = (living_33 b).0 h in
          let (row, (p, path, q)) = a_state x in
          (b, path-first t path, inr x)

      back : Fault11 (direct n) t → test11 (wide w n) t ≡ true
      back (b, l, inl x) =
          or_left (too_many (reaching (wide w n) t) 24) (too_many (living (wide w n) t) 24) (many-before (reaching (wide w n) t) b 24 (omega arith) ((reaching_33 b).1 x))
      back (b, l, inr x) =
          or_right (too_many (reaching (wide w n) t) 24) (too_many (living (wide w n) t) 24) (many-before (living (wide w n) t) b 24 (omega arith) ((living_33 b).1 x))
