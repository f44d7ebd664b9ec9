-- The loop that sets the records, in the code's words.
use mathlib.Core.Path.{◌≡◌, refl, ap, ap₂, subst, ◌∙◌}
use mathlib.Core.List.{List, [], ◌∷◌}
use Prim.Native.Nat.{ℕ, zero, suc, ◌+◌, ◌≤◌, ◌<◌}
use native.Mathlib.Nat.{not-suc-le-zero, le_of_suc-le-suc, zero-add}
use native.Mathlib.Numerals.{add-one}
use native.Mathlib.Omega.{arith}
use lib.ListN.{length, get_or, set}
use Rattle.response.specs.declared.Record.{Record}
use Rattle.response.specs.Times.{record_of, with_response, with_responses}

module _ (R : ℕ → ℕ) where
  pub set-none : (j : ℕ) (rs : List Record) → rs ≡ with_responses R j 0 rs
  unfolding with_responses
  set-none j rs = refl

  pub set-length : (j k : ℕ) (rs : List Record) → length (with_responses R j k rs) ≡ length rs
  unfolding with_responses
  set-length j zero rs = refl
  set-length j (suc k) [] = refl
  set-length j (suc k) (r ∷ rs) = ap suc (set-length (j + 1) k rs)

  -- the record numbered k is as it was
  set_next : (j k : ℕ) (rs : List Record) (d : Record) → get_or (with_responses R j k rs) k d ≡ get_or rs k d
  unfolding with_responses
  set_next j zero rs d = refl
  set_next j (suc k) [] d = refl
  set_next j (suc k) (r ∷ rs) d = set_next (j + 1) k rs d

  set_more : (j k : ℕ) (rs : List Record) (d : Record) → k < length rs → set (with_responses R j k rs) k (with_response (get_or rs k d) (R (j + k))) ≡ with_responses R j (suc k) rs
  unfolding with_responses
  set_more j k [] d h = absurd (not-suc-le-zero h)
  set_more j zero (r ∷ rs) d h =
      let e : j + 0 ≡ j = omega arith in
      rw e refl
  set_more j (suc k) (r ∷ rs) d h =
      let e : j + suc k ≡ j + 1 + k = omega arith in
      ap (λ (l : List Record). with_response r (R j) ∷ l) (rw e (set_more (j + 1) k rs d (le_of_suc-le-suc h)))

  -- a turn: zs is the list so far, and y its record numbered k with its R
  pub set_turn : (k : ℕ) (rs zs : List Record) (d : Record) {y : Record} → k < length rs → zs ≡ with_responses R 0 k rs → y ≡ with_response (get_or zs k d) (R k)
      → set zs k y ≡ with_responses R 0 (k + 1) rs
  set_turn k rs zs d h e q =
      let g : get_or zs k d ≡ get_or rs k d = ap (λ (l : List Record). get_or l k d) e ∙ set_next 0 k rs d in
      ap₂ (λ (l : List Record) (v : Record). set l k v) e (q ∙ ap (λ (r : Record). with_response r (R k)) g)
      ∙ rw add-one (subst (λ (n : ℕ). set (with_responses R 0 k rs) k (with_response (get_or rs k d) (R n)) ≡ with_responses R 0 (suc k) rs) (zero-add k) (set_more 0 k rs d h))

-- the same R are set
pub set_same : (R S : ℕ → ℕ) (j k : ℕ) (rs : List Record) → ((i : ℕ) → j ≤ i → i < j + k → R i ≡ S i) → with_responses R j k rs ≡ with_responses S j k rs
unfolding with_responses
set_same R S j zero rs h = refl
set_same R S j (suc k) [] h = refl
set_same R S j (suc k) (r ∷ rs) h =
    ap₂ (λ (n : ℕ) (l : List Record). with_response r n ∷ l) (h j (omega arith) (omega arith)) (set_same R S (j + 1) k rs (λ i a b. h i (omega arith) (omega arith)))

-- the record numbered k has its R
pub set_at : (R : ℕ → ℕ) (j n : ℕ) (rs : List Record) (k : ℕ) → k < length rs → length rs ≤ n → record_of (with_responses R j n rs) k ≡ with_response (record_of rs k) (R (j + k))
unfolding with_responses
set_at R j n [] k h b = absurd (not-suc-le-zero h)
set_at R j zero (r ∷ rs) k h b = absurd (omega arith)
set_at R j (suc n) (r ∷ rs) zero h b =
    let e : j + 0 ≡ j = omega arith in
    rw e refl
set_at R j (suc n) (r ∷ rs) (suc k) h b =
    let e : j + suc k ≡ j + 1 + k = omega arith in
    rw e (set_at R (j + 1) n rs k (omega arith) (omega arith))
