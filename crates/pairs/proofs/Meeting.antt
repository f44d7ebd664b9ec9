-- Rows that are met by end rows: the most in common, and the numbers after one point and after more points.
-- A number is the largest so far, and the largest over more points is the larger of two largest.
use mathlib.Core.Path.{◌≡◌, refl, sym, ap, ◌∙◌}
use mathlib.Core.Bool.{Bool, true, false}
use mathlib.Core.List.{List, [], ◌∷◌}
use Prim.Native.Nat.{ℕ, ◌+◌, ◌^◌, ◌≤◌, ◌<◌, max}
use native.Mathlib.Nat.{le_trans}
use native.Mathlib.Omega.{arith}
use lib.Dec.{eqb}
use lib.ListN.{length, get_or, set, length-set}
use lib.Seq.{get_or-set_same, get_or-set_other}
use lib.Count.{ones, ones-le}
use borrow.Author.Tests.{eqb-true, eqb-false}
use Rattle.cache.proofs.Bits.{and_ones}
use Rattle.pairs.specs.Pairs.{most_common, end_rows, Met}
use Rattle.pairs.specs.declared.ends.Ends.{Ends}

pub most_ones : (u : ℕ) (vs : List ℕ) → u < 2 ^ 32 → most_common u vs ≤ ones u
most_ones u [] h = omega arith
most_ones u (v ∷ vs) h = omega (arith, and_ones 32 u v h, most_ones u vs h)

pub most-few : (u : ℕ) (vs : List ℕ) → u < 2 ^ 32 → most_common u vs ≤ 32
most-few u vs h = le_trans (most_ones u vs h) (ones-le 32 u h)

-- ---- the numbers

module _ (ends : Ends) where
  -- none is met yet: by no task, and at no point
  pub met_start : (most : List (List ℕ) → ℕ) (old : List ℕ) → Met most ends 0 old old
  met_start most old = record { long = refl; each = λ j h. absurd (omega arith); rest = λ j h. refl }

  pub met_none : (most : List (List ℕ) → ℕ) (tasks : ℕ) (old : List ℕ) → ((fs : List (List ℕ)) → most fs ≡ 0) → Met most ends tasks old old
  met_none most tasks old z = record { long = refl; each = λ j h. omega (arith, z (end_rows ends j)); rest = λ j h. refl }

  -- one task more: the number at j becomes the larger, and the others stay
  pub met_turn : (most : List (List ℕ) → ℕ) (j : ℕ) (old now : List ℕ) {x : ℕ} → Met most ends j old now → j < length now
      → x ≡ max (get_or now j 0) (most (end_rows ends j)) → Met most ends (j + 1) old (set now j x)
  met_turn most j old now {x} so_far l is =
      record {
        long = length-set now j x ∙ so_far.long;
        each = λ i h. go i h (eqb i j) refl;
        rest = λ i h. get_or-set_other now j i x 0 (λ e. absurd (omega arith)) ∙ so_far.rest i (omega arith);
      }
    where
      go : (i : ℕ) → i < j + 1 → (b : Bool) → eqb i j ≡ b → get_or (set now j x) i 0 ≡ max (get_or old i 0) (most (end_rows ends i))
      go i h true q = rw (eqb-true i j q) (omega (arith, get_or-set_same now j x 0 l, so_far.rest j (omega arith)))
      go i h false q =
          let d = eqb-false i j q in
          get_or-set_other now j i x 0 d ∙ so_far.each i (omega arith)

  -- the same most, written otherwise
  pub met_same : {a b : List (List ℕ) → ℕ} (tasks : ℕ) {n n' : List ℕ} → ((fs : List (List ℕ)) → b fs ≡ a fs) → Met a ends tasks n n' → Met b ends tasks n n'
  met_same tasks {n} e p =
      record { long = p.long; each = λ j h. p.each j h ∙ ap (max (get_or n j 0)) (sym (e (end_rows ends j))); rest = p.rest }

  module _ (tasks : ℕ) {n n' n'' : List ℕ} where
    -- points after points
    pub met_more : {a b : List (List ℕ) → ℕ} (all : List (List ℕ) → ℕ) → ((fs : List (List ℕ)) → all fs ≡ max (a fs) (b fs)) → Met a ends tasks n n'
        → Met b ends tasks n' n'' → Met all ends tasks n n''
    met_more all e p q =
        record {
          long = q.long ∙ p.long;
          each = λ j h. omega (arith, p.each j h, q.each j h, e (end_rows ends j));
          rest = λ j h. q.rest j h ∙ p.rest j h;
        }
