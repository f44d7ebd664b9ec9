-- Table's check 11 is the same for rows of every width: `uncovered11_wide`.
-- The idea: the rows of paths in wider rows are those of the cache with n places with nothings after them, which cover each other just where those do.
use mathlib.Core.Path.{◌≡◌, refl, sym, ap, ap₂, ◌∙◌}
use mathlib.Core.Logic.{inl, inr, ◌↔◌}
use mathlib.Core.Bool.{Bool, true, not, ◌&&◌}
use mathlib.Core.List.{List, [], ◌∷◌, ◌++◌}
use Prim.Native.Nat.{ℕ, ◌+◌, ◌-◌, ◌≤◌, ◌<◌}
use native.Mathlib.Omega.{arith}
use lib.ListN.{length, take, replicate}
use Rattle.cache.specs.References.{nothing}
use Rattle.cache.specs.Cache.{wide, direct, empty_row, with_references, first_references}
use Rattle.cache.proofs.Rows.{length-empty_row, length-with_references, length-firsts_over, first_references_fold}
use Rattle.model.specs.Tasks.{Task, references}
use Rattle.model.specs.States.{ThirtyThree}
use Rattle.model.specs.Computed.{same_list}
use Rattle.model.proofs.Membership.{same_list_self}
use Rattle.model.proofs.Wider.{run_row, next_row}
use Rattle.model.proofs.Width.{wider}
use Rattle.covered.specs.Covered.{within, covered_by, Uncovered, ReachesBy, LivesBy, UncoveredFault11}
use Rattle.covered.specs.Rounds.{uncovered_test11}
use Rattle.covered.proofs.Order.{within_self}
use Rattle.covered.proofs.Many.{image_33}
use Rattle.covered.proofs.Check.{uncovered11_exact}

within-after : (r s z : List ℕ) → length r ≡ length s → within (r ++ z) (s ++ z) ≡ within r s
within-after [] [] z e = within_self z
within-after [] (y ∷ s) z e = absurd (omega arith)
within-after (x ∷ r) [] z e = absurd (omega arith)
within-after (x ∷ r) (y ∷ s) z e = rw (within-after r s z (omega arith))

same_after : (r s z : List ℕ) → length r ≡ length s → same_list (r ++ z) (s ++ z) ≡ same_list r s
same_after [] [] z e = same_list_self z
same_after [] (y ∷ s) z e = absurd (omega arith)
same_after (x ∷ r) [] z e = absurd (omega arith)
same_after (x ∷ r) (y ∷ s) z e = rw (same_after r s z (omega arith))

covered_after : (r s z : List ℕ) → length r ≡ length s → covered_by (r ++ z) (s ++ z) ≡ covered_by r s
covered_after r s z e = ap₂ (λ (a b : Bool). a && not b) (within-after r s z e) (same_after r s z e)

take-first : (r z : List ℕ) → take (length r) (r ++ z) ≡ r
take-first [] z = refl
take-first (x ∷ r) z = ap (λ (l : List ℕ). x ∷ l) (take-first r z)

module _ (n : ℕ) (pos : 0 < n) (d : ℕ) where
  abbrev pad : List ℕ → List ℕ
  pad r = r ++ replicate d nothing

  -- rows of n places, and the same with d nothings after them
  module _ (P Q : List ℕ → Type 0) (long : (r : List ℕ) → P r → length r ≡ n) (to : (r : List ℕ) → P r → Q (pad r))
      (from : (r : List ℕ) → Q r → (s : List ℕ) × P s × (r ≡ pad s)) where
    inner : (s : List ℕ) → P s → take n (pad s) ≡ s
    inner s p = ap (λ (m : ℕ). take m (pad s)) (sym (long s p)) ∙ take-first s (replicate d nothing)

    uncovered_to : (r : List ℕ) → Uncovered P r → Uncovered Q (pad r)
    uncovered_to r u = (to r u.0, λ s q c. let (s', p, e) = from s q in u.1 s' p (sym (covered_after r s' (replicate d nothing) (long r u.0 ∙ sym (long s' p))) ∙ at_pad s s' e c))
      where
        at_pad : (s s' : List ℕ) → s ≡ pad s' → covered_by (pad r) s ≡ true → covered_by (pad r) (pad s') ≡ true
        at_pad s s' e c = rw e at c

    uncovered_from : (r : List ℕ) → Uncovered Q r → (s : List ℕ) × Uncovered P s × (r ≡ pad s)
    uncovered_from r u =
        let (s, p, e) = from r u.0 in
        (s, (p, λ x q c. u.1 (pad x) (to x q) (at_pad s x e (covered_after s x (replicate d nothing) (long s p ∙ sym (long x q)) ∙ c))), e)
      where
        at_pad : (s x : List ℕ) → r ≡ pad s → covered_by (pad s) (pad x) ≡ true → covered_by r (pad x) ≡ true
        at_pad s x e c = rw e c

    pub wider_33 : ThirtyThree (Uncovered P) → ThirtyThree (Uncovered Q)
    wider_33 = image_33 (Uncovered P) (Uncovered Q) (λ r. pad r) uncovered_to
        (λ r s u v e. sym (inner r u.0) ∙ ap (take n) e ∙ inner s v.0)

    pub narrower_33 : ThirtyThree (Uncovered Q) → ThirtyThree (Uncovered P)
    narrower_33 = image_33 (Uncovered Q) (Uncovered P) (λ r. take n r)
        (λ r u. let (s, v, e) = uncovered_from r u in taken r s v e)
        (λ r s u v e. let (r', p, a) = uncovered_from r u in let (s', q, b) = uncovered_from s v in
        a ∙ ap pad (sym (inner r' p.0) ∙ ap (take n) (sym a) ∙ e ∙ ap (take n) b ∙ inner s' q.0) ∙ sym b)
      where
        taken : (r s : List ℕ) → Uncovered P s → r ≡ pad s → Uncovered P (take n r)
        taken r s v e = rw (e, inner s v.0) v

  module _ (t : Task) (k b : ℕ) where
    reaches-long : (r : List ℕ) → ReachesBy (direct n) t k b r → length r ≡ n
    reaches-long r (p, w, l, e) = ap length e ∙ length-with_references (direct n) (references t (0 ∷ p)) (empty_row (direct n)) (length-empty_row (direct n))

    reaches_to : (r : List ℕ) → ReachesBy (direct n) t k b r → ReachesBy (wide (n + d) n) t k b (pad r)
    reaches_to r (p, w, l, e) = (p, w, l, ap pad e ∙ sym (run_row (wider n pos d) (references t (0 ∷ p))))

    reaches-from : (r : List ℕ) → ReachesBy (wide (n + d) n) t k b r → (s : List ℕ) × ReachesBy (direct n) t k b s × (r ≡ pad s)
    reaches-from r (p, w, l, e) = (with_references (direct n) (empty_row (direct n)) (references t (0 ∷ p)), (p, w, l, refl), e ∙ run_row (wider n pos d) (references t (0 ∷ p)))

    lives-long : (r : List ℕ) → LivesBy (direct n) t k b r → length r ≡ n
    lives-long r (p, w, l, e) =
        ap length (e ∙ first_references_fold (direct n) (references t p)) ∙ length-firsts_over (direct n) (references t p) (empty_row (direct n)) (length-empty_row (direct n))

    lives_to : (r : List ℕ) → LivesBy (direct n) t k b r → LivesBy (wide (n + d) n) t k b (pad r)
    lives_to r (p, w, l, e) = (p, w, l, ap pad e ∙ sym (next_row (wider n pos d) (references t p)))

    lives-from : (r : List ℕ) → LivesBy (wide (n + d) n) t k b r → (s : List ℕ) × LivesBy (direct n) t k b s × (r ≡ pad s)
    lives-from r (p, w, l, e) = (first_references (direct n) (references t p), (p, w, l, refl), e ∙ next_row (wider n pos d) (references t p))

  fault_wider : (t : Task) → UncoveredFault11 (wide (n + d) n) t ↔ UncoveredFault11 (direct n) t
  fault_wider t = (
    λ f. elim f [
      | inl (k, b, h, x) ↦ inl (k, b, h, narrower_33 (ReachesBy (direct n) t k b) (ReachesBy (wide (n + d) n) t k b) (reaches-long t k b) (reaches_to t k b) (reaches-from t k b) x)
      | inr (k, b, h, x) ↦ inr (k, b, h, narrower_33 (LivesBy (direct n) t k b) (LivesBy (wide (n + d) n) t k b) (lives-long t k b) (lives_to t k b) (lives-from t k b) x)
    ],
    λ f. elim f [
      | inl (k, b, h, x) ↦ inl (k, b, h, wider_33 (ReachesBy (direct n) t k b) (ReachesBy (wide (n + d) n) t k b) (reaches-long t k b) (reaches_to t k b) (reaches-from t k b) x)
      | inr (k, b, h, x) ↦ inr (k, b, h, wider_33 (LivesBy (direct n) t k b) (LivesBy (wide (n + d) n) t k b) (lives-long t k b) (lives_to t k b) (lives-from t k b) x)
    ],
  )

-- the test, in rows of w places, is the fault of the cache with a place for each cache block
pub uncovered11_wide : (w n : ℕ) → 0 < n → n ≤ w → (t : Task) → (uncovered_test11 (wide w n) t ≡ true) ↔ UncoveredFault11 (direct n) t
uncovered11_wide w n pos h t =
    let e : w ≡ n + (w - n) = omega arith in
    rw e (
      (λ q. (fault_wider n pos (w - n) t).0 ((uncovered11_exact (wide (n + (w - n)) n) t).0 q)),
      (λ f. (uncovered11_exact (wide (n + (w - n)) n) t).1 ((fault_wider n pos (w - n) t).1 f)),
    )
