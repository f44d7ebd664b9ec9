-- The checks over tasks in the code's words: a turn of the loop over bodies, and the answers of each check.
-- The idea: what is left of the bodies gives what the whole gives from the start.
use mathlib.Core.Path.{◌≡◌, sym, ap, ◌∙◌}
use mathlib.Core.Bool.{Bool, true, false}
use mathlib.Core.List.{List, ◌∷◌, map}
use Prim.Native.Nat.{ℕ, suc, ◌+◌, ◌-◌, ◌<◌}
use native.Mathlib.Numerals.{add-one}
use native.Mathlib.Omega.{arith}
use lib.ListN.{get_or, take, drop}
use Rattle.std.specs.Prelude.{Err}
use Rattle.project.specs.declared.answers.Check.{Check}
use Rattle.project.specs.Checklist.{refusal, lowest}
use Rattle.project.specs.Ends.{between}

-- ---- over bodies

abbrev pub part_at : List ℕ → List ℕ → ℕ → List ℕ
part_at s ends j = take (get_or ends (j + 1) 0 - get_or ends j 0) (drop (get_or ends j 0) s)

module _ (s ends : List ℕ) (count j : ℕ) (inside : j < count) where
  between_step : between s ends (count - j) j ≡ part_at s ends j ∷ between s ends (count - (j + 1)) (j + 1)
  between_step = let e : count - j ≡ suc (count - (j + 1)) = omega arith in rw (e, add-one j)

  pub lowest_pass : (c : Check) (test : List ℕ → Bool) → test (part_at s ends j) ≡ false
      → lowest c (j + 1) (map test (between s ends (count - (j + 1)) (j + 1))) ≡ lowest c j (map test (between s ends (count - j) j))
  lowest_pass c test h = sym (ap (λ l. lowest c j (map test l)) between_step ∙ rw (h, add-one j))

  pub lowest_fail : (c : Check) (test : List ℕ → Bool) → test (part_at s ends j) ≡ true → Err (refusal c j) ≡ lowest c j (map test (between s ends (count - j) j))
  lowest_fail c test h = sym (ap (λ l. lowest c j (map test l)) between_step ∙ rw h)

-- ---- one body
