-- A row of a wider cache, cut off, is the row of a narrower one: for every number of cache blocks and every two widths that hold them.
-- Both are the row of n places with nothings after it.
use mathlib.Core.Path.{◌≡◌, refl, sym, ap, ◌∙◌}
use mathlib.Core.List.{List, [], ◌∷◌, ◌++◌}
use Prim.Native.Nat.{ℕ, zero, suc, ◌+◌, ◌-◌, ◌≤◌, ◌<◌}
use native.Mathlib.Nat.{zero-add, suc-add}
use native.Mathlib.Omega.{arith}
use lib.ListN.{length, take, replicate}
use Rattle.cache.specs.References.{nothing}
use Rattle.cache.specs.Cache.{wide, direct, empty_row, with_references, first_references}
use Rattle.cache.proofs.Rows.{length-empty_row, length-with_references, length-firsts_over, first_references_fold}
use Rattle.model.proofs.Wider.{run_row, next_row}
use Rattle.model.proofs.Width.{wider}

pub take_replicate : (w d : ℕ) (x : ℕ) → w ≤ d → take w (replicate d x) ≡ replicate w x
take_replicate zero d x h = refl
take_replicate (suc w) zero x h = absurd (omega arith)
take_replicate (suc w) (suc d) x h = ap (λ (l : List ℕ). x ∷ l) (take_replicate w d x (omega arith))

cut : (row : List ℕ) (e d : ℕ) → e ≤ d → take (length row + e) (row ++ replicate d nothing) ≡ row ++ replicate e nothing
cut [] e d h = rw (zero-add e) (take_replicate e d nothing h)
cut (x ∷ row) e d h = rw (suc-add (length row) e) (ap (λ (l : List ℕ). x ∷ l) (cut row e d h))

module _ (n w v : ℕ) (pos : 0 < n) (h : n ≤ w) (l : w ≤ v) where
  same : (row a b : List ℕ) → length row ≡ n → a ≡ row ++ replicate (v - n) nothing → b ≡ row ++ replicate (w - n) nothing → take w a ≡ b
  same row a b e qa qb =
      let f : w ≡ length row + (w - n) = omega arith in
      ap (take w) qa ∙ ap (λ (k : ℕ). take k (row ++ replicate (v - n) nothing)) f ∙ cut row (w - n) (v - n) (omega arith) ∙ sym qb

  pub narrower_last : (ms : List ℕ) → take w (with_references (wide v n) (empty_row (wide v n)) ms) ≡ with_references (wide w n) (empty_row (wide w n)) ms
  narrower_last ms =
      let ew : n + (w - n) ≡ w = omega arith in
      let ev : n + (v - n) ≡ v = omega arith in
      same (with_references (direct n) (empty_row (direct n)) ms) _ _ (length-with_references (direct n) ms (empty_row (direct n)) (length-empty_row (direct n)))
      (rw ev at (run_row (wider n pos (v - n)) ms)) (rw ew at (run_row (wider n pos (w - n)) ms))

  pub narrower_first : (ms : List ℕ) → take w (first_references (wide v n) ms) ≡ first_references (wide w n) ms
  narrower_first ms =
      let ew : n + (w - n) ≡ w = omega arith in
      let ev : n + (v - n) ≡ v = omega arith in
      same (first_references (direct n) ms) _ _ (ap length (first_references_fold (direct n) ms) ∙ length-firsts_over (direct n) ms (empty_row (direct n)) (length-empty_row (direct n)))
      (rw ev at (next_row (wider n pos (v - n)) ms)) (rw ew at (next_row (wider n pos (w - n)) ms))
