-- Both runs in the code's words: one own reference, a turn of the loop over a block's references, and a turn of the loop over the blocks of a part
-- of a path.
-- The idea: what is left, made from here, gives what all of it gives from the start.
use mathlib.Core.Path.{◌≡◌, refl, sym, ap, ap₂, ◌∙◌}
use mathlib.Core.Bool.{Bool, not, ◌&&◌}
use mathlib.Core.List.{List, [], ◌∷◌, ◌++◌}
use Prim.Native.Nat.{ℕ, ◌+◌, ◌*◌, ◌/◌, ◌<◌, ◌≤◌}
use native.Mathlib.Omega.{arith}
use lib.ListN.{length, drop}
use Rattle.cache.specs.Sum.{bit}
use Rattle.cache.specs.References.{number_at, numbers}
use Rattle.cache.specs.Cache.{Cache, hits}
use Rattle.cache.proofs.Sums.{bit_le}
use Rattle.model.specs.Tasks.{Task}
use Rattle.model.specs.Runs.{RowCount}
use Rattle.runs.specs.Running.{with_own, Both, both, CountsFit, with_both, own_both}
use Rattle.runs.specs.Parts.{part_at, PartIn}
use Rattle.runs.specs.declared.part.PathPoint.{PathPoint}
use Rattle.runs.proofs.CacheLaws.{next-number, no_number_lem}
use Rattle.runs.proofs.PartTurns.{part_left, part_made, part_end}

-- ---- the counts

-- each count grows by n at most
abbrev Adds : Both → Both → ℕ → Type 0
Adds s r n = (r.undisturbed.count ≤ s.undisturbed.count + n) × (r.disturbed.count ≤ s.disturbed.count + n) × (r.lost ≤ s.lost + n)

own-both_adds : (k : Cache) (ms : List ℕ) (s : Both) → Adds s (own_both k s ms) (length ms)
own-both_adds k [] s = (omega arith, omega arith, omega arith)
own-both_adds k (m ∷ ms) s =
    let a = own-both_adds k ms (with_both k s m) in (
      omega (arith, a.0, bit_le (not (hits k s.undisturbed.row m))),
      omega (arith, a.1, bit_le (not (hits k s.disturbed.row m))),
      omega (arith, a.2, bit_le (hits k s.undisturbed.row m && not (hits k s.disturbed.row m))),
    )

pub counts_less : (s : Both) (n : ℕ) {m : ℕ} → m ≤ n → CountsFit s n → CountsFit s m
counts_less s n l c = (omega (arith, c.0), omega (arith, c.1), omega (arith, c.2))

-- what is left of the room after references
pub counts_after : (k : Cache) (ms : List ℕ) (s r : Both) (n m : ℕ) → r ≡ own_both k s ms → length ms + m ≤ n → CountsFit s n → CountsFit r m
counts_after k ms s r n m e l c =
    let a = own-both_adds k ms s in (
      omega (arith, ap (λ (x : Both). x.undisturbed.count) e, a.0, c.0),
      omega (arith, ap (λ (x : Both). x.disturbed.count) e, a.1, c.1),
      omega (arith, ap (λ (x : Both). x.lost) e, a.2, c.2),
    )

-- ---- one own reference

-- the lost hits, by the two answers
pub lost-by : (l : ℕ) {u d b c : Bool} → u ≡ b → d ≡ c → l + bit (b && not c) ≡ l + bit (u && not d)
lost-by l eu ed = ap₂ (λ (x y : Bool). l + bit (x && not y)) (sym eu) (sym ed)

pub with_both-is : (k : Cache) (s : Both) (m : ℕ) {u d : RowCount} {l : ℕ} → u ≡ with_own k s.undisturbed m → d ≡ with_own k s.disturbed m
    → l ≡ s.lost + bit (hits k s.undisturbed.row m && not (hits k s.disturbed.row m)) → both u d l ≡ with_both k s m
with_both-is k s m {u} {d} {l} eu ed el = ap₂ (λ (x y : RowCount). both x y l) eu ed ∙ ap (both (with_own k s.undisturbed m) (with_own k s.disturbed m)) el

-- ---- references in a list of bytes

module _ (k : Cache) (s : List ℕ) (i : ℕ) (b : Both) where
  pub both_turn : {r : Both} {m : ℕ} → i < length s / 2 → m ≡ number_at s (2 * i) → r ≡ with_both k b m
      → own_both k r (drop (i + 1) (numbers s)) ≡ own_both k b (drop i (numbers s))
  both_turn h em en = ap (λ (x : Both). own_both k x (drop (i + 1) (numbers s))) en ∙ ap (own_both k b) (sym (next-number s i h em))

  pub both_end : length s / 2 ≤ i → b ≡ own_both k b (drop i (numbers s))
  both_end h = ap (own_both k b) (no_number_lem s i h)

-- ---- the blocks of a part of a path

own-both-append : (k : Cache) (a b : List ℕ) (s : Both) → own_both k s (a ++ b) ≡ own_both k (own_both k s a) b
own-both-append k [] b s = refl
own-both-append k (m ∷ a) b s = own-both-append k a b (with_both k s m)

module _ (k : Cache) (t : Task) (path : List ℕ) (from to : PathPoint) (x : ℕ) (b : Both) where
  -- the next block of the part
  pub both_part_turn : (bytes : List ℕ) {r : Both} → PartIn t path from to → from.position ≤ x → x ≤ to.position → numbers bytes ≡ part_at t path from to x
      → r ≡ own_both k b (numbers bytes) → own_both k r (part_left t path from to (x + 1)) ≡ own_both k b (part_left t path from to x)
  both_part_turn bytes h l u er en = part_made t path from to h x l u (own_both k) (own-both-append k) b bytes er en

  pub both_part_end : to.position + 1 ≤ x → b ≡ own_both k b (part_left t path from to x)
  both_part_end h = ap (own_both k b) (sym (part_end t path from to x h))
