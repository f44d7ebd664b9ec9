-- The jump sets of a task turned round are its sets of predecessors.
-- The idea: a block that is not there has no successors, and is no successor.
use mathlib.Core.Path.{◌≡◌, refl, sym, ap, ap₂, ◌∙◌}
use mathlib.Core.Bool.{Bool, false}
use mathlib.Core.List.{List, ◌∷◌, ◌++◌}
use Prim.Native.Nat.{ℕ, zero, suc, ◌+◌, ◌-◌, ◌≤◌, ◌<◌}
use native.Mathlib.Nat.{suc-add, zero-add}
use native.Mathlib.Omega.{arith}
use lib.Dec.{eqb}
use lib.ListN.{length, get_or, replicate}
use Rattle.cache.specs.Cache.{row_from}
use Rattle.cache.specs.Sets.{bits, in_set}
use Rattle.cache.proofs.Masks.{bits_cong, bits_none}
use Rattle.model.specs.Lists.{mem}
use Rattle.model.specs.Tasks.{Task, block}
use Rattle.model.proofs.Paths.{successor_below}
use Rattle.body.specs.Layout.{InBounds}
use Rattle.body.specs.Jumps.{jump_sets}
use Rattle.body.proofs.JumpLaws.{jump_at, jumps-inside}
use Rattle.gather.proofs.Distinct.{not_true}
use Rattle.graphs.specs.Graphs.{predecessor_set, predecessor_sets}
use Rattle.body.specs.Turned.{leading_to, turned}
use Rattle.graphs.proofs.Listed.{in_set_of}

-- a wider set has the same members where none is added
wider : (w k : ℕ) (P : ℕ → Bool) → ((c : ℕ) → w ≤ c → P c ≡ false) → bits (k + w) P ≡ bits w P
unfolding bits
wider w zero P h = ap (λ i. bits i P) (zero-add w)
wider w (suc k) P h = ap (λ i. bits i P) (suc-add k w) ∙ rw (h (k + w) (omega arith)) (omega (arith, wider w k P h))

-- the sets of the blocks that are there, and zeros for the others
listed : (t : Task) (f : ℕ → ℕ) (s w k : ℕ) → ((i : ℕ) → s ≤ i → i < s + w → predecessor_set t i ≡ f i) → ((i : ℕ) → s + w ≤ i → predecessor_set t i ≡ 0)
    → predecessor_sets t (w + k) s ≡ row_from s w f ++ replicate k 0
listed t f s zero zero h z = refl
listed t f s zero (suc k) h z =
    rw (zero-add (suc k)) (ap₂ (λ x l. x ∷ l) (z s (omega arith)) (ap (λ i. predecessor_sets t i (suc s)) (sym (zero-add k)) ∙ listed t f (suc s) zero k (λ i l m. h i (omega arith) (omega arith)) (λ i l. z i (omega arith))))
listed t f s (suc w) k h z =
    rw (suc-add w k) (ap₂ (λ x l. x ∷ l) (h s (omega arith) (omega arith)) (listed t f (suc s) w k (λ i l m. h i (omega arith) (omega arith)) (λ i l. z i (omega arith))))

pub turned_predecessors : (t : Task) (blocks : ℕ) (sets : List ℕ) → InBounds t → length t ≡ blocks → sets ≡ jump_sets t → turned sets blocks ≡ predecessor_sets t 24 0
turned_predecessors t blocks sets bounds e q =
    let all : blocks + (24 - blocks) ≡ 24 = omega (arith, bounds.few) in
    sym (listed t (leading_to sets blocks) 0 blocks (24 - blocks) (λ i l m. here i (omega arith)) (λ i l. none i (omega arith))) ∙ ap (λ k. predecessor_sets t k 0) all
  where
    leads : (i b : ℕ) → i < blocks → b < blocks → mem eqb i (block t b).successors ≡ in_set (get_or sets b 0) i
    leads i b hi hb =
        sym (ap (λ l. in_set (get_or l b 0) i) q ∙ ap (λ x. in_set x i) (jump_at t (replicate (24 - length t) 0) b (omega arith)) ∙ in_set_of (block t b).successors i (omega (arith, bounds.few)))

    here : (i : ℕ) → i < blocks → predecessor_set t i ≡ leading_to sets blocks i
    here i hi =
        let P : ℕ → Bool = λ b. mem eqb i (block t b).successors in
        let all : 24 ≡ (24 - blocks) + blocks = omega (arith, bounds.few) in
        ap (λ k. bits k P) all
        ∙ wider blocks (24 - blocks) P (λ b l. not_true (P b) (λ m. absurd (omega (arith, successor_below t b i m))))
        ∙ bits_cong blocks P (λ b. in_set (get_or sets b 0) i) (λ b l. leads i b hi l)

    none : (i : ℕ) → blocks ≤ i → predecessor_set t i ≡ 0
    none i hi =
        let P : ℕ → Bool = λ b. mem eqb i (block t b).successors in
        bits_none 24 P (λ b l. not_true (P b) (λ m. absurd (omega (arith, jumps-inside t bounds b i m))))
