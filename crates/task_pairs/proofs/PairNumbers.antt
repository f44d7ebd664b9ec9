-- The most over the points of a task, from gathered rows, and the end rows of another is the pair number: `pair-number`.
-- The idea: the rows are exactly those that paths make, at the points of unmasked blocks, and the pair number is the one number that bounds what they
-- count and is attained.
use mathlib.Core.Path.{◌≡◌, refl, sym, ap, ◌∙◌}
use mathlib.Core.Logic.{◌⊎◌, inl, inr}
use mathlib.Core.Bool.{Bool, true, false, cond}
use mathlib.Core.List.{List}
use Prim.Native.Nat.{ℕ, zero, suc, ◌+◌, ◌≤◌, ◌<◌, max}
use native.Mathlib.Nat.{not-suc-le-zero, le_trans, zero-add, add-zero}
use native.Mathlib.Omega.{arith}
use lib.Dec.{eqb, ltb}
use lib.ListN.{length, take, drop}
use lib.Bits.{bit_and}
use lib.Count.{ones}
use borrow.Author.Tests.{eqb-true, ltb-true, ltb-false}
use Rattle.cache.specs.References.{Real, All}
use Rattle.cache.specs.Cache.{Cache, empty_row, with_references}
use Rattle.cache.specs.Firsts.{firsts_over}
use Rattle.cache.specs.Sets.{useful_replaced}
use Rattle.cache.proofs.Rows.{length-empty_row, length-with_references}
use Rattle.model.specs.Lists.{mem, best}
use Rattle.model.specs.Tasks.{Task, block, Unmasked, Allows, end, references, memory_blocks}
use Rattle.model.specs.States.{Reaches, Lives}
use Rattle.model.specs.Numbers.{Rows, counted}
use Rattle.model.specs.Computed.{same_list, sorted, reaching, living, dones, unmasked, pair_number}
use Rattle.model.proofs.Membership.{eqb_self, same_list_self, same_list_true}
use Rattle.model.proofs.Sorted.{sorted_has, sorted_only, reaching-rows, living-rows}
use Rattle.model.proofs.Entering.{Enters, dones_exact, at_point, live_point, point_before, point_after_lem, point_inside}
use Rattle.model.proofs.Most.{best_le, best-attained, most_unique, unmasked_exact, pair_is}
use Rattle.model.proofs.Policies.{lives-long}
use Rattle.body.proofs.BlockParts.{all_drop}
use Rattle.graphs.proofs.Listed.{block-real}
use Rattle.rows.specs.Overlay.{overlay}
use Rattle.points.specs.Points.{rest_of, predecessors_of, rows_before}
use Rattle.points.proofs.Rests.{overlay-rest}
use Rattle.points.proofs.Before.{before_exact}
use Rattle.row_sets.specs.Sets.{useful_set, replaced_set, replaced_sets}
use Rattle.pairs.specs.Pairs.{most_common}
use Rattle.row_sets.proofs.ReplacedSets.{counts_as}
use Rattle.pairs.proofs.Bounds.{over_ends_lem}
use Rattle.task_pairs.specs.TaskPairs.{done_most, before_most, block_most, task_most}

-- ---- the largest over the blocks of a task

module _ (k : Cache) (t : Task) (rs ls : ℕ → List (List ℕ)) (fs : List (List ℕ)) where
  abbrev most_at : ℕ → ℕ
  most_at b = cond (unmasked t b) (block_most k (block t b).references (ls b) (rows_before k (length t) (predecessors_of t b) rs b) fs) 0

  task_le : (left b c : ℕ) → c < left → most_at (b + c) ≤ task_most k t rs ls left b fs
  task_le zero b c h = absurd (not-suc-le-zero h)
  task_le (suc left) b zero h = let e = ap most_at (add-zero b) in omega (arith, e)
  task_le (suc left) b (suc c) h =
      let z : suc b + c ≡ b + suc c = omega arith in
      let e = ap most_at z in
      omega (arith, e, task_le left (suc b) c (omega arith))

  task-attained : (left b : ℕ) → (task_most k t rs ls left b fs ≡ 0) ⊎ ((c : ℕ) × (c < b + left) × (most_at c ≡ task_most k t rs ls left b fs))
  task-attained zero b = inl refl
  task-attained (suc left) b = go (ltb (task_most k t rs ls left (suc b) fs) (most_at b)) refl (task-attained left (suc b))
    where
      later : ℕ
      later = task_most k t rs ls left (suc b) fs

      go : (x : Bool) → ltb later (most_at b) ≡ x → (later ≡ 0) ⊎ ((c : ℕ) × (c < suc b + left) × (most_at c ≡ later))
          → (max (most_at b) later ≡ 0) ⊎ ((c : ℕ) × (c < b + suc left) × (most_at c ≡ max (most_at b) later))
      go true e ih = inr (b, omega arith, omega (arith, ltb-true later (most_at b) e))
      go false e (inl z) = inl (omega (arith, ltb-false later (most_at b) e))
      go false e (inr (c, h, q)) = inr (c, omega (arith, h), omega (arith, q, ltb-false later (most_at b) e))

-- ---- the number

module _ (k : Cache) (i j : Task) (rs ls : ℕ → List (List ℕ)) (fs : List (List ℕ)) (few : length i ≤ 24) (real : All Real (memory_blocks i))
    (reached : (b : ℕ) → b < length i → sorted (rs b) ≡ reaching k i b) (lived : (b : ℕ) → b < length i → sorted (ls b) ≡ living k i b)
    (ended : sorted fs ≡ reaching k j (end j)) where
  abbrev number : ℕ
  number = task_most k i rs ls (length i) 0 fs

  abbrev refs : ℕ → List ℕ
  refs b = (block i b).references

  abbrev before : ℕ → List (List ℕ)
  before b = rows_before k (length i) (predecessors_of i b) rs b

  -- the reaching and the live row of a point of the block b, from a row before it and a live row of it
  abbrev done_row : ℕ → ℕ → List ℕ → List ℕ
  done_row b d e = with_references k e (take d (refs b))

  abbrev left_row : ℕ → ℕ → List ℕ → List ℕ
  left_row b d l = overlay l (rest_of k (refs b) d)

  abbrev value : ℕ → ℕ → List ℕ → List ℕ → List ℕ → ℕ
  value b d e l f = ones (bit_and (useful_set (done_row b d e) (left_row b d l)) (replaced_set f (done_row b d e)))

  abbrev over_ends : ℕ → ℕ → List ℕ → List ℕ → ℕ
  over_ends b d e l = most_common (useful_set (done_row b d e) (left_row b d l)) (replaced_sets (done_row b d e) fs)

  ends-best : (b d : ℕ) (e l : List ℕ) → over_ends b d e l ≡ best (value b d e l) fs
  ends-best b d e l = over_ends_lem (useful_set (done_row b d e) (left_row b d l)) (done_row b d e) fs

  enters-long : (b : ℕ) (e : List ℕ) → Enters k i b e → length e ≡ k.width
  enters-long b e (before, p, q) = ap length q ∙ length-with_references k (references i before) (empty_row k) (length-empty_row k)

  left_is : (b d : ℕ) (l : List ℕ) → Lives k i b l → left_row b d l ≡ firsts_over k (drop d (refs b)) l
  left_is b d l h = overlay-rest k (drop d (refs b)) l (lives-long k i b l h) (all_drop Real d (refs b) (block-real i real b))

  value_is : (b d : ℕ) (e l f : List ℕ) → Enters k i b e → Lives k i b l
      → value b d e l f ≡ useful_replaced k (done_row b d e) (firsts_over k (drop d (refs b)) l) f
  value_is b d e l f he hl =
      counts_as k (done_row b d e) (left_row b d l) f (length-with_references k (take d (refs b)) e (enters-long b e he))
      ∙ ap (λ (x : List ℕ). useful_replaced k (done_row b d e) x f) (left_is b d l hl)

  at-unmasked : (b : ℕ) → unmasked i b ≡ true → most_at k i rs ls fs b ≡ block_most k (refs b) (ls b) (before b) fs
  at-unmasked b u = ap (λ (s : Bool). cond s (block_most k (refs b) (ls b) (before b) fs) 0) u

  rows_le : (b d : ℕ) (e l f : List ℕ) → b < length i → Allows i b d → Enters k i b e → Lives k i b l → Reaches k j (end j) f → value b d e l f ≤ number
  rows_le b d e l f inside at he hl hf =
      let e-in = (before_exact k i few rs reached b inside e).1 he in
      let l-in = sorted_only (ls b) l (rw (lived b inside) ((living-rows k i b l).1 hl)) in
      let f-in = sorted_only fs f (rw ended ((reaching-rows k j (end j) f).1 hf)) in
      let d-in = (dones_exact (refs b) d).1 at.1 in
      let one : value b d e l f ≤ over_ends b d e l = rw (ends-best b d e l) (best_le same_list same_list_self same_list_true (value b d e l) f fs f-in) in
      let two = best_le same_list same_list_self same_list_true (over_ends b d e) l (ls b) l-in in
      let three = best_le eqb eqb_self eqb-true (done_most k (refs b) (ls b) e fs) d (dones (refs b)) d-in in
      let four = best_le same_list same_list_self same_list_true (λ (y : List ℕ). before_most k (refs b) (ls b) y fs) e (before b) e-in in
      let five : block_most k (refs b) (ls b) (before b) fs ≤ number
      = rw (zero-add b, at-unmasked b ((unmasked_exact i b).1 at.0)) at (task_le k i rs ls fs (length i) 0 b inside) in
      le_trans one (le_trans two (le_trans three (le_trans four five)))

  bound : (x : Rows k i j) → Allows i x.at x.done → counted (useful_replaced k) x ≤ number
  bound x at =
      let b = point_before k i x.at x.done x.reaching x.reaches in
      let a = point_after_lem k i x.at x.done x.live x.lives in
      let inside = point_inside k i x.at x.done x.reaching x.reaches in
      same_rows x.reaching x.live x.ending _ _ b.same a.same
      (rw (← value_is x.at x.done b.before a.after x.ending b.enters a.lives)
      (rows_le x.at x.done b.before a.after x.ending inside at b.enters a.lives x.ends))
    where
      same_rows : (r l f r' l' : List ℕ) → r ≡ r' → l ≡ l' → useful_replaced k r' l' f ≤ number → useful_replaced k r l f ≤ number
      same_rows r l f r' l' er el h = rw (er, el) h

  abbrev Attained : Type 0
  Attained = (number ≡ 0) ⊎ ((x : Rows k i j) × Allows i x.at x.done × (counted (useful_replaced k) x ≡ number))

  attained-ends : (b d : ℕ) (e l : List ℕ) → Allows i b d → Enters k i b e → Lives k i b l → over_ends b d e l ≡ number
      → (best (value b d e l) fs ≡ 0) ⊎ ((f : List ℕ) × (mem same_list f fs ≡ true) × (value b d e l f ≡ best (value b d e l) fs)) → Attained
  attained-ends b d e l at he hl q (inl z) = inl (sym q ∙ ends-best b d e l ∙ z)
  attained-ends b d e l at he hl q (inr (f, p, v)) =
      inr (
        record {
          at = b;
          done = d;
          reaching = done_row b d e;
          live = firsts_over k (drop d (refs b)) l;
          ending = f;
          reaches = at_point k i b d e he;
          lives = live_point k i b d l hl;
          ends = (reaching-rows k j (end j) f).0 (rw (← ended) (sorted_has fs f p));
        },
        at,
        sym (value_is b d e l f he hl) ∙ v ∙ sym (ends-best b d e l) ∙ q,
      )

  attained-live : (b d : ℕ) (e : List ℕ) → b < length i → Allows i b d → Enters k i b e → done_most k (refs b) (ls b) e fs d ≡ number
      → (done_most k (refs b) (ls b) e fs d ≡ 0) ⊎ ((l : List ℕ) × (mem same_list l (ls b) ≡ true) × (over_ends b d e l ≡ done_most k (refs b) (ls b) e fs d)) → Attained
  attained-live b d e inside at he q (inl z) = inl (sym q ∙ z)
  attained-live b d e inside at he q (inr (l, p, v)) =
      attained-ends b d e l at he ((living-rows k i b l).0 (rw (← lived b inside) (sorted_has (ls b) l p))) (v ∙ q)
      (best-attained same_list same_list_self same_list_true (value b d e l) fs)

  attained-done : (b : ℕ) (e : List ℕ) → b < length i → Unmasked i b → Enters k i b e → before_most k (refs b) (ls b) e fs ≡ number
      → (before_most k (refs b) (ls b) e fs ≡ 0)
      ⊎ ((d : ℕ) × (mem eqb d (dones (refs b)) ≡ true) × (done_most k (refs b) (ls b) e fs d ≡ before_most k (refs b) (ls b) e fs)) → Attained
  attained-done b e inside free he q (inl z) = inl (sym q ∙ z)
  attained-done b e inside free he q (inr (d, p, v)) =
      attained-live b d e inside (free, (dones_exact (refs b) d).0 p) he (v ∙ q) (best-attained same_list same_list_self same_list_true (over_ends b d e) (ls b))

  attained-before : (b : ℕ) → b < length i → Unmasked i b → block_most k (refs b) (ls b) (before b) fs ≡ number
      → (block_most k (refs b) (ls b) (before b) fs ≡ 0)
      ⊎ ((e : List ℕ) × (mem same_list e (before b) ≡ true) × (before_most k (refs b) (ls b) e fs ≡ block_most k (refs b) (ls b) (before b) fs)) → Attained
  attained-before b inside free q (inl z) = inl (sym q ∙ z)
  attained-before b inside free q (inr (e, p, v)) =
      attained-done b e inside free ((before_exact k i few rs reached b inside e).0 p) (v ∙ q)
      (best-attained eqb eqb_self eqb-true (done_most k (refs b) (ls b) e fs) (dones (refs b)))

  attained-block : (b : ℕ) → b < length i → (s : Bool) → unmasked i b ≡ s → cond s (block_most k (refs b) (ls b) (before b) fs) 0 ≡ number → Attained
  attained-block b inside true u q =
      attained-before b inside ((unmasked_exact i b).0 u) q
      (best-attained same_list same_list_self same_list_true (λ (e : List ℕ). before_most k (refs b) (ls b) e fs) (before b))
  attained-block b inside false u q = inl (sym q)

  attained : Attained
  attained = go (task-attained k i rs ls fs (length i) 0)
    where
      go : (number ≡ 0) ⊎ ((b : ℕ) × (b < 0 + length i) × (most_at k i rs ls fs b ≡ number)) → Attained
      go (inl z) = inl z
      go (inr (b, h, q)) = attained-block b (omega (arith, h)) (unmasked i b) refl q

  pub pair-number : task_most k i rs ls (length i) 0 fs ≡ pair_number k i j
  pair-number = most_unique (useful_replaced k) k i j (Allows i) number (pair_number k i j) (record { bound = bound; attained = attained }) (pair_is k i j)
