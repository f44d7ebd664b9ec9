-- For two tasks that share no memory block the counts before and since document 02, Point 5 give the same pair number: `old_number`; and so they do over
-- the ends of blocks alone: `old_at_ends`.
-- The idea: the live row holds the one task's memory blocks only and the end row the other's; so what is used is replaced.
use mathlib.Core.Path.{◌≡◌, refl}
use mathlib.Core.Logic.{◌⊎◌, inl, inr}
use mathlib.Core.Bool.{Bool, true, false}
use mathlib.Core.List.{List, [], ◌∷◌, ◌++◌}
use Prim.Native.Nat.{ℕ, zero, suc, ◌<◌}
use lib.Dec.{eqb}
use lib.ListN.{length, drop}
use borrow.Author.Tests.{eqb-true}
use Rattle.cache.specs.References.{All}
use Rattle.cache.specs.Cache.{Cache, empty_row, with_references, first_references}
use Rattle.cache.specs.Sets.{useful_replaced, useful_used}
use Rattle.cache.proofs.Rows.{first_references_fold}
use Rattle.model.specs.Lists.{mem, best}
use Rattle.model.specs.Tasks.{Task, block, Unmasked, AllDone, end, references, memory_blocks, Share}
use Rattle.model.specs.States.{Reaches, LivesPoint}
use Rattle.model.specs.Numbers.{Count, Rows, counted, Most, NumberAtEnds, NumberOverAll}
use Rattle.model.specs.Computed.{same_list, same_state, reaching_states, live_states, rows_at, entering, allowed, done_row, left_row, most, pair_number, used_number}
use Rattle.model.proofs.Membership.{or_left, or_right, eqb_self, same_list_self, same_state_self, mem-append_cases, all_in_lem}
use Rattle.model.proofs.Universe.{references_in_lem}
use Rattle.model.proofs.Paths.{references-each}
use Rattle.model.proofs.Exact.{reaching_exact, live_exact}
use Rattle.model.proofs.Entering.{live_point, point_inside}
use Rattle.model.proofs.Most.{rows_at_only, most_unique, unmasked_ends, ends-most, at-ends-is}
use Rattle.model.proofs.Disjoint.{Holds, with_references-holds, live-holds, replaced_used}

best_cong : {A : Type 0} (eq : A → A → Bool) → ((x : A) → eq x x ≡ true) → (f g : A → ℕ) (l : List A) → ((x : A) → mem eq x l ≡ true → f x ≡ g x) → best f l ≡ best g l
best_cong eq self f g [] h = refl
best_cong eq self f g (x ∷ l) h =
    rw (h x (or_left (eq x x) (mem eq x l) (self x)), best_cong eq self f g l (λ y e. h y (or_right (eq y x) (mem eq y l) e)))

mem-drop : (d m : ℕ) (ms : List ℕ) → mem eqb m (drop d ms) ≡ true → mem eqb m ms ≡ true
mem-drop zero m ms e = e
mem-drop (suc d) m [] e = e
mem-drop (suc d) m (x ∷ ms) e = or_right (eqb m x) (mem eqb m ms) (mem-drop d m ms e)

-- two counts that agree at all rows of paths have the same maximum
most_cong : (v w : Count) (k : Cache) (i j : Task) (points : ℕ → List ℕ)
    → ((b d : ℕ) (r l f : List ℕ) → LivesPoint k i b d l → Reaches k j (end j) f → v r l f ≡ w r l f) → most v k i j points ≡ most w k i j points
most_cong v w k i j points h =
    best_cong same_state same_state_self _ _ (entering k i) (λ x p.
    best_cong eqb eqb_self _ _ (points x.0) (λ d o.
    best_cong same_list same_list_self _ _ (rows_at x.0 (live_states k i)) (λ l q.
    best_cong same_list same_list_self _ _ (rows_at (end j) (reaching_states k j)) (λ f s.
    h x.0 d (done_row k i x d) (left_row k i x.0 d l) f (live_point k i x.0 d l ((live_exact k i x.0 l).0 (rows_at_only x.0 l (live_states k i) q)))
    ((reaching_exact k j (end j) f).0 (rows_at_only (end j) f (reaching_states k j) s))))))

module _ (k : Cache) (i j : Task) (apart : Share i j → ⊥) where
  abbrev mine : ℕ → Bool
  mine m = mem eqb m (memory_blocks i)

  own_i : (b m : ℕ) → mem eqb m (block i b).references ≡ true → mine m ≡ true
  own_i b m e = references_in_lem i b m e

  own_j : (b m : ℕ) → mem eqb m (block j b).references ≡ true → mine m ≡ false
  own_j b m e = go (mine m) refl
    where
      go : (s : Bool) → mine m ≡ s → s ≡ false
      go true q = absurd (apart (m, q, references_in_lem j b m e))
      go false q = refl

  -- what is left of a block and the blocks of a path after it refer to memory blocks of i alone
  left_mine : (b d : ℕ) (p : List ℕ) → All (λ m. mine m ≡ true) (drop d (block i b).references ++ references i p)
  left_mine b d p =
      all_in_lem (λ m. mine m ≡ true) (drop d (block i b).references ++ references i p) (λ m e.
      elim (mem-append_cases eqb eqb_self eqb-true m (drop d (block i b).references) (references i p) e)
      [ inl q ↦ own_i b m (mem-drop d m (block i b).references q) | inr q ↦ references-each i (λ m. mine m ≡ true) own_i p m q ])

  lives_hold : (b d : ℕ) (p l : List ℕ) → l ≡ first_references k (drop d (block i b).references ++ references i p) → Holds k (λ m. mine m ≡ true) l
  lives_hold b d p l e =
      let ms = drop d (block i b).references ++ references i p in rw (e, first_references_fold k ms) (live-holds k (λ m. mine m ≡ true) ms (left_mine b d p))

  ends_hold : (p f : List ℕ) → f ≡ with_references k (empty_row k) (references j p) → Holds k (λ m. mine m ≡ false) f
  ends_hold p f e = rw e (with_references-holds k (λ m. mine m ≡ false) (references j p) (all_in_lem _ (references j p) (references-each j _ own_j p)))

  same_most : (points : ℕ → List ℕ) → most (useful_replaced k) k i j points ≡ most (useful_used k) k i j points
  same_most points =
      most_cong (useful_replaced k) (useful_used k) k i j points (λ b d r l f hl hf.
      let (p, w, c) = hl in
      let (q, u, e) = hf in
      replaced_used k mine r l f (lives_hold b d p l c) (ends_hold (0 ∷ q) f e))

  pub old_number : pair_number k i j ≡ used_number k i j
  old_number = same_most (allowed i)

  -- over the ends of blocks alone, without masked blocks: the number of document 01
  pub old_at_ends : ((b : ℕ) → b < length i → Unmasked i b) → (x : ℕ) → NumberAtEnds k i j x → NumberOverAll k i j x
  old_at_ends free x n =
      rw (most_unique (useful_replaced k) k i j (λ b d. Unmasked i b × AllDone i b d) x at_ends n (at-ends-is k i j), same_most (unmasked_ends i))
      (record {
        bound = λ rows all. ends.bound rows (free rows.at (point_inside k i rows.at rows.done rows.reaching rows.reaches), all);
        attained = go ends.attained;
      })
    where
      at_ends : ℕ
      at_ends = most (useful_replaced k) k i j (unmasked_ends i)

      ends : Most (useful_used k) k i j (λ b d. Unmasked i b × AllDone i b d) (most (useful_used k) k i j (unmasked_ends i))
      ends = ends-most (useful_used k) k i j

      go : {y : ℕ} → (y ≡ 0) ⊎ ((rows : Rows k i j) × (Unmasked i rows.at × AllDone i rows.at rows.done) × (counted (useful_used k) rows ≡ y))
          → (y ≡ 0) ⊎ ((rows : Rows k i j) × AllDone i rows.at rows.done × (counted (useful_used k) rows ≡ y))
      go (inl z) = inl z
      go (inr (rows, at, e)) = inr (rows, at.1, e)

  pub over_all_ends : ((b : ℕ) → b < length i → Unmasked i b) → (x : ℕ) → NumberOverAll k i j x → NumberAtEnds k i j x
  over_all_ends free x n =
      rw (most_unique (useful_used k) k i j (AllDone i) x at_ends n (old_at_ends free at_ends (at-ends-is k i j))) (at-ends-is k i j)
    where
      at_ends : ℕ
      at_ends = most (useful_replaced k) k i j (unmasked_ends i)
