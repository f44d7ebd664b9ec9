-- The numbers after more points of a task: for one more row before the block, and for one more block. Those after one more reference are in PassedOver.
-- A number is the largest so far, and the largest over more points is the larger of two largest.
use mathlib.Core.Path.{◌≡◌, refl, sym, ap, ◌∙◌}
use mathlib.Core.Bool.{Bool, true, false, cond}
use mathlib.Core.List.{List, [], ◌∷◌, ◌++◌, append-nil, append_assoc}
use Prim.Native.Nat.{ℕ, zero, suc, ◌+◌, ◌-◌, ◌*◌, ◌<◌, max}
use native.Mathlib.Nat.{zero-add, add-zero}
use native.Mathlib.Numerals.{add-one}
use native.Mathlib.Omega.{arith}
use lib.ListN.{length, take, drop}
use borrow.Author.Tests.{eq-eqb, ne_eqb}
use borrow.Rule.Slice.PartMut.{put_mid}
use Rattle.cache.specs.References.{numbers}
use Rattle.cache.specs.Cache.{Cache, empty_row}
use Rattle.cache.specs.Sets.{in_set}
use Rattle.cache.proofs.NumberLaws.{length-numbers}
use Rattle.model.specs.Lists.{best}
use Rattle.model.specs.Tasks.{Task, block}
use Rattle.model.specs.Computed.{up_from, dones, unmasked}
use Rattle.rows.specs.Rows.{rows_of}
use Rattle.rows.proofs.Parts.{lent_front}
use Rattle.points.specs.Points.{rest_of, Rests, rows_in, predecessors_of, rows_before}
use Rattle.rows.proofs.Parts.{rows_more}
use Rattle.pairs.specs.Pairs.{point_most, Met}
use Rattle.pairs.specs.declared.ends.Ends.{Ends}
use Rattle.pairs.proofs.Meeting.{met_none, met_same, met_more}
use Rattle.task_pairs.specs.TaskPairs.{done_most, before_most, block_most, task_most}

-- ---- the references of a list of bytes

pub no_references : (s : List ℕ) → length s < 2 → numbers s ≡ []
no_references s h = none (numbers s) (length-numbers s ∙ omega arith)
  where
    none : (l : List ℕ) → length l ≡ 0 → l ≡ []
    none [] e = refl
    none (x ∷ l) e = absurd (omega arith)

-- the rest rows, made in the first numbers of a room
pub room_rests : (w : ℕ) (k : Cache) (ms l new : List ℕ) → k.width ≡ w → Rests k ms new → Rests k ms (take (17 * w - 0) (drop 0 (put_mid 0 (17 * w - 0) l new)))
room_rests w k ms l new e h = rw (lent_front (17 * w) l new refl (h.long ∙ ap (λ (n : ℕ). 17 * n) e)) h

-- ---- the largest over more

dones-some : (ms : List ℕ) → 0 < length ms → dones ms ≡ up_from 1 (length ms)
dones-some [] h = absurd (omega arith)
dones-some (m ∷ ms) h = refl

best-append : (f : List ℕ → ℕ) (a b : List (List ℕ)) → best f (a ++ b) ≡ max (best f a) (best f b)
best-append f [] b = omega arith
best-append f (x ∷ a) b = omega (arith, best-append f a b)

best-one : (f : List ℕ → ℕ) (x : List ℕ) → best f (x ∷ []) ≡ f x
best-one f x = omega arith

rows_in_more : (set : ℕ) (rs : ℕ → List (List ℕ)) (n p : ℕ) → rows_in set rs (suc n) p ≡ rows_in set rs n p ++ cond (in_set set (p + n)) (rs (p + n)) []
rows_in_more set rs zero p = append-nil (cond (in_set set p) (rs p) []) ∙ ap (λ (i : ℕ). cond (in_set set i) (rs i) []) (sym (add-zero p))
rows_in_more set rs (suc n) p =
    let z : suc p + n ≡ p + suc n = omega arith in
    ap (λ (l : List (List ℕ)). cond (in_set set p) (rs p) [] ++ l) (rows_in_more set rs n (suc p) ∙ ap (λ (i : ℕ). rows_in set rs n (suc p) ++ cond (in_set set i) (rs i) []) z)
    ∙ sym (append_assoc (cond (in_set set p) (rs p) []) (rows_in set rs n (suc p)) (cond (in_set set (p + suc n)) (rs (p + suc n)) []))

-- ---- the numbers

module _ (ends : Ends) (tasks : ℕ) (k : Cache) (ms : List ℕ) (ls : List (List ℕ)) where
  module _ (row : List ℕ) where
    -- all points of a block: it has no reference, or some
    pub met_one : {rest n n' : List ℕ} → ms ≡ [] → rest ≡ rest_of k ms 0 → Met (point_most row rest ls) ends tasks n n'
        → Met (before_most k ms ls row) ends tasks n n'
    met_one {rest} e d =
        met_same ends tasks
        (λ fs. ap (λ (l : List ℕ). best (done_most k ms ls row fs) (dones l)) e
        ∙ (let z : best (done_most k ms ls row fs) (0 ∷ []) ≡ done_most k ms ls row fs 0 = omega arith in z)
        ∙ ap (λ (x : List ℕ). point_most row x ls fs) (sym d))

    pub met_some : {copy n n' : List ℕ} (count : ℕ) → count ≡ length ms → 0 < count → copy ≡ row
        → Met (λ fs. best (done_most k ms ls copy fs) (up_from 1 count)) ends tasks n n' → Met (before_most k ms ls row) ends tasks n n'
    met_some {copy} count e h d =
        met_same ends tasks
        (λ fs. ap (best (done_most k ms ls row fs)) (dones-some ms (omega arith) ∙ ap (up_from 1) (sym e))
        ∙ ap (λ (r : List ℕ). best (done_most k ms ls r fs) (up_from 1 count)) (sym d))

  -- for one more row before the block
  pub met_row : (w : ℕ) (rows : List ℕ) (i : ℕ) {row n n' n'' : List ℕ} → row ≡ take w (drop (w * i) rows)
      → Met (block_most k ms ls (rows_of w i rows)) ends tasks n n' → Met (before_most k ms ls row) ends tasks n' n''
      → Met (block_most k ms ls (rows_of w (i + 1) rows)) ends tasks n n''
  met_row w rows i {row} e =
      let long : w * i + w - w * i ≡ w = omega arith in
      let more : rows_of w (i + 1) rows ≡ rows_of w i rows ++ (row ∷ [])
      = rows_more w i rows ∙ ap (λ (n : ℕ). rows_of w i rows ++ (take n (drop (w * i) rows) ∷ [])) long ∙ ap (λ (r : List ℕ). rows_of w i rows ++ (r ∷ [])) (sym e) in
      met_more ends tasks (block_most k ms ls (rows_of w (i + 1) rows))
      (λ fs. ap (λ (l : List (List ℕ)). block_most k ms ls l fs) more
      ∙ best-append (λ (r : List ℕ). before_most k ms ls r fs) (rows_of w i rows) (row ∷ [])
      ∙ ap (max (block_most k ms ls (rows_of w i rows) fs)) (best-one (λ (r : List ℕ). before_most k ms ls r fs) row))

  -- for the rows of one more block, which is in the set or not
  module _ (set : ℕ) (rs : ℕ → List (List ℕ)) (p : ℕ) where
    in_more : (rows : List (List ℕ)) → rows ≡ cond (in_set set p) (rs p) [] → (fs : List (List ℕ))
        → block_most k ms ls (rows_in set rs (p + 1) 0) fs ≡ max (block_most k ms ls (rows_in set rs p 0) fs) (block_most k ms ls rows fs)
    in_more rows e fs =
        ap (λ (l : List (List ℕ)). block_most k ms ls l fs)
        (ap (λ (n : ℕ). rows_in set rs n 0) (add-one p) ∙ rows_in_more set rs p 0 ∙ ap (λ (i : ℕ). rows_in set rs p 0 ++ cond (in_set set i) (rs i) []) (zero-add p))
        ∙ best-append (λ (r : List ℕ). before_most k ms ls r fs) (rows_in set rs p 0) (cond (in_set set p) (rs p) [])
        ∙ ap (λ (l : List (List ℕ)). max (block_most k ms ls (rows_in set rs p 0) fs) (block_most k ms ls l fs)) (sym e)

    pub met_in : {rows : List (List ℕ)} {n n' n'' : List ℕ} → in_set set p ≡ true → rows ≡ rs p → Met (block_most k ms ls (rows_in set rs p 0)) ends tasks n n'
        → Met (block_most k ms ls rows) ends tasks n' n'' → Met (block_most k ms ls (rows_in set rs (p + 1) 0)) ends tasks n n''
    met_in {rows} h e = met_more ends tasks (block_most k ms ls (rows_in set rs (p + 1) 0)) (in_more rows (rw h e))

    pub met_out : {n n' : List ℕ} → in_set set p ≡ false → Met (block_most k ms ls (rows_in set rs p 0)) ends tasks n n'
        → Met (block_most k ms ls (rows_in set rs (p + 1) 0)) ends tasks n n'
    met_out {n' = n'} h so_far =
        met_more ends tasks (block_most k ms ls (rows_in set rs (p + 1) 0)) (in_more [] (rw h)) so_far
        (met_none ends (block_most k ms ls []) tasks n' (λ fs. refl))

  -- for all rows before a block: block 0, or another
  module _ (set : ℕ) (rs : ℕ → List (List ℕ)) (blocks b : ℕ) where
    pub met_first : {row n n' n'' : List ℕ} → b ≡ 0 → row ≡ empty_row k → Met (before_most k ms ls row) ends tasks n n'
        → Met (block_most k ms ls (rows_in set rs blocks 0)) ends tasks n' n'' → Met (block_most k ms ls (rows_before k blocks set rs b)) ends tasks n n''
    met_first e d =
        met_more ends tasks (block_most k ms ls (rows_before k blocks set rs b))
        (λ fs. ap (λ (s : Bool). block_most k ms ls (cond s (empty_row k ∷ []) [] ++ rows_in set rs blocks 0) fs) (eq-eqb b 0 e)
        ∙ best-append (λ (r : List ℕ). before_most k ms ls r fs) (empty_row k ∷ []) (rows_in set rs blocks 0)
        ∙ ap (λ (x : ℕ). max x (block_most k ms ls (rows_in set rs blocks 0) fs))
        (best-one (λ (r : List ℕ). before_most k ms ls r fs) (empty_row k) ∙ ap (λ (r : List ℕ). before_most k ms ls r fs) (sym d)))

    pub met_later : {n n' : List ℕ} → (b ≡ 0 → ⊥) → Met (block_most k ms ls (rows_in set rs blocks 0)) ends tasks n n'
        → Met (block_most k ms ls (rows_before k blocks set rs b)) ends tasks n n'
    met_later h =
        met_same ends tasks
        (λ fs. ap (λ (s : Bool). block_most k ms ls (cond s (empty_row k ∷ []) [] ++ rows_in set rs blocks 0) fs) (ne_eqb b 0 h))

-- for one more block of a task, which is unmasked or not
module _ (ends : Ends) (tasks : ℕ) (k : Cache) (t : Task) (rs ls : ℕ → List (List ℕ)) where
  abbrev most : ℕ → List (List ℕ) → ℕ
  most b fs = cond (unmasked t b) (block_most k (block t b).references (ls b) (rows_before k (length t) (predecessors_of t b) rs b) fs) 0

  task-last : (n b : ℕ) (fs : List (List ℕ)) → task_most k t rs ls (suc n) b fs ≡ max (task_most k t rs ls n b fs) (most (b + n) fs)
  task-last zero b fs = let e = ap (λ (i : ℕ). most i fs) (add-zero b) in omega (arith, e)
  task-last (suc n) b fs =
      let z : suc b + n ≡ b + suc n = omega arith in
      let e = ap (λ (i : ℕ). most i fs) z in
      omega (arith, e, task-last n (suc b) fs)

  task_more : (b : ℕ) (fs : List (List ℕ)) → task_most k t rs ls (b + 1) 0 fs ≡ max (task_most k t rs ls b 0 fs) (most b fs)
  task_more b fs =
      ap (λ (n : ℕ). task_most k t rs ls n 0 fs) (add-one b)
      ∙ task-last b 0 fs
      ∙ ap (λ (i : ℕ). max (task_most k t rs ls b 0 fs) (most i fs)) (zero-add b)

  pub met_unmasked : (b blocks set : ℕ) {ms n n' n'' : List ℕ} {live : List (List ℕ)} → unmasked t b ≡ true → blocks ≡ length t → set ≡ predecessors_of t b
      → ms ≡ (block t b).references → live ≡ ls b → Met (task_most k t rs ls b 0) ends tasks n n'
      → Met (block_most k ms live (rows_before k blocks set rs b)) ends tasks n' n'' → Met (task_most k t rs ls (b + 1) 0) ends tasks n n''
  met_unmasked b blocks set {ms} {live = live} u eb es em el =
      met_more ends tasks (task_most k t rs ls (b + 1) 0)
      (λ fs. task_more b fs ∙ ap (max (task_most k t rs ls b 0 fs)) (ap (λ (s : Bool). cond s (here fs) 0) u ∙ sym (same fs)))
    where
      here : List (List ℕ) → ℕ
      here fs = block_most k (block t b).references (ls b) (rows_before k (length t) (predecessors_of t b) rs b) fs

      same : (fs : List (List ℕ)) → block_most k ms live (rows_before k blocks set rs b) fs ≡ here fs
      same fs = rw (eb, es, em, el)

  pub met_masked : (b : ℕ) {n n' : List ℕ} → unmasked t b ≡ false → Met (task_most k t rs ls b 0) ends tasks n n' → Met (task_most k t rs ls (b + 1) 0) ends tasks n n'
  met_masked b u =
      met_same ends tasks
      (λ fs. task_more b fs
      ∙ ap (λ (s : Bool). max (task_most k t rs ls b 0 fs) (cond s (block_most k (block t b).references (ls b) (rows_before k (length t) (predecessors_of t b) rs b) fs) 0)) u
      ∙ omega arith)
