-- The rows that a graph gathers: what holds while they are gathered, a turn of the loop, and both ends.
-- All rows in memory are rows that their blocks get; once each is handed on they are closed under handing on, and so are all of them.
use mathlib.Core.Path.{◌≡◌, refl, sym, ap, ◌∙◌}
use mathlib.Core.Logic.{◌≢◌, ◌⊎◌, inl, inr}
use mathlib.Core.Bool.{Bool, true, false, true≢false, false≢true}
use mathlib.Core.List.{List, [], ◌∷◌}
use Prim.Native.Nat.{ℕ, zero, suc, ◌+◌, ◌-◌, ◌*◌, ◌≤◌, ◌<◌}
use native.Mathlib.Omega.{arith}
use lib.Dec.{eqb, ltb}
use lib.ListN.{length, get_or, set, replicate, length-set, get_or-replicate}
use lib.Seq.{get_or-set_same, get_or-set_other}
use borrow.Author.Tests.{eqb-true, eqb-false, ltb-true, ltb-false, lt-ltb, le-ltb}
use Rattle.cache.specs.Sets.{in_set}
use Rattle.model.specs.Lists.{mem}
use Rattle.model.specs.Computed.{same_list, sorted}
use Rattle.model.proofs.Membership.{or_cases, or_left, or_right, same_list_self, same_list_true}
use Rattle.model.proofs.Sorted.{sorted-rising, sorted_has, sorted_only, rising_unique}
use Rattle.rows.specs.Overlay.{overlay}
use Rattle.rows.specs.Rows.{Width, rows_of, part_of}
use Rattle.gather.specs.Graph.{Graph, row_at, handed_on, Gets, begins, handed, Listed, too_many}
use Rattle.gather.specs.Memory.{held_rows, Memory, with_row, AppendedTo, Handed, FullAt, WaitingAt}
use Rattle.gather.specs.Gathered.{GatheredRows, GatheredAs}
use Rattle.rows.proofs.Parts.{rows-length}
use Rattle.gather.proofs.Distinct.{Distinct, mem_get_d, number_of, with_has, with_self, with_only, with_distinct, with_get_d, with_length, no_longer, sorted-length}

-- what holds while rows are gathered: `done` counts the rows of each block that were handed on
pub record Gathering (g : Graph) (rows counts done : List ℕ) : Type 0 where
  pub memory : Memory g.width rows counts
  pub tally : length done ≡ 24
  pub behind : (b : ℕ) → b < 24 → get_or done b 0 ≤ get_or counts b 0
  pub got : (b : ℕ) (row : List ℕ) → b < 24 → mem same_list row (held_rows g.width rows counts b) ≡ true → Gets g b row
  pub once : (b : ℕ) → b < 24 → Distinct (held_rows g.width rows counts b)
  pub begun : mem same_list g.row (held_rows g.width rows counts g.first) ≡ true
  pub handed : (b k s : ℕ) → b < 24 → k < get_or done b 0 → s < g.blocks → in_set (get_or g.sets b 0) s ≡ true
      → mem same_list (handed_on g b s (get_or (held_rows g.width rows counts b) k [])) (held_rows g.width rows counts s) ≡ true

-- ---- the rows of one block before and after a row of b was handed on

data Step (g : Graph) (b : ℕ) (row : List ℕ) (s : ℕ) (old new : List (List ℕ)) : Type 0 where
  same : new ≡ old → Step g b row s old new
  more : s < g.blocks → in_set (get_or g.sets b 0) s ≡ true → new ≡ with_row (handed_on g b s row) old → Step g b row s old new

module _ {g : Graph} {b : ℕ} {row : List ℕ} {s : ℕ} {old new : List (List ℕ)} where
  step_has : Step g b row s old new → (x : List ℕ) → mem same_list x old ≡ true → mem same_list x new ≡ true
  step_has (same e) x h = rw e h
  step_has (more l m e) x h = rw e (with_has (handed_on g b s row) old x h)

  step_only : Step g b row s old new → (x : List ℕ) → mem same_list x new ≡ true
      → (mem same_list x old ≡ true) ⊎ ((s < g.blocks) × (in_set (get_or g.sets b 0) s ≡ true) × (x ≡ handed_on g b s row))
  step_only (same e) x h = inl (rw e at h)
  step_only (more l m e) x h = elim (with_only (handed_on g b s row) old x (rw e at h)) [ inl p ↦ inl p | inr p ↦ inr (l, m, p) ]

  step-once : Step g b row s old new → Distinct old → Distinct new
  step-once (same e) d = rw e d
  step-once (more l m e) d = rw e (with_distinct (handed_on g b s row) old d)

  step_get_d : Step g b row s old new → (k : ℕ) → k < length old → get_or new k [] ≡ get_or old k []
  step_get_d (same e) k h = rw e
  step_get_d (more l m e) k h = rw e (with_get_d (handed_on g b s row) old k h)

  step-length : Step g b row s old new → length old ≤ length new
  step-length (same e) = rw e (omega arith)
  step-length (more l m e) = rw e (with_length (handed_on g b s row) old)

pub many-before : (all : ℕ → List (List ℕ)) (s n : ℕ) → s < n → 32 < length (all s) → too_many all n ≡ true
many-before all s zero h l = absurd (omega arith)
many-before all s (suc n) h l = go (eqb s n) refl (many-before all s n)
  where
    go : (t : Bool) → eqb s n ≡ t → (s < n → 32 < length (all s) → too_many all n ≡ true) → too_many all (suc n) ≡ true
    go true q ih = or_left (ltb 32 (length (all n))) (too_many all n) (lt-ltb 32 (length (all n)) (rw (eqb-true s n q) at l))
    go false q ih = or_right (ltb 32 (length (all n))) (too_many all n) (ih (omega (arith, eqb-false s n q)) l)

-- ---- a turn: the row numbered k of b is handed on

module _ (g : Graph) (rows counts done : List ℕ) (few : g.blocks ≤ 24) (within : g.first < g.blocks) (gathering : Gathering g rows counts done) (b : ℕ) (inside : b < 24)
    (waits : get_or done b 0 < get_or counts b 0) where
  abbrev row : List ℕ
  row = get_or (held_rows g.width rows counts b) (get_or done b 0) []

  row-held : mem same_list row (held_rows g.width rows counts b) ≡ true
  row-held = mem_get_d (held_rows g.width rows counts b) (get_or done b 0) (rw (rows-length g.width (get_or counts b 0) (part_of g.width rows b)) waits)

  module _ {left now counts-now : List ℕ} (leaves : left ≡ overlay row (row_at g.width g.leaving b))
      (handed_to : Handed g.width (get_or g.sets b 0) left g.entering g.blocks rows counts now counts-now) where
    step : (s : ℕ) → s < 24 → Step g b row s (held_rows g.width rows counts s) (held_rows g.width now counts-now s)
    step s h = go (ltb s g.blocks) refl (in_set (get_or g.sets b 0) s) refl
      where
        go : (t : Bool) → ltb s g.blocks ≡ t → (u : Bool) → in_set (get_or g.sets b 0) s ≡ u → Step g b row s (held_rows g.width rows counts s) (held_rows g.width now counts-now s)
        go true p true q =
            let l = ltb-true s g.blocks p in
            more l q (rw (q, leaves) at (handed_to.below s h l))
        go true p false q = same (rw q at (handed_to.below s h (ltb-true s g.blocks p)))
        go false p u q = same (handed_to.above s h (ltb-false s g.blocks p))

    new_row : (s : ℕ) → s < g.blocks → in_set (get_or g.sets b 0) s ≡ true → mem same_list (handed_on g b s row) (held_rows g.width now counts-now s) ≡ true
    new_row s l m =
        let e : held_rows g.width now counts-now s ≡ with_row (handed_on g b s row) (held_rows g.width rows counts s) = rw (m, leaves) at (handed_to.below s (omega arith) l) in
        rw e (with_self (handed_on g b s row) (held_rows g.width rows counts s))

    more_counts : (s : ℕ) → s < 24 → get_or counts s 0 ≤ get_or counts-now s 0
    more_counts s h =
        omega (arith, step-length (step s h), rows-length g.width (get_or counts s 0) (part_of g.width rows s), rows-length g.width (get_or counts-now s 0) (part_of g.width now s))

    abbrev further : List ℕ
    further = set done b (get_or done b 0 + 1)

    further_here : get_or further b 0 ≡ get_or done b 0 + 1
    further_here = get_or-set_same done b (get_or done b 0 + 1) 0 (omega (arith, gathering.tally))

    further_other : (c : ℕ) → c ≢ b → get_or further c 0 ≡ get_or done c 0
    further_other c d = get_or-set_other done b c (get_or done b 0 + 1) 0 d

    next-behind : (c : ℕ) → c < 24 → get_or further c 0 ≤ get_or counts-now c 0
    next-behind c h = go (eqb c b) refl
      where
        go : (t : Bool) → eqb c b ≡ t → get_or further c 0 ≤ get_or counts-now c 0
        go true q = rw (eqb-true c b q) (omega (arith, further_here, more_counts b inside))
        go false q = omega (arith, further_other c (eqb-false c b q), more_counts c h, gathering.behind c h)

    next_got : (s : ℕ) (x : List ℕ) → s < 24 → mem same_list x (held_rows g.width now counts-now s) ≡ true → Gets g s x
    next_got s x h e = elim (step_only (step s h) x e)
        [ inl p ↦ gathering.got s x h p | inr p ↦ rw p.2 (handed (gathering.got b row inside row-held) p.0 p.1) ]

    -- a row that was there has its number still
    kept_row : (c k : ℕ) → c < 24 → k < get_or counts c 0 → get_or (held_rows g.width now counts-now c) k [] ≡ get_or (held_rows g.width rows counts c) k []
    kept_row c k h l = step_get_d (step c h) k (rw (rows-length g.width (get_or counts c 0) (part_of g.width rows c)) l)

    next-handed : (c k s : ℕ) → c < 24 → k < get_or further c 0 → s < g.blocks → in_set (get_or g.sets c 0) s ≡ true
        → mem same_list (handed_on g c s (get_or (held_rows g.width now counts-now c) k [])) (held_rows g.width now counts-now s) ≡ true
    next-handed c k s h l i m = go (eqb c b) refl (ltb k (get_or done c 0)) refl
      where
        before_now : k < get_or done c 0 → mem same_list (handed_on g c s (get_or (held_rows g.width now counts-now c) k [])) (held_rows g.width now counts-now s) ≡ true
        before_now e =
            rw (kept_row c k h (omega (arith, gathering.behind c h))) (step_has (step s (omega arith)) _ (gathering.handed c k s h e i m))

        go : (t : Bool) → eqb c b ≡ t → (u : Bool) → ltb k (get_or done c 0) ≡ u
            → mem same_list (handed_on g c s (get_or (held_rows g.width now counts-now c) k [])) (held_rows g.width now counts-now s) ≡ true
        go t q true p = before_now (ltb-true k (get_or done c 0) p)
        go true q false p =
            let e = eqb-true c b q in
            let l' : k < get_or further b 0 = rw e at l in
            let p' : get_or done b 0 ≤ k = rw e at (ltb-false k (get_or done c 0) p) in
            let k' : k ≡ get_or done b 0 = omega (arith, further_here) in
            rw (e, k', kept_row b (get_or done b 0) inside waits) (new_row s i (rw e at m))
        go false q false p = absurd (omega (arith, further_other c (eqb-false c b q), ltb-false k (get_or done c 0) p))

    pub next_turn : Gathering g now counts-now (set done b (get_or done b 0 + 1))
    next_turn =
        record {
          memory = handed_to.memory;
          tally = length-set done b (get_or done b 0 + 1) ∙ gathering.tally;
          behind = next-behind;
          got = next_got;
          once = λ s h. step-once (step s h) (gathering.once s h);
          begun = step_has (step g.first (omega arith)) g.row gathering.begun;
          handed = next-handed;
        }

  -- ---- the end where a block is full

  module _ {left now counts-now : List ℕ} (leaves : left ≡ overlay row (row_at g.width g.leaving b))
      (full : FullAt g.width (get_or g.sets b 0) left g.blocks g.entering rows counts now counts-now) where
    abbrev s : ℕ
    s = full.block

    one_more : List ℕ
    one_more = handed_on g b s row

    pub end_full : GatheredAs g now counts-now true
    unfolding one_more
    end_full =
        record {
          long = full.handed.memory.long;
          many = full.handed.memory.many;
          answer = λ all listed. sym (many-before all s 24 (omega (arith, full.inside)) (beyond all listed));
          gathered = λ e. absurd (true≢false e);
        }
      where
        new : mem same_list one_more (held_rows g.width rows counts s) ≡ false
        new = rw leaves at full.new

        beyond : (all : ℕ → List (List ℕ)) → Listed g all → 32 < length (all s)
        beyond all listed =
            omega (
              arith,
              no_longer (one_more ∷ held_rows g.width rows counts s) (all s) (new, gathering.once s (omega (arith, full.inside))) has,
              rows-length g.width (get_or counts s 0) (part_of g.width rows s),
              full.count,
            )
          where
            has : (y : List ℕ) → mem same_list y (one_more ∷ held_rows g.width rows counts s) ≡ true → mem same_list y (all s) ≡ true
            has y e = ((listed s).1 y).1 (elim (or_cases (same_list y one_more) (mem same_list y (held_rows g.width rows counts s)) e) [
              | inl p ↦ rw (same_list_true y one_more p) (handed (gathering.got b row inside row-held) full.inside full.member)
              | inr p ↦ gathering.got s y (omega (arith, full.inside)) p
            ])

-- ---- the end where each row is handed on

few-before : (all : ℕ → List (List ℕ)) (n : ℕ) → ((b : ℕ) → b < n → length (all b) ≤ 32) → too_many all n ≡ false
few-before all zero h = refl
few-before all (suc n) h = rw (le-ltb 32 (length (all n)) (h n (omega arith))) (few-before all n (λ b l. h b (omega arith)))

module _ (g : Graph) (rows counts done : List ℕ) (few : g.blocks ≤ 24) (within : g.first < g.blocks) (gathering : Gathering g rows counts done)
    (through : (b : ℕ) → b < 24 → get_or counts b 0 ≤ get_or done b 0) where
  -- the rows in memory are all that blocks get
  closed : {b : ℕ} {x : List ℕ} → Gets g b x → (b < g.blocks) × (mem same_list x (held_rows g.width rows counts b) ≡ true)
  closed begins = (within, gathering.begun)
  closed (handed {b} {s} {row} h l m) = (l, go (closed h))
    where
      go : (b < g.blocks) × (mem same_list row (held_rows g.width rows counts b) ≡ true) → mem same_list (handed_on g b s row) (held_rows g.width rows counts s) ≡ true
      go (i, e) =
          let (k, n, q) = number_of row (held_rows g.width rows counts b) e in
          let k' : k < get_or done b 0 = omega (arith, rows-length g.width (get_or counts b 0) (part_of g.width rows b), through b (omega arith)) in
          rw q at (gathering.handed b k s (omega arith) k' l m)

  module _ (all : ℕ → List (List ℕ)) (listed : Listed g all) (b : ℕ) (inside : b < 24) where
    all-rows : sorted (held_rows g.width rows counts b) ≡ all b
    all-rows =
        rising_unique (sorted (held_rows g.width rows counts b)) (all b) (sorted-rising (held_rows g.width rows counts b)) (listed b).0 (λ y. (
          λ e. ((listed b).1 y).1 (gathering.got b y inside (sorted_only (held_rows g.width rows counts b) y e)),
          λ e. sorted_has (held_rows g.width rows counts b) y (closed (((listed b).1 y).0 e)).1,
        ))

    all-count : get_or counts b 0 ≡ length (all b)
    all-count =
        sym (rows-length g.width (get_or counts b 0) (part_of g.width rows b))
        ∙ sym (sorted-length (held_rows g.width rows counts b) (gathering.once b inside))
        ∙ ap length all-rows

    all-gathered : GatheredRows g.width all rows counts b
    all-gathered = record { count = all-count; list = ap (λ (n : ℕ). sorted (rows_of g.width n (part_of g.width rows b))) (sym all-count) ∙ all-rows }

  pub end_through : GatheredAs g rows counts false
  end_through =
      record {
        long = gathering.memory.long;
        many = gathering.memory.many;
        answer = λ all listed. sym (few-before all 24 (λ b h. omega (arith, all-count all listed b h, gathering.memory.few b h)));
        gathered = λ e all listed b h. all-gathered all listed b h;
      }

-- ---- the start: one row, and none handed on

pub cleared : (w : ℕ) (rows counts : List ℕ) → Width w → length rows ≡ 24 * (32 * w) → counts ≡ replicate 24 0 → Memory w rows counts
cleared w rows counts x l e =
    record {
      width = x;
      long = l;
      many = rw e;
      few = λ b h. rw (e, get_or-replicate {A = ℕ} 24 b 0 0 h) (omega arith);
    }

module _ (g : Graph) (few : g.blocks ≤ 24) (within : g.first < g.blocks) {rows counts now counts-now : List ℕ} {full : Bool} (zeros : counts ≡ replicate 24 0)
    (appended : AppendedTo g.width g.first g.row rows counts now counts-now full) where
  pub none-held : (b : ℕ) → b < 24 → held_rows g.width rows counts b ≡ []
  none-held b h = ap (λ (n : ℕ). rows_of g.width n (part_of g.width rows b)) (ap (λ (l : List ℕ). get_or l b 0) zeros ∙ get_or-replicate {A = ℕ} 24 b 0 0 h)

  pub first-held : held_rows g.width now counts-now g.first ≡ g.row ∷ []
  first-held = go full refl
    where
      go : (t : Bool) → full ≡ t → held_rows g.width now counts-now g.first ≡ g.row ∷ []
      go true q =
          absurd (omega (arith, appended.count q, ap (λ (l : List ℕ). get_or l g.first 0) zeros, get_or-replicate {A = ℕ} 24 g.first 0 0 (omega arith)))
      go false q = rw (none-held g.first (omega arith)) at (appended.added q)

  pub begin_gathering : Gathering g now counts-now (replicate 24 0)
  begin_gathering =
      record {
        memory = appended.memory;
        tally = refl;
        behind = λ b h. rw (get_or-replicate {A = ℕ} 24 b 0 0 h) (omega arith);
        got = λ b x h e. at_start b x h e;
        once = λ b h. once_start b h;
        begun = rw first-held (or_left (same_list g.row g.row) false (same_list_self g.row));
        handed = λ b k s h l i m. absurd (omega (arith, get_or-replicate {A = ℕ} 24 b 0 0 h));
      }
    where
      other : (b : ℕ) → b < 24 → b ≢ g.first → held_rows g.width now counts-now b ≡ []
      other b h d = appended.others b h d ∙ none-held b h

      at_start : (b : ℕ) (x : List ℕ) → b < 24 → mem same_list x (held_rows g.width now counts-now b) ≡ true → Gets g b x
      at_start b x h e = go (eqb b g.first) refl
        where
          one : mem same_list x (g.row ∷ []) ≡ true → x ≡ g.row
          one p = elim (or_cases (same_list x g.row) false p) [ inl q ↦ same_list_true x g.row q | inr q ↦ absurd (false≢true q) ]

          go : (t : Bool) → eqb b g.first ≡ t → Gets g b x
          go true q =
              let f = eqb-true b g.first q in
              let e' : mem same_list x (held_rows g.width now counts-now g.first) ≡ true = rw f at e in
              rw (f, one (rw first-held at e')) begins
          go false q = absurd (false≢true (rw (other b h (eqb-false b g.first q)) at e))

      once_start : (b : ℕ) → b < 24 → Distinct (held_rows g.width now counts-now b)
      once_start b h = go (eqb b g.first) refl
        where
          go : (t : Bool) → eqb b g.first ≡ t → Distinct (held_rows g.width now counts-now b)
          go true q = rw (eqb-true b g.first q, first-held) (refl, tt)
          go false q = rw (other b h (eqb-false b g.first q)) tt

  -- that row waits
  pub begin_waiting : WaitingAt counts-now (replicate 24 0) g.first
  begin_waiting =
      let one = sym (rows-length g.width (get_or counts-now g.first 0) (part_of g.width now g.first)) ∙ ap length first-held in
      record { waits = λ h. rw (get_or-replicate {A = ℕ} 24 g.first 0 0 h) (omega (arith, one)); none = λ h. absurd (omega arith) }

-- ---- how many turns are left: for each block as many as rows that may still be handed on

unfoldable pub rest : List ℕ → ℕ
rest [] = 0
rest (d ∷ done) = (32 - d) + rest done

pub rest_less : (done : List ℕ) (b : ℕ) → b < length done → get_or done b 0 < 32 → rest (set done b (get_or done b 0 + 1)) < rest done
unfolding rest
rest_less [] b h l = absurd (omega arith)
rest_less (d ∷ done) zero h l = omega arith
rest_less (d ∷ done) (suc b) h l = omega (arith, rest_less done b (omega arith) l)
