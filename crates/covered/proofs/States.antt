-- Point 9 over tasks: after m rounds each block has exactly the uncovered rows of paths of at most m + 1 blocks, and of ways on of at most
-- m blocks; rounds end; at the end each block has exactly the uncovered ones of all its reaching and live states.
-- The idea: steps of the graph of states keep the covering order, so CoveredRounds applies; a path of m + 1 blocks is m steps.
use mathlib.Core.Path.{◌≡◌, refl, sym, ap, ◌∙◌}
use mathlib.Core.Logic.{◌↔◌}
use mathlib.Core.Bool.{Bool, true, false, not, ◌&&◌, true≢false}
use mathlib.Core.List.{List, [], ◌∷◌, ◌++◌, append-nil}
use Prim.Native.Nat.{ℕ, zero, suc, ◌+◌, ◌≤◌, ◌<◌}
use native.Mathlib.Nat.{zero-add}
use native.Mathlib.Omega.{arith}
use lib.Dec.{eqb}
use lib.ListN.{length, length-append}
use borrow.Author.Tests.{eqb-true}
use Rattle.cache.specs.Cache.{Cache, one_line, empty_row, with_references, first_references}
use Rattle.cache.specs.Firsts.{firsts_over}
use Rattle.cache.proofs.Rows.{with_references-append, firsts_over-append, first_references_fold}
use Rattle.model.specs.Lists.{mem}
use Rattle.model.specs.Tasks.{Task, block, end, PathFrom, stay, step, references}
use Rattle.model.specs.States.{Reaches, Lives}
use Rattle.model.specs.Computed.{State, same_list, same_state, inside, reach_next, reach_start, predecessors_from, live_next, live_start, rounds, rows_at}
use Rattle.model.proofs.Membership.{both_left, both_right, eqb_self, same_list_self, same_list_true, one-is, one_has, same_state_self, same_state_true, states_has, states_only, inside_has, inside_only}
use Rattle.model.proofs.Closure.{Reach, start, further}
use Rattle.model.proofs.Policies.{one_lawful}
use Rattle.model.proofs.Universe.{InTask, universe, universe_rounds, in_universe, empty_in_task, references_in_task, firsts_in_task}
use Rattle.model.proofs.Paths.{path-first, path_snoc, references_join, predecessors_has, predecessors_only, Predecessor}
use Rattle.model.proofs.Most.{rows_at_has, rows_at_only}
use Rattle.covered.specs.Covered.{within, covered_by, Uncovered, ReachesBy, LivesBy}
use Rattle.covered.specs.Rounds.{state_within, kept_after, last_round}
use Rattle.covered.proofs.Order.{state_within_self, state_within_trans, state_within-both, with_references-within, firsts_over-within}
use Rattle.covered.proofs.Rounds.{Above, Frontier, Top, frontier_exact, Within, begins, steps, within_reach, within_le, kept_frontier, last-is}

both : (a b : Bool) → a ≡ true → b ≡ true → (a && b) ≡ true
both a b e f = rw (e, f)

-- ---- frontiers of states

abbrev pub AboveState : List State → State → Type 0
AboveState l x = Above same_state same_state_self same_state_true state_within state_within_self state_within_trans state_within-both l x

abbrev pub FrontierOf : (State → Type 0) → List State → Type 0
FrontierOf P l = Frontier same_state same_state_self same_state_true state_within state_within_self state_within_trans state_within-both P l

-- the uncovered states of a set are the uncovered rows of each block
module _ (P : State → Type 0) (Q : ℕ → List ℕ → Type 0) (to : (b : ℕ) (row : List ℕ) → P (b, row) → Q b row) (from : (b : ℕ) (row : List ℕ) → Q b row → P (b, row)) where
  same_row : (b : ℕ) (r s : List ℕ) → within r s ≡ true → (covered_by r s ≡ true → ⊥) → r ≡ s
  same_row b r s w n = go (same_list r s) refl
    where
      go : (c : Bool) → same_list r s ≡ c → r ≡ s
      go true q = same_list_true r s q
      go false q = absurd (n (both (within r s) (not (same_list r s)) w (rw q)))

  different : (r s : List ℕ) → r ≡ s → covered_by r s ≡ true → ⊥
  different r s e h = true≢false (sym (both_right (within r s) (not (same_list r s)) h) ∙ rw (e, same_list_self s))

  other_row : (b : ℕ) (r : List ℕ) (y : State) → P y → b ≡ y.0 → P (b, y.1)
  other_row b r y p e = rw e p

  abbrev TopState : State → Type 0
  TopState x = Top same_state same_state_self same_state_true state_within state_within_self state_within_trans state_within-both P x

  top_uncovered : (b : ℕ) (r : List ℕ) → TopState (b, r) ↔ Uncovered (Q b) r
  top_uncovered b r = (
    λ t. (
      to b r t.0,
      λ s q c. different r s (ap (λ (x : State). x.1) (t.1 (b, s) (from b s q) (both (eqb b b) (within r s) (eqb_self b) (both_left (within r s) (not (same_list r s)) c)))) c,
    ),
    λ u. (
      from b r u.0,
      λ y p h.
          let e = eqb-true b y.0 (both_left (eqb b y.0) (within r y.1) h) in
          let w = both_right (eqb b y.0) (within r y.1) h in
          pair b r y e (same_row b r y.1 w (u.1 y.1 (to b y.1 (other_row b r y p e)))),
    ),
  )
    where
      pair : (b : ℕ) (r : List ℕ) (y : State) → b ≡ y.0 → r ≡ y.1 → (b, r) ≡ y
      pair b r y p q = λ i. (p i, q i)

  -- a frontier has, at each block, exactly the uncovered rows of the block
  pub frontier_rows : (l : List State) → FrontierOf P l → (b : ℕ) (r : List ℕ) → (mem same_list r (rows_at b l) ≡ true) ↔ Uncovered (Q b) r
  frontier_rows l f b r =
      let x = frontier_exact same_state same_state_self same_state_true state_within state_within_self state_within_trans state_within-both P l f (b, r) in
      let u = top_uncovered b r in (
        λ e. u.0 (x.0 (rows_at_only b r l e)),
        λ h. rows_at_has b r l (x.1 (u.1 h)),
      )

  -- each row of the block is within an uncovered one
  pub frontier_above : (l : List State) → FrontierOf P l → (b : ℕ) (r : List ℕ) → Q b r → (s : List ℕ) × Uncovered (Q b) s × (within r s ≡ true)
  frontier_above l f b r q =
      let (y, i, h) = f.above (b, r) (from b r q) in
      let e = eqb-true b y.0 (both_left (eqb b y.0) (within r y.1) h) in
      (y.1, (frontier_rows l f b y.1).0 (rows_at_has b y.1 l (moved b y e i)), both_right (eqb b y.0) (within r y.1) h)
    where
      moved : (b : ℕ) (y : State) → b ≡ y.0 → mem same_state y l ≡ true → mem same_state (b, y.1) l ≡ true
      moved b y e i = rw e i

module _ (k : Cache) (t : Task) where
  -- ---- steps keep the covering order

  reach_step : (x y z : State) (s : ℕ) → state_within x y ≡ true → mem eqb s (inside t (block t x.0).successors) ≡ true
      → z ≡ (s, with_references k x.1 (block t s).references) → AboveState (reach_next (one_line k) t y) z
  reach_step x y z s h m q = (
    (s, with_references k y.1 (block t s).references),
    states_has (λ (s : ℕ). (s, with_references k y.1 (block t s).references)) s (inside t (block t y.0).successors)
        (rw (eqb-true x.0 y.0 (both_left (eqb x.0 y.0) (within x.1 y.1) h)) at m),
    rw q (both (eqb s s) _ (eqb_self s) (with_references-within k (block t s).references x.1 y.1 (both_right (eqb x.0 y.0) (within x.1 y.1) h))),
  )

  pub reach_mono : (x y z : State) → state_within x y ≡ true → mem same_state z (reach_next (one_line k) t x) ≡ true → AboveState (reach_next (one_line k) t y) z
  reach_mono x y z h e =
      let (s, m, q) = states_only (λ (s : ℕ). (s, with_references k x.1 (block t s).references)) z (inside t (block t x.0).successors) e in
      reach_step x y z s h m q

  live-step : (x y z : State) (p : ℕ) → state_within x y ≡ true → mem eqb p (predecessors_from 0 t x.0) ≡ true
      → z ≡ (p, firsts_over k (block t x.0).references x.1) → AboveState (live_next (one_line k) t y) z
  live-step x y z p h m q =
      let e = eqb-true x.0 y.0 (both_left (eqb x.0 y.0) (within x.1 y.1) h) in (
        (p, firsts_over k (block t y.0).references y.1),
        states_has (λ (p : ℕ). (p, firsts_over k (block t y.0).references y.1)) p (predecessors_from 0 t y.0) (rw e at m),
        rw (q, e) (both (eqb p p) _ (eqb_self p) (firsts_over-within k (block t y.0).references x.1 y.1 (both_right (eqb x.0 y.0) (within x.1 y.1) h))),
      )

  pub live_mono : (x y z : State) → state_within x y ≡ true → mem same_state z (live_next (one_line k) t x) ≡ true → AboveState (live_next (one_line k) t y) z
  live_mono x y z h e =
      let (p, m, q) = states_only (λ (p : ℕ). (p, firsts_over k (block t x.0).references x.1)) z (predecessors_from 0 t x.0) e in
      live-step x y z p h m q

  -- ---- paths of at most m + 1 blocks are at most m steps

  abbrev pub ReachSteps : ℕ → State → Type 0
  ReachSteps m x = Within same_state same_state_self same_state_true state_within state_within_self state_within_trans state_within-both (reach_next (one_line k) t) reach_mono (reach_start (one_line k) t) m x

  abbrev pub LiveSteps : ℕ → State → Type 0
  LiveSteps m x = Within same_state same_state_self same_state_true state_within state_within_self state_within_trans state_within-both (live_next (one_line k) t) live_mono (live_start (one_line k) t) m x

  reach_on : (m b c : ℕ) (r : List ℕ) → ReachSteps m (b, r) → mem eqb c (block t b).successors ≡ true → c < length t
      → ReachSteps (suc m) (c, with_references k r (block t c).references)
  reach_on m b c r h e l =
      steps h (states_has (λ (s : ℕ). (s, with_references k r (block t s).references)) c (inside t (block t b).successors) (inside_has t c (block t b).successors l e))

  path_steps : {b e : ℕ} {p : List ℕ} (m n : ℕ) (r : List ℕ) → ReachSteps m (b, r) → PathFrom t b p e → m + length p ≤ n → ReachSteps n (e, with_references k r (references t p))
  path_steps m n r h (stay l) s = within_le same_state same_state_self same_state_true state_within state_within_self state_within_trans state_within-both (reach_next (one_line k) t) reach_mono (reach_start (one_line k) t) m n (omega arith) h
  path_steps {b} m n r h (step {c = c} {p = p} e w) s =
      rw (with_references-append k r (block t c).references (references t p))
      (path_steps (suc m) n (with_references k r (block t c).references) (reach_on m b c r h e (path-first t w)) w (omega arith))

  reach_first : 0 < length t → ReachSteps 0 (0, with_references k (empty_row k) (block t 0).references)
  reach_first l = begins (states_has (λ (s : ℕ). (s, with_references k (empty_row k) (block t s).references)) 0 (inside t (0 ∷ [])) (inside_has t 0 (0 ∷ []) l (one_has 0)))

  pub reaches_steps : (m b : ℕ) (row : List ℕ) → ReachesBy k t (suc m) b row → ReachSteps m (b, row)
  reaches_steps m b row (p, w, l, e) =
      rw (e, with_references-append k (empty_row k) (block t 0).references (references t p))
      (path_steps 0 m (with_references k (empty_row k) (block t 0).references) (reach_first (path-first t w)) w (omega arith))

  row_on : (p : List ℕ) (s : ℕ) (r : List ℕ) → r ≡ with_references k (empty_row k) (references t (0 ∷ p))
      → with_references k r (block t s).references ≡ with_references k (empty_row k) (references t (0 ∷ (p ++ (s ∷ []))))
  row_on p s r d =
      rw (d, references_join t (0 ∷ p) (s ∷ []), append-nil, with_references-append k (empty_row k) (references t (0 ∷ p)) (block t s).references)

  pub reach_more : (m s b : ℕ) (r : List ℕ) → ReachesBy k t (suc m) b r → mem eqb s (block t b).successors ≡ true → s < length t
      → ReachesBy k t (suc (suc m)) s (with_references k r (block t s).references)
  reach_more m s b r (p, w, h, d) o l = (p ++ (s ∷ []), path_snoc t s w o l, omega (arith, length-append p (s ∷ [])), row_on p s r d)

  pub steps_reaches : {m : ℕ} {x : State} → ReachSteps m x → ReachesBy k t (suc m) x.0 x.1
  steps_reaches {m} (begins {x = x} e) =
      let (s, i, q) = states_only (λ (s : ℕ). (s, with_references k (empty_row k) (block t s).references)) x (inside t (0 ∷ [])) e in
      let (l, o) = inside_only t s (0 ∷ []) i in
      rw (q, one-is s 0 o) ([], stay (rw (one-is s 0 o) at l), omega arith, rw append-nil)
  steps_reaches (steps {m = m} {x = x} {y = y} w e) =
      let (s, i, q) = states_only (λ (s : ℕ). (s, with_references k x.1 (block t s).references)) y (inside t (block t x.0).successors) e in
      let (l, o) = inside_only t s (block t x.0).successors i in
      rw q (reach_more m s x.0 x.1 (steps_reaches w) o l)

  -- ---- ways on of at most m blocks are at most m steps back

  live_on : (m b c : ℕ) (l : List ℕ) → LiveSteps m (c, l) → mem eqb c (block t b).successors ≡ true → LiveSteps (suc m) (b, firsts_over k (block t c).references l)
  live_on m b c l h e =
      steps h (states_has (λ (p : ℕ). (p, firsts_over k (block t c).references l)) b (predecessors_from 0 t c) (rw zero-add at (predecessors_has t 0 b c e)))

  live-last : (m : ℕ) → end t < length t → LiveSteps m (end t, empty_row k)
  live-last m l = begins (states_has (λ (s : ℕ). (s, empty_row k)) (end t) (inside t (end t ∷ [])) (inside_has t (end t) (end t ∷ []) l (one_has (end t))))

  path_back : {b e : ℕ} {p : List ℕ} (m : ℕ) → e ≡ end t → PathFrom t b p e → length p ≤ m → LiveSteps m (b, firsts_over k (references t p) (empty_row k))
  path_back m q (stay l) s = rw q (live-last m (rw q at l))
  path_back zero q (step {c = c} {p = p} e w) s = absurd (omega arith)
  path_back {b} (suc m) q (step {c = c} {p = p} e w) s =
      rw (firsts_over-append k (block t c).references (references t p) (empty_row k)) (live_on m b c (firsts_over k (references t p) (empty_row k)) (path_back m q w (omega arith)) e)

  pub lives_steps : (m b : ℕ) (row : List ℕ) → LivesBy k t m b row → LiveSteps m (b, row)
  lives_steps m b row (p, w, l, e) = rw (e, first_references_fold k (references t p)) (path_back m refl w l)

  row_back : (p : List ℕ) (c : ℕ) (l : List ℕ) → l ≡ first_references k (references t p) → firsts_over k (block t c).references l ≡ first_references k (references t (c ∷ p))
  row_back p c l d =
      rw (d, first_references_fold k (references t (c ∷ p)), first_references_fold k (references t p), firsts_over-append k (block t c).references (references t p) (empty_row k))

  predecessor_leads : (b c : ℕ) → Predecessor t 0 b c → mem eqb c (block t b).successors ≡ true
  predecessor_leads b c h = rw (h.counted, zero-add) h.leads

  pub live_more : (m b c : ℕ) (l : List ℕ) → LivesBy k t m c l → mem eqb c (block t b).successors ≡ true → LivesBy k t (suc m) b (firsts_over k (block t c).references l)
  live_more m b c l (p, w, h, d) o = (c ∷ p, step o w, omega arith, row_back p c l d)

  pub steps_lives : {m : ℕ} {x : State} → LiveSteps m x → LivesBy k t m x.0 x.1
  steps_lives {m} (begins {x = x} e) =
      let (s, i, q) = states_only (λ (s : ℕ). (s, empty_row k)) x (inside t (end t ∷ [])) e in
      let (l, o) = inside_only t s (end t ∷ []) i in
      rw (q, one-is s (end t) o) ([], stay (rw (one-is s (end t) o) at l), omega arith, sym (first_references_fold k []))
  steps_lives (steps {m = m} {x = x} {y = y} w e) =
      let (b, i, q) = states_only (λ (b : ℕ). (b, firsts_over k (block t x.0).references x.1)) y (predecessors_from 0 t x.0) e in
      let h = predecessors_only t 0 b x.0 i in
      rw q (live_more m b x.0 x.1 (steps_lives w) (predecessor_leads b x.0 h))

  -- ---- after m rounds: exactly the uncovered rows

  pub reaching_round_lem : (m : ℕ) (b : ℕ) (row : List ℕ)
      → (mem same_list row (rows_at b (kept_after state_within (reach_next (one_line k) t) (reach_start (one_line k) t) m)) ≡ true) ↔ Uncovered (ReachesBy k t (suc m) b) row
  reaching_round_lem m =
      frontier_rows (ReachSteps m) (ReachesBy k t (suc m)) (λ b row w. steps_reaches w) (reaches_steps m)
      (kept_after state_within (reach_next (one_line k) t) (reach_start (one_line k) t) m)
      (kept_frontier same_state same_state_self same_state_true state_within state_within_self state_within_trans state_within-both (reach_next (one_line k) t) reach_mono (reach_start (one_line k) t) m)

  pub live_round_lem : (m : ℕ) (b : ℕ) (row : List ℕ)
      → (mem same_list row (rows_at b (kept_after state_within (live_next (one_line k) t) (live_start (one_line k) t) m)) ≡ true) ↔ Uncovered (LivesBy k t m b) row
  live_round_lem m =
      frontier_rows (LiveSteps m) (LivesBy k t m) (λ b row w. steps_lives w) (lives_steps m)
      (kept_after state_within (live_next (one_line k) t) (live_start (one_line k) t) m)
      (kept_frontier same_state same_state_self same_state_true state_within state_within_self state_within_trans state_within-both (live_next (one_line k) t) live_mono (live_start (one_line k) t) m)

  -- ---- all states

  abbrev ReachAll : State → Type 0
  ReachAll x = Reach same_state (reach_next (one_line k) t) (reach_start (one_line k) t) x

  abbrev LiveAll : State → Type 0
  LiveAll x = Reach same_state (live_next (one_line k) t) (live_start (one_line k) t) x

  reach_count : {x : State} → ReachAll x → (m : ℕ) × ReachSteps m x
  reach_count (start e) = (0, begins e)
  reach_count (further w e) = let (m, h) = reach_count w in (suc m, steps h e)

  live-count : {x : State} → LiveAll x → (m : ℕ) × LiveSteps m x
  live-count (start e) = (0, begins e)
  live-count (further w e) = let (m, h) = live-count w in (suc m, steps h e)

  all-reaches : (b : ℕ) (row : List ℕ) → ReachAll (b, row) → Reaches k t b row
  all-reaches b row w = let (m, h) = reach_count w in let (p, v, l, e) = steps_reaches h in (p, v, e)

  reaches_all : (b : ℕ) (row : List ℕ) → Reaches k t b row → ReachAll (b, row)
  reaches_all b row (p, w, e) =
      within_reach same_state same_state_self same_state_true state_within state_within_self state_within_trans state_within-both (reach_next (one_line k) t) reach_mono (reach_start (one_line k) t)
      (reaches_steps (length p) b row (p, w, omega arith, e))

  all-lives : (b : ℕ) (row : List ℕ) → LiveAll (b, row) → Lives k t b row
  all-lives b row w = let (m, h) = live-count w in let (p, v, l, e) = steps_lives h in (p, v, e)

  lives_all : (b : ℕ) (row : List ℕ) → Lives k t b row → LiveAll (b, row)
  lives_all b row (p, w, e) =
      within_reach same_state same_state_self same_state_true state_within state_within_self state_within_trans state_within-both (live_next (one_line k) t) live_mono (live_start (one_line k) t)
      (lives_steps (length p) b row (p, w, omega arith, e))

  -- they are in the finite universe of the task's states
  pub reach_in_task : {x : State} → ReachAll x → InTask (one_line k) (one_lawful k) t x
  reach_in_task (start {x} e) =
      let (s, m, q) = states_only (λ (s : ℕ). (s, with_references k (empty_row k) (block t s).references)) x (inside t (0 ∷ [])) e in
      let h = (inside_only t s (0 ∷ []) m).0 in
      rw q (references_in_task (one_line k) (one_lawful k) t (s, empty_row k) s s h (empty_in_task (one_line k) (one_lawful k) t s h))
  reach_in_task (further {x} {y} w e) =
      let (s, m, q) = states_only (λ (s : ℕ). (s, with_references k x.1 (block t s).references)) y (inside t (block t x.0).successors) e in
      rw q (references_in_task (one_line k) (one_lawful k) t x s s (inside_only t s (block t x.0).successors m).0 (reach_in_task w))

  pub live_in_task : {x : State} → LiveAll x → InTask (one_line k) (one_lawful k) t x
  live_in_task (start {x} e) =
      let (s, m, q) = states_only (λ (s : ℕ). (s, empty_row k)) x (inside t (end t ∷ [])) e in
      rw q (empty_in_task (one_line k) (one_lawful k) t s (inside_only t s (end t ∷ []) m).0)
  live_in_task (further {x} {y} w e) =
      let (p, m, q) = states_only (λ (p : ℕ). (p, firsts_over k (block t x.0).references x.1)) y (predecessors_from 0 t x.0) e in
      let r = predecessors_only t 0 p x.0 m in
      rw q (firsts_in_task (one_line k) (one_lawful k) t x x.0 p (omega (arith, r.counted, r.below)) (live_in_task w))

  -- the states of the last round, computed
  abbrev pub uncovered_reaching : List State
  uncovered_reaching = last_round state_within (reach_next (one_line k) t) (reach_start (one_line k) t) same_state (rounds (one_line k) t) (kept_after state_within (reach_next (one_line k) t) (reach_start (one_line k) t) 0)

  abbrev pub uncovered_live : List State
  uncovered_live = last_round state_within (live_next (one_line k) t) (live_start (one_line k) t) same_state (rounds (one_line k) t) (kept_after state_within (live_next (one_line k) t) (live_start (one_line k) t) 0)

  pub reaching_frontier : FrontierOf ReachAll uncovered_reaching
  reaching_frontier =
      last-is same_state same_state_self same_state_true state_within state_within_self state_within_trans state_within-both (reach_next (one_line k) t) reach_mono (reach_start (one_line k) t)
      (universe (one_line k) (one_lawful k) t) (λ x w. in_universe (one_line k) (one_lawful k) t x (reach_in_task w)) (rounds (one_line k) t) (omega (arith, universe_rounds (one_line k) (one_lawful k) t))

  pub live_frontier : FrontierOf LiveAll uncovered_live
  live_frontier =
      last-is same_state same_state_self same_state_true state_within state_within_self state_within_trans state_within-both (live_next (one_line k) t) live_mono (live_start (one_line k) t)
      (universe (one_line k) (one_lawful k) t) (λ x w. in_universe (one_line k) (one_lawful k) t x (live_in_task w)) (rounds (one_line k) t) (omega (arith, universe_rounds (one_line k) (one_lawful k) t))

  -- they are exactly the uncovered ones of all reaching and of all live states of each block
  pub reaching-last : (b : ℕ) (row : List ℕ) → (mem same_list row (rows_at b uncovered_reaching) ≡ true) ↔ Uncovered (Reaches k t b) row
  reaching-last = frontier_rows ReachAll (Reaches k t) all-reaches reaches_all uncovered_reaching reaching_frontier

  pub live-last_round : (b : ℕ) (row : List ℕ) → (mem same_list row (rows_at b uncovered_live) ≡ true) ↔ Uncovered (Lives k t b) row
  live-last_round = frontier_rows LiveAll (Lives k t) all-lives lives_all uncovered_live live_frontier

  -- and each state of a block is within an uncovered one of the block
  pub reaching-above : (b : ℕ) (r : List ℕ) → Reaches k t b r → (s : List ℕ) × Uncovered (Reaches k t b) s × (within r s ≡ true)
  reaching-above = frontier_above ReachAll (Reaches k t) all-reaches reaches_all uncovered_reaching reaching_frontier

  pub live-above : (b : ℕ) (r : List ℕ) → Lives k t b r → (s : List ℕ) × Uncovered (Lives k t b) s × (within r s ≡ true)
  live-above = frontier_above LiveAll (Lives k t) all-lives lives_all uncovered_live live_frontier
