-- The computed states are exactly the states of paths: `reaching_exact` and `live_exact`, for every task and every cache.
-- The idea: a path is a chain of steps of the closure, forwards for reaching states and backwards for live ones, and both ways.
use mathlib.Core.Path.{◌≡◌, refl, sym}
use mathlib.Core.Logic.{◌↔◌}
use mathlib.Core.Bool.{true}
use mathlib.Core.List.{List, [], ◌∷◌, ◌++◌, append-nil}
use Prim.Native.Nat.{ℕ, ◌<◌}
use native.Mathlib.Nat.{zero-add}
use native.Mathlib.Omega.{arith}
use lib.Dec.{eqb}
use lib.ListN.{length}
use Rattle.cache.specs.Cache.{Cache, Policy, one_line, empty_row, refer_all, with_references}
use Rattle.cache.specs.Firsts.{ahead}
use Rattle.cache.proofs.Rows.{refer_all-append, ahead-append}
use Rattle.model.specs.Lists.{mem}
use Rattle.model.specs.Tasks.{Task, block, end, PathFrom, stay, step, Complete, references}
use Rattle.model.specs.States.{ReachesOn, LivesOn, Reaches, Lives}
use Rattle.model.specs.Computed.{State, same_state, inside, reach_next, reach_start, predecessors_from, live_next, live_start, rounds, reaching_states_on, live_states_on, reaching_states, live_states}
use Rattle.model.proofs.Membership.{one-is, one_has, same_state_self, same_state_true, states_has, states_only, inside_has, inside_only}
use Rattle.model.proofs.Closure.{Reach, start, further, close_exact}
use Rattle.model.proofs.Policies.{Lawful, one_lawful}
use Rattle.model.proofs.Universe.{InTask, universe, universe_rounds, in_universe, empty_in_task, references_in_task, firsts_in_task}
use Rattle.model.proofs.Paths.{path-first, path_snoc, references_join, predecessors_has, predecessors_only, Predecessor}

module _ (k : Policy) (law : Lawful k) (t : Task) where
  abbrev ReachesBySteps : State → Type 0
  ReachesBySteps x = Reach same_state (reach_next k t) (reach_start k t) x

  abbrev LivesBySteps : State → Type 0
  LivesBySteps x = Reach same_state (live_next k t) (live_start k t) x

  -- ---- what steps reach is what is computed

  reach_next_lem : (x y : State) → InTask k law t x → mem same_state y (reach_next k t x) ≡ true → InTask k law t y
  reach_next_lem x y h e =
      let (s, m, q) = states_only (λ (s : ℕ). (s, refer_all k x.1 (block t s).references)) y (inside t (block t x.0).successors) e in
      rw q (references_in_task k law t x s s (inside_only t s (block t x.0).successors m).0 h)

  reach_start_lem : (x : State) → mem same_state x (reach_start k t) ≡ true → InTask k law t x
  reach_start_lem x e =
      let (s, m, q) = states_only (λ (s : ℕ). (s, refer_all k k.first (block t s).references)) x (inside t (0 ∷ [])) e in
      let h = (inside_only t s (0 ∷ []) m).0 in
      rw q (references_in_task k law t (s, k.first) s s h (empty_in_task k law t s h))

  reach_computed : (x : State) → (mem same_state x (reaching_states_on k t) ≡ true) ↔ ReachesBySteps x
  reach_computed =
      close_exact same_state same_state_self same_state_true (reach_next k t) (universe k law t) (InTask k law t) reach_next_lem (in_universe k law t) (reach_start k t) reach_start_lem (rounds k t)
      (omega (arith, universe_rounds k law t))

  live-next : (x y : State) → InTask k law t x → mem same_state y (live_next k t x) ≡ true → InTask k law t y
  live-next x y h e =
      let (p, m, q) = states_only (λ (p : ℕ). (p, ahead k (block t x.0).references x.1)) y (predecessors_from 0 t x.0) e in
      let r = predecessors_only t 0 p x.0 m in
      rw q (firsts_in_task k law t x x.0 p (omega (arith, r.counted, r.below)) h)

  live_start_lem : (x : State) → mem same_state x (live_start k t) ≡ true → InTask k law t x
  live_start_lem x e =
      let (s, m, q) = states_only (λ (s : ℕ). (s, k.first)) x (inside t (end t ∷ [])) e in
      rw q (empty_in_task k law t s (inside_only t s (end t ∷ []) m).0)

  live_computed : (x : State) → (mem same_state x (live_states_on k t) ≡ true) ↔ LivesBySteps x
  live_computed =
      close_exact same_state same_state_self same_state_true (live_next k t) (universe k law t) (InTask k law t) live-next (in_universe k law t) (live_start k t) live_start_lem (rounds k t)
      (omega (arith, universe_rounds k law t))

  -- ---- from paths to steps

  reach_on : (b c : ℕ) (r : List ℕ) → ReachesBySteps (b, r) → mem eqb c (block t b).successors ≡ true → c < length t → ReachesBySteps (c, refer_all k r (block t c).references)
  reach_on b c r h m l =
      further h (states_has (λ (s : ℕ). (s, refer_all k r (block t s).references)) c (inside t (block t b).successors) (inside_has t c (block t b).successors l m))

  path-reaches : {b e : ℕ} {p : List ℕ} (r : List ℕ) → ReachesBySteps (b, r) → PathFrom t b p e → ReachesBySteps (e, refer_all k r (references t p))
  path-reaches r h (stay l) = h
  path-reaches {b} r h (step {c = c} {p = p} m w) =
      rw (refer_all-append k r (block t c).references (references t p)) (path-reaches (refer_all k r (block t c).references) (reach_on b c r h m (path-first t w)) w)

  reach_first : 0 < length t → ReachesBySteps (0, refer_all k k.first (block t 0).references)
  reach_first l = start (states_has (λ (s : ℕ). (s, refer_all k k.first (block t s).references)) 0 (inside t (0 ∷ [])) (inside_has t 0 (0 ∷ []) l (one_has 0)))

  live_on : (b c : ℕ) (l : List ℕ) → LivesBySteps (c, l) → mem eqb c (block t b).successors ≡ true → LivesBySteps (b, ahead k (block t c).references l)
  live_on b c l h m =
      further h (states_has (λ (p : ℕ). (p, ahead k (block t c).references l)) b (predecessors_from 0 t c) (rw zero-add at (predecessors_has t 0 b c m)))

  live-last : end t < length t → LivesBySteps (end t, k.first)
  live-last l = start (states_has (λ (s : ℕ). (s, k.first)) (end t) (inside t (end t ∷ [])) (inside_has t (end t) (end t ∷ []) l (one_has (end t))))

  path-lives : {b e : ℕ} {p : List ℕ} → e ≡ end t → PathFrom t b p e → LivesBySteps (b, ahead k (references t p) k.first)
  path-lives {b} q (stay l) = rw q (live-last (rw q at l))
  path-lives {b} q (step {c = c} {p = p} m w) =
      rw (ahead-append k (block t c).references (references t p) k.first) (live_on b c (ahead k (references t p) k.first) (path-lives q w) m)

  -- ---- from steps to paths

  row_on : (p : List ℕ) (s : ℕ) (r : List ℕ) → r ≡ refer_all k k.first (references t (0 ∷ p))
      → refer_all k r (block t s).references ≡ refer_all k k.first (references t (0 ∷ (p ++ (s ∷ []))))
  row_on p s r d =
      rw (d, references_join t (0 ∷ p) (s ∷ []), append-nil, refer_all-append k k.first (references t (0 ∷ p)) (block t s).references)

  row_back : (p : List ℕ) (c : ℕ) (l : List ℕ) → l ≡ k.next (references t p) → ahead k (block t c).references l ≡ k.next (references t (c ∷ p))
  row_back p c l d =
      rw (d, law.next-is (references t (c ∷ p)), law.next-is (references t p), ahead-append k (block t c).references (references t p) k.first)

  predecessor_leads : (b c : ℕ) → Predecessor t 0 b c → mem eqb c (block t b).successors ≡ true
  predecessor_leads b c h = rw (h.counted, zero-add) h.leads

  steps_reach : {x : State} → ReachesBySteps x → ReachesOn k t x.0 x.1
  steps_reach (start {x} e) =
      let (s, m, q) = states_only (λ (s : ℕ). (s, refer_all k k.first (block t s).references)) x (inside t (0 ∷ [])) e in
      let (l, o) = inside_only t s (0 ∷ []) m in
      rw (q, one-is s 0 o) ([], stay (rw (one-is s 0 o) at l), rw append-nil)
  steps_reach (further {x} {y} r e) =
      let (s, m, q) = states_only (λ (s : ℕ). (s, refer_all k x.1 (block t s).references)) y (inside t (block t x.0).successors) e in
      let (l, o) = inside_only t s (block t x.0).successors m in
      let (p, w, d) = steps_reach r in
      rw q (p ++ (s ∷ []), path_snoc t s w o l, row_on p s x.1 d)

  steps_live : {x : State} → LivesBySteps x → LivesOn k t x.0 x.1
  steps_live (start {x} e) =
      let (s, m, q) = states_only (λ (s : ℕ). (s, k.first)) x (inside t (end t ∷ [])) e in
      let (l, o) = inside_only t s (end t ∷ []) m in
      rw (q, one-is s (end t) o) ([], stay (rw (one-is s (end t) o) at l), sym (law.next-is []))
  steps_live (further {x} {y} r e) =
      let (b, m, q) = states_only (λ (b : ℕ). (b, ahead k (block t x.0).references x.1)) y (predecessors_from 0 t x.0) e in
      let (p, w, d) = steps_live r in
      let h = predecessors_only t 0 b x.0 m in
      rw q (x.0 ∷ p, step (predecessor_leads b x.0 h) w, row_back p x.0 x.1 d)

  -- ---- both directions

  reach_steps : (b : ℕ) (row : List ℕ) → ReachesOn k t b row → ReachesBySteps (b, row)
  reach_steps b row (p, w, e) =
      rw (e, refer_all-append k k.first (block t 0).references (references t p))
      (path-reaches (refer_all k k.first (block t 0).references) (reach_first (path-first t w)) w)

  live_steps : (b : ℕ) (row : List ℕ) → LivesOn k t b row → LivesBySteps (b, row)
  live_steps b row (p, w, e) = rw (e, law.next-is (references t p)) (path-lives refl w)

  -- a state is computed exactly when some path makes it
  pub any-reaching_exact : (b : ℕ) (row : List ℕ) → (mem same_state (b, row) (reaching_states_on k t) ≡ true) ↔ ReachesOn k t b row
  any-reaching_exact b row = (λ e. steps_reach ((reach_computed (b, row)).0 e), λ h. (reach_computed (b, row)).1 (reach_steps b row h))

  pub any-live_exact : (b : ℕ) (row : List ℕ) → (mem same_state (b, row) (live_states_on k t) ≡ true) ↔ LivesOn k t b row
  any-live_exact b row = (λ e. steps_live ((live_computed (b, row)).0 e), λ h. (live_computed (b, row)).1 (live_steps b row h))

  -- ---- states along a path

  -- a reaching state, and a step on to a successor
  pub any-reaches_on : (b c : ℕ) (row : List ℕ) → ReachesOn k t b row → mem eqb c (block t b).successors ≡ true → c < length t
      → ReachesOn k t c (refer_all k row (block t c).references)
  any-reaches_on b c row (p, w, e) m l = (p ++ (c ∷ []), path_snoc t c w m l, row_on p c row e)

  -- the entry's references on the empty row
  pub any-reaches-first : 0 < length t → ReachesOn k t 0 (refer_all k k.first (block t 0).references)
  any-reaches-first l = ([], stay l, rw append-nil)

  -- the rows that a complete path leaves are the reaching states of the end block
  pub any-reaches-end : (path : List ℕ) → Complete t path → ReachesOn k t (end t) (refer_all k k.first (references t path))
  any-reaches-end [] h = absurd h
  any-reaches-end (b ∷ p) (e, w) = (p, rw e at w, rw e)

-- ---- document 01's cache

module _ (k : Cache) (t : Task) where
  pub reaching_exact : (b : ℕ) (row : List ℕ) → (mem same_state (b, row) (reaching_states k t) ≡ true) ↔ Reaches k t b row
  reaching_exact = any-reaching_exact (one_line k) (one_lawful k) t

  pub live_exact : (b : ℕ) (row : List ℕ) → (mem same_state (b, row) (live_states k t) ≡ true) ↔ Lives k t b row
  live_exact = any-live_exact (one_line k) (one_lawful k) t

  pub reaches_on : (b c : ℕ) (row : List ℕ) → Reaches k t b row → mem eqb c (block t b).successors ≡ true → c < length t
      → Reaches k t c (with_references k row (block t c).references)
  reaches_on = any-reaches_on (one_line k) (one_lawful k) t

  pub reaches-first : 0 < length t → Reaches k t 0 (with_references k (empty_row k) (block t 0).references)
  reaches-first = any-reaches-first (one_line k) (one_lawful k) t

  pub reaches_end : (path : List ℕ) → Complete t path → Reaches k t (end t) (with_references k (empty_row k) (references t path))
  reaches_end = any-reaches-end (one_line k) (one_lawful k) t
