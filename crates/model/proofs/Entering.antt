-- The rows before a block and at its points: computed from the states at block ends, they are those of paths.
-- The idea: the rows before a block are the reaching states of its predecessors, and the empty row before block 0.
use mathlib.Core.Path.{◌≡◌, refl, sym, ap, ◌∙◌}
use mathlib.Core.Logic.{◌⊎◌, inl, inr, ◌↔◌}
use mathlib.Core.Bool.{Bool, true, false, false≢true}
use mathlib.Core.List.{List, [], ◌∷◌, ◌++◌, map, append-nil}
use Prim.Native.Nat.{ℕ, zero, suc, ◌+◌, ◌≤◌, ◌<◌}
use native.Mathlib.Omega.{arith}
use lib.Dec.{eqb}
use lib.ListN.{length, take, drop}
use lib.Seq.{take-length, drop-length}
use borrow.Author.Tests.{eqb-true, eqb-false}
use Rattle.cache.specs.Cache.{Cache, Policy, one_line, empty_row, refer_all, with_references}
use Rattle.cache.specs.Firsts.{ahead, firsts_over}
use Rattle.cache.proofs.Rows.{refer_all-append, ahead-append}
use Rattle.model.specs.Lists.{mem}
use Rattle.model.specs.Tasks.{Task, block, Done, PathFrom, stay, step, PathTo, references}
use Rattle.model.specs.States.{ReachesOn, LivesOn, ReachesPointOn, LivesPointOn, Reaches, Lives, ReachesPoint, LivesPoint}
use Rattle.model.specs.Computed.{State, same_state, inside, nexts, reaching_states_on, entering_on, entering, up_from, dones}
use Rattle.model.proofs.Membership.{or_cases, or_left, or_right, one-is, one_has, same_state_self, same_state_true, mem_append_left, mem_append_right, mem-append_cases, states_has, states_only, inside_has, inside_only}
use Rattle.model.proofs.Closure.{nexts_has, nexts_only}
use Rattle.model.proofs.Policies.{Lawful, one_lawful}
use Rattle.model.proofs.Paths.{path-first, path-last, path_snoc, references_join}
use Rattle.model.proofs.Exact.{any-reaching_exact}

-- ---- how many references may be done

up_from_has : (d from left : ℕ) → from ≤ d → d < from + left → mem eqb d (up_from from left) ≡ true
up_from_has d from zero l h = absurd (omega arith)
up_from_has d from (suc left) l h = go (eqb d from) refl (λ q. up_from_has d (suc from) left q (omega arith))
  where
    go : (b : Bool) → eqb d from ≡ b → (suc from ≤ d → mem eqb d (up_from (suc from) left) ≡ true) → mem eqb d (from ∷ up_from (suc from) left) ≡ true
    go true e ih = or_left (eqb d from) (mem eqb d (up_from (suc from) left)) e
    go false e ih = or_right (eqb d from) (mem eqb d (up_from (suc from) left)) (ih (omega (arith, eqb-false d from e)))

up_from_only : (d from left : ℕ) → mem eqb d (up_from from left) ≡ true → (from ≤ d) × (d < from + left)
up_from_only d from zero e = absurd (false≢true e)
up_from_only d from (suc left) e = go (or_cases (eqb d from) (mem eqb d (up_from (suc from) left)) e) (λ q. up_from_only d (suc from) left q)
  where
    go : (eqb d from ≡ true) ⊎ (mem eqb d (up_from (suc from) left) ≡ true) → (mem eqb d (up_from (suc from) left) ≡ true → (suc from ≤ d) × (d < suc from + left))
        → (from ≤ d) × (d < from + suc left)
    go (inl q) ih = let z = eqb-true d from q in (omega arith, omega arith)
    go (inr q) ih = let (a, b) = ih q in (omega arith, omega arith)

pub dones_exact : (ms : List ℕ) (d : ℕ) → (mem eqb d (dones ms) ≡ true) ↔ Done ms d
dones_exact [] d = (λ e. one-is d 0 e, λ h. rw h (one_has 0))
dones_exact (m ∷ ms) d = (λ e. let (a, b) = up_from_only d 1 (length (m ∷ ms)) e in (a, omega arith), λ h. up_from_has d 1 (length (m ∷ ms)) h.0 (omega (arith, h.1)))

-- all references done is one of them
pub done_all_lem : (ms : List ℕ) → Done ms (length ms)
done_all_lem [] = refl
done_all_lem (m ∷ ms) = (omega arith, omega arith)

-- ---- the last step of a path

abbrev tail : List ℕ → List ℕ
tail [] = []
tail (x ∷ xs) = xs

abbrev head : List ℕ → ℕ
head [] = 0
head (x ∷ xs) = x

abbrev some : List ℕ → Bool
some [] = false
some (x ∷ xs) = true

snoc_some : (q : List ℕ) (c : ℕ) → some (q ++ (c ∷ [])) ≡ true
snoc_some [] c = refl
snoc_some (x ∷ q) c = refl

module _ (t : Task) where
  -- a path over the blocks q to a block that leads to e
  pub record LastStep (b : ℕ) (q : List ℕ) (e : ℕ) : Type 0 where
    pub from : ℕ
    pub path : PathFrom t b q from
    pub leads : mem eqb e (block t from).successors ≡ true

  last_one_lem : {b d e : ℕ} {p : List ℕ} → mem eqb d (block t b).successors ≡ true → PathFrom t d p e → p ≡ [] → LastStep b [] e
  last_one_lem {b = b} m (stay l) y = record { from = b; path = stay (path-first t (step m (stay l))); leads = m }
  last_one_lem m (step m' w) y = absurd (false≢true (sym (ap some y)))

  last_more : {b d e : ℕ} (x : ℕ) (q : List ℕ) → d ≡ x → mem eqb d (block t b).successors ≡ true → LastStep d q e → LastStep b (x ∷ q) e
  last_more x q z m h = record { from = h.from; path = rw (← z) (step m h.path); leads = h.leads }

  last_step : {b e : ℕ} {p : List ℕ} (q : List ℕ) (c : ℕ) → PathFrom t b p e → p ≡ q ++ (c ∷ []) → LastStep b q e
  last_step q c (stay l) z = absurd (false≢true (ap some z ∙ snoc_some q c))
  last_step [] c (step m w) z = last_one_lem m w (ap tail z)
  last_step (x ∷ q) c (step m w) z = last_more x q (ap head z) m (last_step q c w (ap tail z))

  -- the blocks of a path before its last
  path-before : {b e : ℕ} {p : List ℕ} → PathFrom t b p e → (before : List ℕ) × (b ∷ p ≡ before ++ (e ∷ []))
  path-before (stay l) = ([], refl)
  path-before {b} (step m w) = let (before, q) = path-before w in (b ∷ before, ap (λ (l : List ℕ). b ∷ l) q)

-- ---- rows before a block

module _ (k : Policy) (law : Lawful k) (t : Task) where
  -- the rows before the references of the block b, over every path from block 0 to it
  abbrev pub EntersOn : ℕ → List ℕ → Type 0
  EntersOn b e = (before : List ℕ) × PathTo t before b × (e ≡ refer_all k k.first (references t before))

  pub any-enters-first : 0 < length t → EntersOn 0 k.first
  any-enters-first l = ([], ([], stay l, refl), refl)

  pub any-enters_on : (a b : ℕ) (r : List ℕ) → ReachesOn k t a r → mem eqb b (block t a).successors ≡ true → b < length t → EntersOn b r
  any-enters_on a b r (p, w, d) m l = (0 ∷ p, (p ++ (b ∷ []), path_snoc t b w m l, refl), d)

  -- nothing came before, or a predecessor did
  abbrev pub EntersFromOn : ℕ → List ℕ → Type 0
  EntersFromOn b e = ((b ≡ 0) × (e ≡ k.first)) ⊎ ((a : ℕ) × ReachesOn k t a e × (mem eqb b (block t a).successors ≡ true))

  pub any-enters_cases : (b : ℕ) (e : List ℕ) → EntersOn b e → EntersFromOn b e
  any-enters_cases b e ([], (p, w, q), d) = inl (zero_is q, d)
    where
      zero_is : 0 ∷ p ≡ b ∷ [] → b ≡ 0
      zero_is z = cc
  any-enters_cases b e (c ∷ before, (p, w, q), d) =
      let h = last_step t before b w (ap tail q) in inr (h.from, (before, h.path, d ∙ ap (λ (x : ℕ). refer_all k k.first (references t (x ∷ before))) (zero_is q)), h.leads)
    where
      zero_is : 0 ∷ p ≡ c ∷ (before ++ (b ∷ [])) → c ≡ 0
      zero_is z = cc

  enters_below : (b : ℕ) (e : List ℕ) → EntersOn b e → b < length t
  enters_below b e (before, (p, w, q), d) = path-last t w

  -- ---- computed rows before a block

  abbrev onward : State → List State
  onward x = map (λ (s : ℕ). (s, x.1)) (inside t (block t x.0).successors)

  enters_has : (b : ℕ) (e : List ℕ) → b < length t → EntersFromOn b e → mem same_state (b, e) (entering_on k t) ≡ true
  enters_has b e l (inl (z, d)) =
      rw (z, d) (mem_append_left same_state same_state_self same_state_true (0, k.first) (map (λ (s : ℕ). (s, k.first)) (inside t (0 ∷ []))) (nexts onward (reaching_states_on k t))
      (states_has (λ (s : ℕ). (s, k.first)) 0 (inside t (0 ∷ [])) (inside_has t 0 (0 ∷ []) (rw z at l) (one_has 0))))
  enters_has b e l (inr (a, h, m)) =
      mem_append_right same_state same_state_self same_state_true (b, e) (map (λ (s : ℕ). (s, k.first)) (inside t (0 ∷ []))) (nexts onward (reaching_states_on k t))
      (nexts_has same_state same_state_self same_state_true onward (a, e) (b, e) (reaching_states_on k t) ((any-reaching_exact k law t a e).1 h)
      (states_has (λ (s : ℕ). (s, e)) b (inside t (block t a).successors) (inside_has t b (block t a).successors l m)))

  state_enters : (x y : State) → y ≡ x → EntersOn x.0 x.1 → EntersOn y.0 y.1
  state_enters x y q h = rw q h

  enters_only : (y : State) → mem same_state y (entering_on k t) ≡ true → EntersOn y.0 y.1
  enters_only y e = go (mem-append_cases same_state same_state_self same_state_true y (map (λ (s : ℕ). (s, k.first)) (inside t (0 ∷ []))) (nexts onward (reaching_states_on k t)) e)
    where
      first : (s : ℕ) → mem eqb s (inside t (0 ∷ [])) ≡ true → EntersOn s k.first
      first s m = let (l, o) = inside_only t s (0 ∷ []) m in let z = one-is s 0 o in rw z (any-enters-first (rw z at l))

      later : (x : State) (s : ℕ) → mem same_state x (reaching_states_on k t) ≡ true → mem eqb s (inside t (block t x.0).successors) ≡ true → EntersOn s x.1
      later x s h m = let (l, o) = inside_only t s (block t x.0).successors m in any-enters_on x.0 s x.1 ((any-reaching_exact k law t x.0 x.1).0 h) o l

      go : (mem same_state y (map (λ (s : ℕ). (s, k.first)) (inside t (0 ∷ []))) ≡ true) ⊎ (mem same_state y (nexts onward (reaching_states_on k t)) ≡ true) → EntersOn y.0 y.1
      go (inl q) = let (s, m, d) = states_only (λ (s : ℕ). (s, k.first)) y (inside t (0 ∷ [])) q in state_enters (s, k.first) y d (first s m)
      go (inr q) =
          let (x, h, n) = nexts_only same_state same_state_self same_state_true onward y (reaching_states_on k t) q in
          let (s, m, d) = states_only (λ (s : ℕ). (s, x.1)) y (inside t (block t x.0).successors) n in
          state_enters (s, x.1) y d (later x s h m)

  -- a block is computed with a row exactly when some path comes to the block with it
  pub any-entering_exact : (b : ℕ) (e : List ℕ) → (mem same_state (b, e) (entering_on k t) ≡ true) ↔ EntersOn b e
  any-entering_exact b e = (λ m. enters_only (b, e) m, λ h. enters_has b e (enters_below b e h) (any-enters_cases b e h))

  -- ---- rows at a point, from the rows before the block and those after it

  pub any-at_point : (b d : ℕ) (e : List ℕ) → EntersOn b e → ReachesPointOn k t b d (refer_all k e (take d (block t b).references))
  any-at_point b d e (before, p, q) = (before, p, rw (q, refer_all-append k k.first (references t before) (take d (block t b).references)))

  left-row : (b d : ℕ) (p : List ℕ)
      → k.next (drop d (block t b).references ++ references t p) ≡ ahead k (drop d (block t b).references) (k.next (references t p))
  left-row b d p =
      law.next-is (drop d (block t b).references ++ references t p)
      ∙ ahead-append k (drop d (block t b).references) (references t p) k.first
      ∙ ap (ahead k (drop d (block t b).references)) (sym (law.next-is (references t p)))

  pub any-live_point : (b d : ℕ) (l : List ℕ) → LivesOn k t b l → LivesPointOn k t b d (ahead k (drop d (block t b).references) l)
  any-live_point b d l (p, w, q) = (p, w, rw q (sym (left-row b d p)))

  pub record BeforePointOn (b d : ℕ) (row : List ℕ) : Type 0 where
    pub before : List ℕ
    pub enters : EntersOn b before
    pub same : row ≡ refer_all k before (take d (block t b).references)

  pub any_point_before : (b d : ℕ) (row : List ℕ) → ReachesPointOn k t b d row → BeforePointOn b d row
  any_point_before b d row (before, p, q) = record {
    before = refer_all k k.first (references t before);
    enters = (before, p, refl);
    same = q ∙ refer_all-append k k.first (references t before) (take d (block t b).references);
  }

  pub record AfterPointOn (b d : ℕ) (row : List ℕ) : Type 0 where
    pub after : List ℕ
    pub lives : LivesOn k t b after
    pub same : row ≡ ahead k (drop d (block t b).references) after

  pub any_point_after : (b d : ℕ) (row : List ℕ) → LivesPointOn k t b d row → AfterPointOn b d row
  any_point_after b d row (p, w, q) = record { after = k.next (references t p); lives = (p, w, refl); same = q ∙ left-row b d p }

  -- the block of a point is one of the task
  pub any_point_inside : (b d : ℕ) (row : List ℕ) → ReachesPointOn k t b d row → b < length t
  any_point_inside b d row (before, (p, w, q), e) = path-last t w

  -- ---- where all references of the block are done, the point is the block's end

  all_done_lem : (before p : List ℕ) (b : ℕ) → 0 ∷ p ≡ before ++ (b ∷ [])
      → references t before ++ take (length (block t b).references) (block t b).references ≡ references t (0 ∷ p)
  all_done_lem before p b q =
      ap (λ (ms : List ℕ). references t before ++ ms) (take-length (block t b).references ∙ sym (append-nil (block t b).references))
      ∙ sym (references_join t before (b ∷ [])) ∙ ap (references t) (sym q)

  pub any_point_reaches : (b : ℕ) (row : List ℕ) → ReachesPointOn k t b (length (block t b).references) row ↔ ReachesOn k t b row
  any_point_reaches b row = (
    λ (before, (p, w, q), e). (p, w, e ∙ ap (refer_all k k.first) (all_done_lem before p b q)),
    λ (p, w, e). let (before, q) = path-before t w in (before, (p, w, q), e ∙ ap (refer_all k k.first) (sym (all_done_lem before p b q))),
  )

  pub any_point_lives : (b : ℕ) (row : List ℕ) → LivesPointOn k t b (length (block t b).references) row ↔ LivesOn k t b row
  any_point_lives b row = (
    λ (p, w, e). (p, w, e ∙ ap (λ (ms : List ℕ). k.next (ms ++ references t p)) (drop-length (block t b).references)),
    λ (p, w, e). (p, w, e ∙ ap (λ (ms : List ℕ). k.next (ms ++ references t p)) (sym (drop-length (block t b).references))),
  )

-- ---- document 01's cache

module _ (k : Cache) (t : Task) where
  abbrev pub Enters : ℕ → List ℕ → Type 0
  Enters = EntersOn (one_line k) (one_lawful k) t

  abbrev pub EntersFrom : ℕ → List ℕ → Type 0
  EntersFrom = EntersFromOn (one_line k) (one_lawful k) t

  abbrev pub BeforePoint : ℕ → ℕ → List ℕ → Type 0
  BeforePoint = BeforePointOn (one_line k) (one_lawful k) t

  abbrev pub AfterPoint : ℕ → ℕ → List ℕ → Type 0
  AfterPoint = AfterPointOn (one_line k) (one_lawful k) t

  pub enters-first : 0 < length t → Enters 0 (empty_row k)
  enters-first = any-enters-first (one_line k) (one_lawful k) t

  pub enters_on : (a b : ℕ) (r : List ℕ) → Reaches k t a r → mem eqb b (block t a).successors ≡ true → b < length t → Enters b r
  enters_on = any-enters_on (one_line k) (one_lawful k) t

  pub enters_cases : (b : ℕ) (e : List ℕ) → Enters b e → EntersFrom b e
  enters_cases = any-enters_cases (one_line k) (one_lawful k) t

  pub entering_exact : (b : ℕ) (e : List ℕ) → (mem same_state (b, e) (entering k t) ≡ true) ↔ Enters b e
  entering_exact = any-entering_exact (one_line k) (one_lawful k) t

  pub at_point : (b d : ℕ) (e : List ℕ) → Enters b e → ReachesPoint k t b d (with_references k e (take d (block t b).references))
  at_point = any-at_point (one_line k) (one_lawful k) t

  pub live_point : (b d : ℕ) (l : List ℕ) → Lives k t b l → LivesPoint k t b d (firsts_over k (drop d (block t b).references) l)
  live_point = any-live_point (one_line k) (one_lawful k) t

  pub point_before : (b d : ℕ) (row : List ℕ) → ReachesPoint k t b d row → BeforePoint b d row
  point_before = any_point_before (one_line k) (one_lawful k) t

  pub point_after_lem : (b d : ℕ) (row : List ℕ) → LivesPoint k t b d row → AfterPoint b d row
  point_after_lem = any_point_after (one_line k) (one_lawful k) t

  pub point_inside : (b d : ℕ) (row : List ℕ) → ReachesPoint k t b d row → b < length t
  point_inside = any_point_inside (one_line k) (one_lawful k) t

  pub point_reaches : (b : ℕ) (row : List ℕ) → ReachesPoint k t b (length (block t b).references) row ↔ Reaches k t b row
  point_reaches = any_point_reaches (one_line k) (one_lawful k) t

  pub point_lives : (b : ℕ) (row : List ℕ) → LivesPoint k t b (length (block t b).references) row ↔ Lives k t b row
  point_lives = any_point_lives (one_line k) (one_lawful k) t
