-- The computed test of check 9 agrees with its definition: `on_path_exact` for one block, `all_on_path_exact` for a task.
-- The idea: a complete path through a block is a path to it joined with a path from it, and steps of a closure are such paths.
use mathlib.Core.Path.{◌≡◌, refl}
use mathlib.Core.Logic.{◌⊎◌, inl, inr, ◌↔◌}
use mathlib.Core.Bool.{Bool, true, false}
use mathlib.Core.List.{List, [], ◌∷◌, ◌++◌}
use Prim.Native.Nat.{ℕ, zero, suc, ◌<◌}
use native.Mathlib.Nat.{zero-add, not-suc-le-zero}
use native.Mathlib.Omega.{arith}
use lib.Dec.{eqb}
use lib.ListN.{length}
use borrow.Author.Tests.{eqb-true, eqb-false}
use Rattle.model.specs.Lists.{mem}
use Rattle.model.specs.Tasks.{Task, block, end, PathFrom, stay, step, OnCompletePath}
use Rattle.model.specs.Computed.{inside, predecessors_from}
use Rattle.model.specs.OnPath.{onward, from_entry, to_end, on_path, on_path_below, all_on_path}
use Rattle.model.proofs.Membership.{or_cases, or_left, or_right, both_left, both_right, eqb_self, one-is, one_has, inside_has, inside_only, mem_append_left}
use Rattle.model.proofs.Closure.{Reach, start, further, close_exact}
use Rattle.model.proofs.Universe.{upto, length_upto, mem_upto}
use Rattle.model.proofs.Paths.{path-first, path_snoc, path_join, predecessors_has, predecessors_only, Predecessor}

module _ (t : Task) where
  -- some path leads from the block a to the block b
  abbrev pub Leads : ℕ → ℕ → Type 0
  Leads a b = (p : List ℕ) × PathFrom t a p b

  abbrev Below : ℕ → Type 0
  Below b = b < length t

  -- ---- from the entry

  abbrev Forward : ℕ → Type 0
  Forward b = Reach eqb (onward t) (inside t (0 ∷ [])) b

  forward_path : {b : ℕ} → Forward b → Leads 0 b
  forward_path (start {x = b} e) =
      let (l, o) = inside_only t b (0 ∷ []) e in
      rw (one-is b 0 o) ([], stay (rw (one-is b 0 o) at l))
  forward_path (further {x = a} {y = b} r e) =
      let (l, o) = inside_only t b (block t a).successors e in
      let (p, w) = forward_path r in
      (p ++ (b ∷ []), path_snoc t b w o l)

  path_forward : {a b : ℕ} {p : List ℕ} → Forward a → PathFrom t a p b → Forward b
  path_forward h (stay l) = h
  path_forward {a} h (step {c = c} m w) = path_forward (further h (inside_has t c (block t a).successors (path-first t w) m)) w

  pub from_entry_exact : (b : ℕ) → (mem eqb b (from_entry t) ≡ true) ↔ Leads 0 b
  from_entry_exact b = (λ e. forward_path (computed.0 e), λ (p, w). computed.1 (path_forward (start (inside_has t 0 (0 ∷ []) (path-first t w) (one_has 0))) w))
    where
      computed : (mem eqb b (from_entry t) ≡ true) ↔ Forward b
      computed =
          close_exact eqb eqb_self eqb-true (onward t) (upto (length t)) Below (λ x y h e. (inside_only t y (block t x).successors e).0) (λ x h. mem_upto (length t) x h)
          (inside t (0 ∷ [])) (λ x e. (inside_only t x (0 ∷ []) e).0) (length t) (omega (arith, length_upto (length t))) b

  -- ---- to the end

  abbrev Backward : ℕ → Type 0
  Backward b = Reach eqb (predecessors_from 0 t) (inside t (end t ∷ [])) b

  leads-step : (a b : ℕ) → Predecessor t 0 a b → mem eqb b (block t a).successors ≡ true
  leads-step a b h = rw (h.counted, zero-add) h.leads

  backward_path : {b : ℕ} → Backward b → Leads b (end t)
  backward_path (start {x = b} e) =
      let (l, o) = inside_only t b (end t ∷ []) e in
      rw (one-is b (end t) o) ([], stay (rw (one-is b (end t) o) at l))
  backward_path (further {x = b} {y = a} r e) =
      let (p, w) = backward_path r in
      (b ∷ p, step (leads-step a b (predecessors_only t 0 a b e)) w)

  path_backward : {a b : ℕ} {p : List ℕ} → b ≡ end t → PathFrom t a p b → Backward a
  path_backward {a} q (stay l) = start (inside_has t a (end t ∷ []) l (rw q (one_has (end t))))
  path_backward {a} q (step {c = c} m w) = further (path_backward q w) (rw zero-add at (predecessors_has t 0 a c m))

  pub to_end_exact : (b : ℕ) → (mem eqb b (to_end t) ≡ true) ↔ Leads b (end t)
  to_end_exact b = (λ e. backward_path (computed.0 e), λ (p, w). computed.1 (path_backward refl w))
    where
      below : (x y : ℕ) → Below x → mem eqb y (predecessors_from 0 t x) ≡ true → Below y
      below x y h e = let r = predecessors_only t 0 y x e in omega (arith, r.counted, r.below)

      computed : (mem eqb b (to_end t) ≡ true) ↔ Backward b
      computed =
          close_exact eqb eqb_self eqb-true (predecessors_from 0 t) (upto (length t)) Below below (λ x h. mem_upto (length t) x h)
          (inside t (end t ∷ [])) (λ x e. (inside_only t x (end t ∷ []) e).0) (length t) (omega (arith, length_upto (length t))) b

  -- ---- on a complete path

  path_has_last : {a b : ℕ} {p : List ℕ} → PathFrom t a p b → mem eqb b (a ∷ p) ≡ true
  path_has_last {a} (stay l) = or_left (eqb a a) false (eqb_self a)
  path_has_last {a} {b} (step {c = c} {p = p} m w) = or_right (eqb b a) (mem eqb b (c ∷ p)) (path_has_last w)

  -- a path through a block is a path to it and a path from it
  path_split : {a e : ℕ} {p : List ℕ} (b : ℕ) → PathFrom t a p e → mem eqb b (a ∷ p) ≡ true → Leads a b × Leads b e
  path_split {a} b (stay l) h = let q : b ≡ a = one-is b a h in (([], rw q (stay l)), ([], rw q (stay l)))
  path_split {a} {e} b (step {c = c} {p = p} m w) h = go (or_cases (eqb b a) (mem eqb b (c ∷ p)) h) (path_split b w)
    where
      go : (eqb b a ≡ true) ⊎ (mem eqb b (c ∷ p) ≡ true) → (mem eqb b (c ∷ p) ≡ true → Leads c b × Leads b e) → Leads a b × Leads b e
      go (inl q) ih = let z : b ≡ a = eqb-true b a q in (([], rw z (stay (path-first t (step m w)))), (c ∷ p, rw z (step m w)))
      go (inr q) ih = let ((u, x), y) = ih q in ((c ∷ u, step m x), y)

  -- a block on a complete path has a path to it from block 0, and one from it to the end block
  pub to_and_from : (b : ℕ) → OnCompletePath t b → Leads 0 b × Leads b (end t)
  to_and_from b ([], c, h) = absurd c
  to_and_from b (a ∷ p, (z, w), h) = path_split b (rw z at w) (rw z at h)

  pub on_path_exact : (b : ℕ) → (on_path t b ≡ true) ↔ OnCompletePath t b
  on_path_exact b = (there, back)
    where
      there : on_path t b ≡ true → OnCompletePath t b
      there e =
          let (p, v) = (from_entry_exact b).0 (both_left (mem eqb b (from_entry t)) (mem eqb b (to_end t)) e) in
          let (q, w) = (to_end_exact b).0 (both_right (mem eqb b (from_entry t)) (mem eqb b (to_end t)) e) in
          (0 ∷ (p ++ q), (refl, path_join t v w), mem_append_left eqb eqb_self eqb-true b (0 ∷ p) q (path_has_last v))

      back : OnCompletePath t b → on_path t b ≡ true
      back h = let (v, w) = to_and_from b h in rw ((from_entry_exact b).1 v, (to_end_exact b).1 w)

  below_exact : (n : ℕ) → (on_path_below t n ≡ true) ↔ ((b : ℕ) → b < n → OnCompletePath t b)
  below_exact zero = (λ e b l. absurd (not-suc-le-zero l), λ h. refl)
  below_exact (suc n) = (there (below_exact n).0, back (below_exact n).1)
    where
      there : (on_path_below t n ≡ true → (b : ℕ) → b < n → OnCompletePath t b) → on_path_below t (suc n) ≡ true → (b : ℕ) → b < suc n → OnCompletePath t b
      there ih e b l = go (eqb b n) refl
        where
          go : (s : Bool) → eqb b n ≡ s → OnCompletePath t b
          go true q = rw (eqb-true b n q) ((on_path_exact n).0 (both_left (on_path t n) (on_path_below t n) e))
          go false q = ih (both_right (on_path t n) (on_path_below t n) e) b (omega (arith, eqb-false b n q))

      back : (((b : ℕ) → b < n → OnCompletePath t b) → on_path_below t n ≡ true) → ((b : ℕ) → b < suc n → OnCompletePath t b) → on_path_below t (suc n) ≡ true
      back ih h = rw ((on_path_exact n).1 (h n (omega arith)), ih (λ b l. h b (omega arith)))

  -- "Every block must lie on a complete path."
  pub all_on_path_exact : (all_on_path t ≡ true) ↔ ((b : ℕ) → b < length t → OnCompletePath t b)
  all_on_path_exact = below_exact (length t)
