-- The turns of the loop that overlays a row are steps of its definition.
-- What `over` holds below c, laid over the row, is the row after c turns.
use mathlib.Core.Path.{◌≡◌, refl, sym, ap, ◌∙◌}
use mathlib.Core.Logic.{◌≢◌}
use mathlib.Core.Bool.{cond}
use mathlib.Core.List.{List, [], ◌∷◌}
use Prim.Native.Nat.{ℕ, zero, suc, ◌+◌, ◌≤◌, ◌<◌}
use native.Mathlib.Numerals.{add-one}
use native.Mathlib.Omega.{arith}
use lib.Dec.{eqb}
use lib.ListN.{length, get_or, take, set}
use lib.Seq.{take_all}
use borrow.Author.Tests.{eq-eqb, ne_eqb}
use Rattle.cache.specs.References.{nothing}
use Rattle.rows.specs.Overlay.{overlay}

pub overlay-none : (row : List ℕ) → overlay row [] ≡ row
overlay-none [] = refl
overlay-none (x ∷ row) = refl

overlay-kept : (row over : List ℕ) (c : ℕ) → c < length over → get_or over c 0 ≡ nothing → overlay row (take (suc c) over) ≡ overlay row (take c over)
overlay-kept [] over c h e = refl
overlay-kept (x ∷ row) [] c h e = absurd (omega arith)
overlay-kept (x ∷ row) (y ∷ over) zero h e = rw (eq-eqb y nothing e, overlay-none row)
overlay-kept (x ∷ row) (y ∷ over) (suc c) h e = ap (λ (l : List ℕ). cond (eqb y nothing) x y ∷ l) (overlay-kept row over c (omega arith) e)

overlay-set : (row over : List ℕ) (c : ℕ) → c < length over → get_or over c 0 ≢ nothing
    → overlay row (take (suc c) over) ≡ set (overlay row (take c over)) c (get_or over c 0)
overlay-set [] over c h e = refl
overlay-set (x ∷ row) [] c h e = absurd (omega arith)
overlay-set (x ∷ row) (y ∷ over) zero h e = rw (ne_eqb y nothing e, overlay-none row)
overlay-set (x ∷ row) (y ∷ over) (suc c) h e = ap (λ (l : List ℕ). cond (eqb y nothing) x y ∷ l) (overlay-set row over c (omega arith) e)

-- ---- the loop that overlays

module _ (row over : List ℕ) (c : ℕ) (inside : c < length over) where
  pub overlay_in : {held next : List ℕ} → held ≡ overlay row (take c over) → (get_or over c 0 ≡ 65535 → ⊥) → next ≡ set held c (get_or over c 0)
      → next ≡ overlay row (take (c + 1) over)
  unfolding nothing
  overlay_in e h q = q ∙ ap (λ (l : List ℕ). set l c (get_or over c 0)) e ∙ sym (rw add-one (overlay-set row over c inside h))

  pub overlay_out : {held next : List ℕ} → held ≡ overlay row (take c over) → get_or over c 0 ≡ 65535 → next ≡ held → next ≡ overlay row (take (c + 1) over)
  unfolding nothing
  overlay_out e h q = q ∙ e ∙ sym (rw add-one (overlay-kept row over c inside h))

pub overlay-all : (row over : List ℕ) (c : ℕ) {held : List ℕ} → length over ≤ c → held ≡ overlay row (take c over) → held ≡ overlay row over
overlay-all row over c h e = e ∙ ap (overlay row) (take_all c over h)
