-- References made in order, and first references, as a row laid over another: for every width and place function.
-- A place of an overlaid row is told by that place of both rows; a reference is never nothing, so it shows.
use mathlib.Core.Path.{◌≡◌, refl, sym, ap, ◌∙◌}
use mathlib.Core.Bool.{Bool, true, false, cond}
use mathlib.Core.List.{List, [], ◌∷◌}
use Prim.Native.Nat.{ℕ, zero, suc, ◌<◌}
use native.Mathlib.Nat.{not-suc-le-zero}
use native.Mathlib.Omega.{arith}
use lib.Dec.{eqb}
use lib.ListN.{length}
use lib.Seq.{ext_get_or}
use borrow.Author.Tests.{eq-eqb, ne_eqb}
use Rattle.cache.specs.References.{nothing, Real, All}
use Rattle.cache.specs.Cache.{Cache, held, empty_row, with_references, first_references}
use Rattle.cache.specs.Firsts.{firsts_over}
use Rattle.cache.proofs.Rows.{length-empty_row, held-empty_row, length-with_references, length-firsts_over, held-with_reference, Effect, kept, given, effect, first_references_fold}
use Rattle.rows.specs.Overlay.{overlay}

pub length-overlay : (row over : List ℕ) → length (overlay row over) ≡ length row
length-overlay [] over = refl
length-overlay (x ∷ row) [] = refl
length-overlay (x ∷ row) (y ∷ over) = ap suc (length-overlay row over)

pub held-overlay : (row over : List ℕ) (c : ℕ) → c < length row → held (overlay row over) c ≡ cond (eqb (held over c) nothing) (held row c) (held over c)
held-overlay [] over c l = absurd (not-suc-le-zero l)
held-overlay (x ∷ row) [] c l = rw (eq-eqb nothing nothing refl)
held-overlay (x ∷ row) (y ∷ over) zero l = refl
held-overlay (x ∷ row) (y ∷ over) (suc c) l = held-overlay row over c (omega arith)

module _ (k : Cache) where
  -- an overlaid row is known by its places
  overlaid : (row over new : List ℕ) → length row ≡ k.width → length over ≡ k.width → length new ≡ k.width
      → ((c : ℕ) → c < k.width → cond (eqb (held over c) nothing) (held row c) (held over c) ≡ held new c) → overlay row over ≡ new
  overlaid row over new r o n h =
      ext_get_or nothing (overlay row over) new (length-overlay row over ∙ r ∙ sym n)
      (λ c l. let inside : c < length row = rw (length-overlay row over) at l in held-overlay row over c inside ∙ h c (rw r at inside))

  pub overlay_empty : (row : List ℕ) → length row ≡ k.width → overlay row (empty_row k) ≡ row
  overlay_empty row e = overlaid row (empty_row k) row e (length-empty_row k) e (λ c l. rw (eq-eqb (held (empty_row k) c) nothing (held-empty_row k c l)))

  pub overlay-references : (row ms : List ℕ) → length row ≡ k.width → All Real ms → overlay row (with_references k (empty_row k) ms) ≡ with_references k row ms
  overlay-references row ms e a =
      overlaid row (with_references k (empty_row k) ms) (with_references k row ms) e (length-with_references k ms (empty_row k) (length-empty_row k))
      (length-with_references k ms row e) (λ c l. at c l (effect k Real ms c l a))
    where
      at : (c : ℕ) → c < k.width → Effect k Real c ms
          → cond (eqb (held (with_references k (empty_row k) ms) c) nothing) (held row c) (held (with_references k (empty_row k) ms) c) ≡ held (with_references k row ms) c
      at c l (kept h) =
          let none = h (empty_row k) (length-empty_row k) ∙ held-empty_row k c l in
          rw (eq-eqb (held (with_references k (empty_row k) ms) c) nothing none) (sym (h row e))
      at c l (given f p h) =
          let f' = h (empty_row k) (length-empty_row k) in
          rw (f', ne_eqb f nothing p) (sym (h row e))

  first-at : (row ms : List ℕ) (c : ℕ) → c < k.width → length row ≡ k.width → All Real ms
      → cond (eqb (held (firsts_over k ms (empty_row k)) c) nothing) (held row c) (held (firsts_over k ms (empty_row k)) c) ≡ held (firsts_over k ms row) c
  first-at row [] c l e a = rw (eq-eqb (held (empty_row k) c) nothing (held-empty_row k c l))
  first-at row (m ∷ ms) c l e a =
      rw (
        held-with_reference k (firsts_over k ms (empty_row k)) m c (length-firsts_over k ms (empty_row k) (length-empty_row k)) l,
        held-with_reference k (firsts_over k ms row) m c (length-firsts_over k ms row e) l,
      ) (go (eqb (k.place m) c) (first-at row ms c l e a.1))
    where
      go : (b : Bool) → cond (eqb (held (firsts_over k ms (empty_row k)) c) nothing) (held row c) (held (firsts_over k ms (empty_row k)) c) ≡ held (firsts_over k ms row) c
          → cond (eqb (cond b m (held (firsts_over k ms (empty_row k)) c)) nothing) (held row c) (cond b m (held (firsts_over k ms (empty_row k)) c))
          ≡ cond b m (held (firsts_over k ms row) c)
      go true ih = rw (ne_eqb m nothing a.0)
      go false ih = ih

  pub overlay-firsts : (row ms : List ℕ) → length row ≡ k.width → All Real ms → overlay row (first_references k ms) ≡ firsts_over k ms row
  overlay-firsts row ms e a =
      ap (overlay row) (first_references_fold k ms)
      ∙ overlaid row (firsts_over k ms (empty_row k)) (firsts_over k ms row) e (length-firsts_over k ms (empty_row k) (length-empty_row k)) (length-firsts_over k ms row e)
      (λ c l. first-at row ms c l e a)
