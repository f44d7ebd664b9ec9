-- Document 02, Point 4, for every width and place function: before the first reference both rows hold nothing, and one more reference leads from the rows of
-- the references so far to those with it. So they are the rows of every prefix of what is read; and in words they hold the first and the last reference to
-- each cache block, nothing where there is none.
use mathlib.Core.Path.{◌≡◌, refl, sym, ap, ◌∙◌}
use mathlib.Core.Logic.{◌⊎◌, inl, inr}
use mathlib.Core.Bool.{Bool, true, false}
use mathlib.Core.List.{List, [], ◌∷◌}
use Prim.Native.Nat.{ℕ, zero, suc, ◌+◌, ◌*◌, ◌/◌, ◌≤◌, ◌<◌}
use native.Mathlib.Numerals.{add-one}
use native.Mathlib.Nat.{zero-add}
use native.Mathlib.Omega.{arith}
use lib.Dec.{eqb}
use lib.ListN.{length, take}
use borrow.Author.Tests.{eqb-true, eqb-false}
use Rattle.cache.specs.References.{nothing, Real, All, number_at, numbers}
use Rattle.cache.specs.Cache.{Cache, Row, held, empty_row, with_reference, with_references, first_reference}
use Rattle.cache.specs.Firsts.{with_first}
use Rattle.cache.specs.SoFar.{RowsSoFar, OneMore, NoneTo, ReferenceTo, FirstTo, LastTo, CellSoFar}
use Rattle.cache.proofs.Rows.{length-empty_row, held-empty_row, length-with_reference, length-with_references, held-with_reference, with_references-append, first_references_fold, length-row_from, row_from-at}
use Rattle.cache.proofs.Firsts.{first_references_more}
use Rattle.cache.proofs.NumberLaws.{All-take, take-numbers}

module _ (k : Cache) where
  pub none_so_far : RowsSoFar k [] (empty_row k) (empty_row k)
  none_so_far = record { firsts = sym (first_references_fold k []); lasts = refl }

  pub one_more : (m : ℕ) {first last first' last' : Row} → first' ≡ with_first k first m → last' ≡ with_reference k last m → OneMore k m first last first' last'
  one_more m f l ms real so = record {
    firsts = rw (f, so.firsts, first_references_more k ms m real);
    lasts = rw (l, so.lasts, with_references-append k (empty_row k) ms (m ∷ []));
  }

  pub length_so_far : {ms : List ℕ} {first last : Row} → RowsSoFar k ms first last → (length first ≡ k.width) × (length last ≡ k.width)
  length_so_far {ms} so = (
    ap length so.firsts ∙ length-row_from k.width 0 (first_reference k ms),
    ap length so.lasts ∙ length-with_references k ms (empty_row k) (length-empty_row k),
  )

  -- ---- the walk over the references in a list of bytes

  pub next_so_far : (s : List ℕ) (i : ℕ) {m : ℕ} {first last first' last' : Row} → i < length s / 2 → All Real (numbers s) → m ≡ number_at s (2 * i)
      → OneMore k m first last first' last' → RowsSoFar k (take i (numbers s)) first last → RowsSoFar k (take (i + 1) (numbers s)) first' last'
  next_so_far s i h real e step so = rw (take-numbers s i h, ← e) (step (take i (numbers s)) (All-take Real i (numbers s) real) so)

  -- after every reference read: first i and last i are the rows after i of them
  pub every_prefix : (s : List ℕ) (first last : ℕ → Row) → All Real (numbers s) → RowsSoFar k [] (first 0) (last 0)
      → ((i : ℕ) → i < length s / 2 → OneMore k (number_at s (2 * i)) (first i) (last i) (first (i + 1)) (last (i + 1)))
      → (i : ℕ) → i ≤ length s / 2 → RowsSoFar k (take i (numbers s)) (first i) (last i)
  every_prefix s first last real start step zero h = start
  every_prefix s first last real start step (suc i) h =
      rw (← (add-one i)) (next_so_far s i (omega arith) real refl (step i (omega arith)) (every_prefix s first last real start step i (omega arith)))

  -- ---- in words

  abbrev later : (m c x : ℕ) (ms : List ℕ) → ReferenceTo k c ms x → ReferenceTo k c (m ∷ ms) x
  later m c x ms r = record { before = m ∷ r.before; after = r.after; all = ap (λ (ys : List ℕ). m ∷ ys) r.all; goes = r.goes }

  first_cell : (ms : List ℕ) (c : ℕ) → FirstTo k c ms (first_reference k ms c) ⊎ (NoneTo k c ms × (first_reference k ms c ≡ nothing))
  first_cell [] c = inr (tt, refl)
  first_cell (m ∷ ms) c = go (eqb (k.place m) c) refl (first_cell ms c)
    where
      x : ℕ
      x = first_reference k ms c

      go : (b : Bool) → eqb (k.place m) c ≡ b → FirstTo k c ms x ⊎ (NoneTo k c ms × (x ≡ nothing))
          → FirstTo k c (m ∷ ms) (first_reference k (m ∷ ms) c) ⊎ (NoneTo k c (m ∷ ms) × (first_reference k (m ∷ ms) c ≡ nothing))
      go true q found = rw q (inl (record { before = []; after = ms; all = refl; goes = eqb-true (k.place m) c q }, tt))
      go false q (inl (r, none)) = rw q (inl (later m c x ms r, (eqb-false (k.place m) c q, none)))
      go false q (inr (none, e)) = rw q (inr ((eqb-false (k.place m) c q, none), e))

  last_cell : (ms row : List ℕ) (c : ℕ) → length row ≡ k.width → c < k.width
      → LastTo k c ms (held (with_references k row ms) c) ⊎ (NoneTo k c ms × (held (with_references k row ms) c ≡ held row c))
  last_cell [] row c e h = inr (tt, refl)
  last_cell (m ∷ ms) row c e h = go (eqb (k.place m) c) refl (last_cell ms new c (length-with_reference k row m e) h)
    where
      new : Row
      new = with_reference k row m

      x : ℕ
      x = held (with_references k new ms) c

      go : (b : Bool) → eqb (k.place m) c ≡ b → LastTo k c ms x ⊎ (NoneTo k c ms × (x ≡ held new c)) → LastTo k c (m ∷ ms) x ⊎ (NoneTo k c (m ∷ ms) × (x ≡ held row c))
      go b q (inl (r, none)) = inl (later m c x ms r, none)
      go true q (inr (none, d)) =
          let is_m : x ≡ m = d ∙ held-with_reference k row m c e h ∙ rw q in
          inl (record { before = []; after = ms; all = ap (λ (y : ℕ). y ∷ ms) (sym is_m); goes = ap k.place is_m ∙ eqb-true (k.place m) c q }, none)
      go false q (inr (none, d)) = inr ((eqb-false (k.place m) c q, none), d ∙ held-with_reference k row m c e h ∙ rw q)

  pub cell_so_far : {ms : List ℕ} {first last : Row} → RowsSoFar k ms first last → (c : ℕ) → c < k.width → CellSoFar k c ms (held first c) (held last c)
  cell_so_far {ms} {first} {last} so c h = record { first-is = rw found (first_cell ms c); last-is = rw so.lasts (go (last_cell ms (empty_row k) c (length-empty_row k) h)) }
    where
      found : held first c ≡ first_reference k ms c
      found = ap (λ (row : List ℕ). held row c) so.firsts ∙ row_from-at k.width 0 c nothing (first_reference k ms) h ∙ ap (first_reference k ms) (zero-add c)

      go : {x : ℕ} → LastTo k c ms x ⊎ (NoneTo k c ms × (x ≡ held (empty_row k) c)) → LastTo k c ms x ⊎ (NoneTo k c ms × (x ≡ nothing))
      go (inl x) = inl x
      go (inr (none, e)) = inr (none, e ∙ held-empty_row k c h)
