-- The contents of a file: what they say of the bodies where they fit, and that they fit just where the document's words hold.
-- The idea: the ends are one list, each the last one and a size; the contents fit where each offset is the end before it and the last end is the file's.
use mathlib.Core.Path.{◌≡◌, refl, sym, ap, ap₂, ◌∙◌}
use mathlib.Core.Logic.{◌↔◌}
use mathlib.Core.Bool.{Bool, true, false}
use mathlib.Core.List.{List, [], ◌∷◌, ◌++◌, append_assoc}
use Prim.Native.Nat.{ℕ, zero, suc, ◌+◌, ◌*◌, ◌-◌, ◌≤◌, ◌<◌}
use native.Mathlib.Nat.{not-suc-le-zero, zero-add, add-zero, add-suc, suc-add}
use native.Mathlib.Numerals.{add-one}
use native.Mathlib.Omega.{arith}
use lib.Dec.{eqb}
use lib.ListN.{length, get_or, take, drop, set, replicate, get_or-append}
use lib.Seq.{length-take-le, take-suc, set_at}
use borrow.Author.Tests.{eqb-true, eq-eqb, ne_eqb}
use Rattle.std.specs.Prelude.{Some, None}
use Rattle.cache.specs.References.{number_at}
use Rattle.model.proofs.Membership.{both_left, both_right}
use Rattle.project.specs.File.{edition, task_count, contents_start, bodies_start, offset_of, size_of, bodies_from}
use Rattle.project.specs.Checks.{Contents}
use Rattle.project.specs.Reading.{contents_fit}
use Rattle.project.specs.Ends.{ends_from, nine, between, ends_of}

-- ---- the list of ends

pub length-ends : (s : List ℕ) (left j at : ℕ) → length (ends_from s left j at) ≡ suc left
length-ends s zero j at = refl
length-ends s (suc left) j at = ap suc (length-ends s left (suc j) (at + size_of s j))

pub ends-first : (s : List ℕ) (left j at : ℕ) → get_or (ends_from s left j at) 0 0 ≡ at
ends-first s zero j at = refl
ends-first s (suc left) j at = refl

pub ends_next : (s : List ℕ) (left j at i : ℕ) → i < left → get_or (ends_from s left j at) (suc i) 0 ≡ get_or (ends_from s left j at) i 0 + size_of s (j + i)
ends_next s zero j at i h = absurd (not-suc-le-zero h)
ends_next s (suc left) j at zero h = ends-first s left (suc j) (at + size_of s j) ∙ ap (λ (k : ℕ). at + size_of s k) (sym (add-zero j))
ends_next s (suc left) j at (suc i) h =
    ends_next s left (suc j) (at + size_of s j) i (omega arith)
    ∙ ap (λ (k : ℕ). get_or (ends_from s left (suc j) (at + size_of s j)) i 0 + size_of s k) (suc-add j i ∙ sym (add-suc j i))

-- nine numbers keep those of the list
pub nine-at : (l : List ℕ) (i : ℕ) → i < length l → get_or (nine l) i 0 ≡ get_or l i 0
nine-at l i h = get_or-append l (replicate (9 - length l) 0) 0 i h

-- ---- where the contents fit: each offset is the end before it, and the last end is the file's

pub fit_offset : (s : List ℕ) (left j at i : ℕ) → contents_fit s left j at ≡ true → i < left → offset_of s (j + i) ≡ get_or (ends_from s left j at) i 0
fit_offset s zero j at i e h = absurd (not-suc-le-zero h)
fit_offset s (suc left) j at zero e h =
    ap (offset_of s) (add-zero j) ∙ eqb-true (offset_of s j) at (both_left (eqb (offset_of s j) at) (contents_fit s left (suc j) (at + size_of s j)) e)
fit_offset s (suc left) j at (suc i) e h =
    ap (offset_of s) (add-suc j i ∙ sym (suc-add j i))
    ∙ fit_offset s left (suc j) (at + size_of s j) i (both_right (eqb (offset_of s j) at) (contents_fit s left (suc j) (at + size_of s j)) e) (omega arith)

pub fit_last : (s : List ℕ) (left j at : ℕ) → contents_fit s left j at ≡ true → get_or (ends_from s left j at) left 0 ≡ length s
fit_last s zero j at e = eqb-true at (length s) e
fit_last s (suc left) j at e =
    fit_last s left (suc j) (at + size_of s j) (both_right (eqb (offset_of s j) at) (contents_fit s left (suc j) (at + size_of s j)) e)

pub fit_within : (s : List ℕ) (left j at : ℕ) → contents_fit s left j at ≡ true → at ≤ length s
fit_within s zero j at e = omega (arith, eqb-true at (length s) e)
fit_within s (suc left) j at e =
    omega (arith, fit_within s left (suc j) (at + size_of s j) (both_right (eqb (offset_of s j) at) (contents_fit s left (suc j) (at + size_of s j)) e))

-- ---- the nine ends of a file of t tasks whose bodies begin at `at`

module _ (s : List ℕ) (t at : ℕ) where
  abbrev ends : List ℕ
  ends = nine (ends_from s t 0 at)

  end-at : (i : ℕ) → i ≤ t → get_or ends i 0 ≡ get_or (ends_from s t 0 at) i 0
  end-at i h = nine-at (ends_from s t 0 at) i (rw (length-ends s t 0 at) (omega arith))

  pub end-first : get_or ends 0 0 ≡ at
  end-first = end-at 0 (omega arith) ∙ ends-first s t 0 at

  pub end-next : (i : ℕ) → i < t → get_or ends (suc i) 0 ≡ get_or ends i 0 + size_of s i
  end-next i h =
      end-at (suc i) h
      ∙ ends_next s t 0 at i h
      ∙ ap₂ (λ (x k : ℕ). x + size_of s k) (sym (end-at i (omega arith))) (zero-add i)

  pub end-rises : (i : ℕ) → i < t → get_or ends i 0 ≤ get_or ends (suc i) 0
  end-rises i h = omega (arith, end-next i h)

  module _ (fit : contents_fit s t 0 at ≡ true) where
    pub end_offset : (i : ℕ) → i < t → get_or ends i 0 ≡ offset_of s i
    end_offset i h = end-at i (omega arith) ∙ sym (fit_offset s t 0 at i fit h) ∙ ap (offset_of s) (zero-add i)

    pub end-last : get_or ends t 0 ≡ length s
    end-last = end-at t (omega arith) ∙ fit_last s t 0 at fit

    down : (k i : ℕ) → k + i ≡ t → get_or ends i 0 ≤ length s
    down zero i e = omega (arith, end-last, ap (λ (n : ℕ). get_or ends n 0) (sym (zero-add i) ∙ e))
    down (suc k) i e = omega (arith, end-rises i (omega arith), down k (suc i) (omega arith))

    pub end-inside : (i : ℕ) → i ≤ t → get_or ends i 0 ≤ length s
    end-inside i h = down (t - i) i (omega arith)

    offset_next : (j : ℕ) → suc j < t → offset_of s (suc j) ≡ offset_of s j + size_of s j
    offset_next j h =
        sym (end_offset (suc j) h)
        ∙ end-next j (omega arith)
        ∙ ap (λ (x : ℕ). x + size_of s j) (end_offset j (omega arith))

    offset_last : (j : ℕ) → suc j ≡ t → offset_of s j + size_of s j ≡ length s
    offset_last j e =
        ap (λ (x : ℕ). x + size_of s j) (sym (end_offset j (omega arith)))
        ∙ sym (end-next j (omega arith))
        ∙ ap (λ (k : ℕ). get_or ends k 0) e
        ∙ end-last

    bodies-from : (left j : ℕ) → left + j ≡ t → between s ends left j ≡ bodies_from s left j
    bodies-from zero j e = refl
    bodies-from (suc left) j e =
        let size : get_or ends (suc j) 0 - get_or ends j 0 ≡ size_of s j = omega (arith, end-next j (omega arith)) in
        ap₂ (λ (b : List ℕ) (bs : List (List ℕ)). b ∷ bs) (ap₂ (λ (n k : ℕ). take n (drop k s)) size (end_offset j (omega arith))) (bodies-from left (suc j) (omega arith))

    -- the bytes between the ends are the bodies
    pub between-bodies : between s ends t 0 ≡ bodies_from s t 0
    between-bodies = bodies-from t 0 (omega arith)

-- ---- the contents fit just where the document's words hold

module _ (s : List ℕ) where
  abbrev t : ℕ
  t = task_count s

  abbrev from : ℕ
  from = bodies_start (edition s) t

  stated : 1 ≤ t → contents_fit s t 0 from ≡ true → Contents s
  stated some fit = record {
    first = sym (end_offset s t from fit 0 some) ∙ end-first s t from;
    next = offset_next s t from fit;
    last = offset_last s t from fit;
  }

  fit_from : Contents s → (left j at : ℕ) → suc left + j ≡ t → offset_of s j ≡ at → contents_fit s (suc left) j at ≡ true
  fit_from c zero j at e q = rw (eq-eqb (offset_of s j) at q, ← q) (eq-eqb (offset_of s j + size_of s j) (length s) (c.last j (omega arith)))
  fit_from c (suc left) j at e q =
      rw (eq-eqb (offset_of s j) at q, ← q) (fit_from c left (suc j) (offset_of s j + size_of s j) (omega arith) (c.next j (omega arith)))

  fits : 1 ≤ t → Contents s → contents_fit s t 0 from ≡ true
  fits some c =
      let n : suc (t - 1) ≡ t = omega arith in
      ap (λ (k : ℕ). contents_fit s k 0 from) (sym n) ∙ fit_from c (t - 1) 0 from (omega arith) c.first

  pub contents_exact : 1 ≤ task_count s → (contents_fit s (task_count s) 0 (bodies_start (edition s) (task_count s)) ≡ true) ↔ Contents s
  contents_exact some = (stated some, fits some)

-- ---- the pass over the contents: before task j the ends up to its own begin are there, and what is left fits just where the whole does

nine-take : (l : List ℕ) (n : ℕ) → n ≤ length l → nine (take n l) ≡ take n l ++ replicate (9 - n) 0
nine-take l n h = ap (λ (k : ℕ). take n l ++ replicate (9 - k) 0) (length-take-le n l h)

pub nine_turn : (l : List ℕ) (n : ℕ) {old : List ℕ} {v : ℕ} → n < length l → n < 9 → old ≡ nine (take n l) → v ≡ get_or l n 0 → set old n v ≡ nine (take (n + 1) l)
nine_turn l n h b eo ev =
    let room : 9 - n ≡ suc (9 - (n + 1)) = omega arith in
    ap₂ (λ (o : List ℕ) (x : ℕ). set o n x) (eo ∙ nine-take l n (omega arith) ∙ ap (λ (k : ℕ). take n l ++ replicate k 0) room) ev
    ∙ set_at (take n l) 0 (replicate (9 - (n + 1)) 0) (get_or l n 0) n (length-take-le n l (omega arith))
    ∙ sym (append_assoc (take n l) (get_or l n 0 ∷ []) (replicate (9 - (n + 1)) 0))
    ∙ ap (λ (p : List ℕ). p ++ replicate (9 - (n + 1)) 0) (sym (take-suc l n 0 h) ∙ ap (λ (k : ℕ). take k l) (sym (add-one n)))
    ∙ sym (nine-take l (n + 1) (omega arith))

pub ends_turn : (s : List ℕ) (t from j : ℕ) {at next : ℕ} → j < t → at ≡ get_or (ends_from s t 0 from) j 0 → next ≡ at + size_of s j
    → next ≡ get_or (ends_from s t 0 from) (j + 1) 0
ends_turn s t from j h e q =
    q
    ∙ ap₂ (λ (x k : ℕ). x + size_of s k) e (sym (zero-add j))
    ∙ sym (ends_next s t 0 from j h)
    ∙ ap (λ (k : ℕ). get_or (ends_from s t 0 from) k 0) (sym (add-one j))

module _ (s : List ℕ) (t j at : ℕ) (h : j < t) where
  left_one : t - j ≡ suc (t - (j + 1))
  left_one = omega arith

  pub fit_turn : {next : ℕ} → offset_of s j ≡ at → next ≡ at + size_of s j → contents_fit s (t - (j + 1)) (j + 1) next ≡ contents_fit s (t - j) j at
  fit_turn e q = rw (left_one, eq-eqb (offset_of s j) at e, q, add-one j)

  pub fit_wrong : (offset_of s j ≡ at → ⊥) → contents_fit s (t - j) j at ≡ false
  fit_wrong e = rw (left_one, ne_eqb (offset_of s j) at e)

-- ---- the numbers of an entry, by where the contents begin

module _ (s : List ℕ) (j : ℕ) {start : ℕ} (e : start ≡ contents_start (edition s)) where
  pub offset_by : number_at s (start + 4 * j) ≡ offset_of s j
  offset_by = ap (λ (k : ℕ). number_at s (k + 4 * j)) e

  pub size-by : number_at s (start + 4 * j + 2) ≡ size_of s j
  size-by = ap (λ (k : ℕ). number_at s (k + 4 * j + 2)) e

-- ---- the two answers

pub none_not_some : {ends : List ℕ} → None ≡ Some ends → ⊥
none_not_some e = cc

pub answer-none : (s : List ℕ) (t : ℕ) → contents_fit s t 0 (bodies_start (edition s) t) ≡ false → None ≡ ends_of s t
answer-none s t e = rw e

-- a file that ends within its contents
pub too_short : (s : List ℕ) (t : ℕ) → length s < bodies_start (edition s) t → contents_fit s t 0 (bodies_start (edition s) t) ≡ false
too_short s t h = go (contents_fit s t 0 (bodies_start (edition s) t)) refl
  where
    go : (b : Bool) → contents_fit s t 0 (bodies_start (edition s) t) ≡ b → b ≡ false
    go true e = absurd (omega (arith, fit_within s t 0 (bodies_start (edition s) t) e))
    go false e = refl
