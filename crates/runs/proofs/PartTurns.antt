-- A part of a path in the code's words: the last point, the bytes of the part in one block, and a turn of the loop over its blocks.
-- The idea: what is left of the part at a position is the part in the block there, and what is left at the next position.
use mathlib.Core.Path.{◌≡◌, refl, sym, ap, ap₂, ◌∙◌}
use mathlib.Core.Logic.{◌⊎◌, inl, inr}
use mathlib.Core.Bool.{Bool, true, false, cond}
use mathlib.Core.List.{List, [], ◌∷◌, ◌++◌, append-nil}
use Prim.Native.Nat.{ℕ, zero, suc, ◌+◌, ◌*◌, ◌-◌, ◌/◌, ◌≤◌, ◌<◌}
use native.Mathlib.Numerals.{add-one}
use native.Mathlib.Omega.{arith}
use lib.Dec.{eqb}
use lib.ListN.{length, take, drop, length-drop, length-append}
use lib.Seq.{take_all, take-nil, drop-nil, drop-length}
use borrow.Author.Tests.{eqb-true, eqb-false, eq-eqb, ne_eqb}
use Rattle.cache.specs.References.{numbers}
use Rattle.cache.proofs.NumberLaws.{length-numbers}
use Rattle.model.specs.Tasks.{Task}
use Rattle.model.specs.Runs.{NotBefore}
use Rattle.runs.specs.Parts.{between, references_at, part_of, last_point, done_before, done_after, part_at, PartIn}
use Rattle.runs.specs.declared.part.PathPoint.{PathPoint}
use Rattle.runs.proofs.PartLaws.{between_in, between_past, between_join, between-block}

-- ---- numbers of two bytes in a part of a list

numbers-drop : (s : List ℕ) (d : ℕ) → numbers (drop (2 * d) s) ≡ drop d (numbers s)
unfolding numbers
numbers-drop s zero = refl
numbers-drop [] (suc d) = ap numbers (drop-nil (2 * suc d))
numbers-drop (low ∷ []) (suc d) = let n : 2 * suc d ≡ suc (suc (2 * d)) = omega arith in rw (n, drop-nil)
numbers-drop (low ∷ high ∷ s) (suc d) = let n : 2 * suc d ≡ suc (suc (2 * d)) = omega arith in rw n (numbers-drop s d)

numbers-take : (s : List ℕ) (n : ℕ) → numbers (take (2 * n) s) ≡ take n (numbers s)
unfolding numbers
numbers-take s zero = refl
numbers-take [] (suc n) = ap numbers (take-nil (2 * suc n))
numbers-take (low ∷ []) (suc n) = let e : 2 * suc n ≡ suc (suc (2 * n)) = omega arith in rw (e, take-nil)
numbers-take (low ∷ high ∷ s) (suc n) = let e : 2 * suc n ≡ suc (suc (2 * n)) = omega arith in rw e (ap (λ (l : List ℕ). (low + 256 * high) ∷ l) (numbers-take s n))

-- the numbers from the one numbered a up to b, by bytes
numbers_part : (s : List ℕ) (a b : ℕ) → numbers (take (2 * b - 2 * a) (drop (2 * a) s)) ≡ take (b - a) (drop a (numbers s))
numbers_part s a b =
    let n : 2 * b - 2 * a ≡ 2 * (b - a) = omega arith in
    ap (λ (x : ℕ). numbers (take x (drop (2 * a) s))) n ∙ numbers-take (drop (2 * a) s) (b - a) ∙ ap (take (b - a)) (numbers-drop s a)

-- those from the one numbered a on
numbers-rest : (s : List ℕ) (a : ℕ) → numbers (take (length s - 2 * a) (drop (2 * a) s)) ≡ take (length (numbers s) - a) (drop a (numbers s))
numbers-rest s a =
    ap numbers (take_all (length s - 2 * a) (drop (2 * a) s) (omega (arith, length-drop (2 * a) s)))
    ∙ numbers-drop s a
    ∙ sym (take_all (length (numbers s) - a) (drop a (numbers s)) (omega (arith, length-drop a (numbers s))))

-- ---- the last point

-- a point of a path does not come after the last
pub before_last : (t : Task) (path : List ℕ) (p : PathPoint) → p.position < length path → p.done ≤ length (references_at t path p.position)
    → NotBefore p.position p.done (last_point t path).position (last_point t path).done
before_last t path p h d = go (eqb p.position (length path - 1)) refl
  where
    go : (c : Bool) → eqb p.position (length path - 1) ≡ c → NotBefore p.position p.done (last_point t path).position (last_point t path).done
    go true q =
        let e = eqb-true p.position (length path - 1) q in
        inr (e, omega (arith, ap (λ (i : ℕ). length (references_at t path i)) e))
    go false q = inl (omega (arith, eqb-false p.position (length path - 1) q))

-- ---- what is left of a part

module _ (t : Task) (path : List ℕ) (from to : PathPoint) where
  -- at the position x
  abbrev pub part_left : ℕ → List ℕ
  part_left x = between t path x (done_before from x) to.position to.done

  pub part_start : part_left from.position ≡ part_of t path from to
  part_start = rw (eq-eqb from.position from.position refl)

  pub part_end : (x : ℕ) → to.position + 1 ≤ x → part_left x ≡ []
  part_end x h = between_past t path x (done_before from x) to.position to.done (omega arith)

  -- ---- where the bytes of the part in the block at x stand, among those of its references

  -- where they begin
  pub begins_here : (x : ℕ) {first : ℕ} → x ≡ from.position → first ≡ 2 * from.done → first ≡ 2 * done_before from x
  begins_here x e q = rw (eq-eqb x from.position e) q

  pub begins-before : (x : ℕ) {first : ℕ} → (x ≡ from.position → ⊥) → first ≡ 0 → first ≡ 2 * done_before from x
  begins-before x n q = rw (ne_eqb x from.position n) (omega arith)

  -- where they end: after two for each reference that is done, or with the block's
  abbrev pub Ends : ℕ → List ℕ → ℕ → Type 0
  Ends x bytes end = (end ≡ 2 * done_after t path to x) ⊎ ((end ≡ length bytes) × (done_after t path to x ≡ length (references_at t path x)))

  pub ends_here : (x : ℕ) (bytes : List ℕ) {end : ℕ} → x ≡ to.position → end ≡ 2 * to.done → Ends x bytes end
  ends_here x bytes e q = inl (rw (eq-eqb x to.position e) q)

  pub ends-after : (x : ℕ) (bytes : List ℕ) {end : ℕ} → (x ≡ to.position → ⊥) → end ≡ length bytes → Ends x bytes end
  ends-after x bytes n q = inr (q, rw (ne_eqb x to.position n))

  module _ (h : PartIn t path from to) (x : ℕ) (low : from.position ≤ x) (high : x ≤ to.position) where
    -- no more references of the block are done than it has, where the part begins in it
    before-few : done_before from x ≤ length (references_at t path x)
    before-few = go (eqb x from.position) refl
      where
        go : (c : Bool) → eqb x from.position ≡ c → cond c from.done 0 ≤ length (references_at t path x)
        go true p = omega (arith, h.from_done, ap (λ (y : ℕ). length (references_at t path y)) (eqb-true x from.position p))
        go false p = omega arith

    -- nor where it ends in it
    after-few : done_after t path to x ≤ length (references_at t path x)
    after-few = go (eqb x to.position) refl
      where
        go : (c : Bool) → eqb x to.position ≡ c → cond c to.done (length (references_at t path x)) ≤ length (references_at t path x)
        go true p = omega (arith, h.to_done, ap (λ (y : ℕ). length (references_at t path y)) (eqb-true x to.position p))
        go false p = omega arith

    -- the part begins before it ends
    before-after : done_before from x ≤ done_after t path to x
    before-after = go (eqb x from.position) (eqb x to.position) refl refl
      where
        one_block : NotBefore from.position from.done to.position to.done → from.position ≡ to.position → from.done ≤ to.done
        one_block (inl l) p = absurd (omega arith)
        one_block (inr (q, l)) p = l

        go : (b c : Bool) → eqb x from.position ≡ b → eqb x to.position ≡ c → cond b from.done 0 ≤ cond c to.done (length (references_at t path x))
        go true true p q = one_block h.order (sym (eqb-true x from.position p) ∙ eqb-true x to.position q)
        go true false p q = omega (arith, h.from_done, ap (λ (y : ℕ). length (references_at t path y)) (eqb-true x from.position p))
        go false true p q = omega arith
        go false false p q = omega arith

    -- what is left here is the part in the block, and what is left at the next position
    pub part_turn : part_left x ≡ part_at t path from to x ++ part_left (x + 1)
    part_turn = go (eqb x to.position) refl
      where
        next : part_left (x + 1) ≡ between t path (suc x) 0 to.position to.done
        next =
            ap (λ (y : ℕ). between t path (x + 1) y to.position to.done) (ap (λ (c : Bool). cond c from.done 0) (ne_eqb (x + 1) from.position (λ e. omega arith)))
            ∙ ap (λ (y : ℕ). between t path y 0 to.position to.done) (add-one x)

        go : (c : Bool) → eqb x to.position ≡ c
            → between t path x (done_before from x) to.position to.done
            ≡ between t path x (done_before from x) x (cond c to.done (length (references_at t path x))) ++ part_left (x + 1)
        go true p =
            let e = eqb-true x to.position p in
            ap (λ (y : ℕ). between t path x (done_before from x) y to.done) (sym e)
            ∙ sym (append-nil (between t path x (done_before from x) x to.done))
            ∙ ap (λ (l : List ℕ). between t path x (done_before from x) x to.done ++ l) (sym (part_end (x + 1) (omega arith)))
        go false p =
            let ms = references_at t path x in
            let l : x < to.position = omega (arith, eqb-false x to.position p) in
            between_join t path x (done_before from x) x (length ms) to.position to.done (inr (refl, before-few)) (inl l)
            ∙ ap (λ (y : List ℕ). between t path x (done_before from x) x (length ms) ++ y)
            (between-block t path x (length ms) to.position to.done l (drop-length ms) ∙ sym next)

    -- a turn of whatever makes references in order: what is left, made from here, gives what was left before
    pub part_made : {S : Type 0} (make : S → List ℕ → S) → ((a b : List ℕ) (s : S) → make s (a ++ b) ≡ make (make s a) b) → (s : S) (bytes : List ℕ) {r : S}
        → numbers bytes ≡ part_at t path from to x → r ≡ make s (numbers bytes) → make r (part_left (x + 1)) ≡ make s (part_left x)
    part_made {S} make join s bytes er en =
        ap (λ (y : S). make y (part_left (x + 1))) (en ∙ ap (make s) er) ∙ sym (join (part_at t path from to x) (part_left (x + 1)) s) ∙ ap (make s) (sym part_turn)

    -- how many references are left
    pub part_room : (bytes : List ℕ) → numbers bytes ≡ part_at t path from to x → length bytes / 2 + length (part_left (x + 1)) ≡ length (part_left x)
    part_room bytes e =
        omega (arith, length-numbers bytes, ap length e, ap length part_turn, length-append (part_at t path from to x) (part_left (x + 1)))

    -- ---- the bytes

    module _ (bytes : List ℕ) (eb : numbers bytes ≡ references_at t path x) (first end : ℕ) (ef : first ≡ 2 * done_before from x) where
      long : 2 * length (references_at t path x) ≤ length bytes
      long = omega (arith, ap length eb, length-numbers bytes)

      pub part_order : Ends x bytes end → first ≤ end
      part_order (inl q) = omega (arith, before-after)
      part_order (inr (q, n)) = omega (arith, before-few, long)

      pub part_within : Ends x bytes end → end ≤ length bytes
      part_within (inl q) = omega (arith, after-few, long)
      part_within (inr (q, n)) = omega arith

      pub part_numbers : Ends x bytes end → numbers (take (end - first) (drop first bytes)) ≡ part_at t path from to x
      part_numbers z =
          go z ∙ ap (λ (l : List ℕ). take (done_after t path to x - done_before from x) (drop (done_before from x) l)) eb
          ∙ sym (between_in t path x (done_before from x) (done_after t path to x) (omega (arith, h.in_path)))
        where
          go : Ends x bytes end → numbers (take (end - first) (drop first bytes)) ≡ take (done_after t path to x - done_before from x) (drop (done_before from x) (numbers bytes))
          go (inl q) = ap₂ (λ (a b : ℕ). numbers (take (a - b) (drop b bytes))) q ef ∙ numbers_part bytes (done_before from x) (done_after t path to x)
          go (inr (q, n)) =
              ap₂ (λ (a b : ℕ). numbers (take (a - b) (drop b bytes))) q ef ∙ numbers-rest bytes (done_before from x)
              ∙ ap (λ (a : ℕ). take (a - done_before from x) (drop (done_before from x) (numbers bytes))) (ap length eb ∙ sym n)
