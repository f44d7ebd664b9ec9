-- The references between two points of a path: from the first point they are those of the path before the second, parts of a path that meet join to
-- one, and a part goes on by a reference or by a block.
-- Each is an induction on the path.
use mathlib.Core.Path.{◌≡◌, refl, sym, ap, ◌∙◌}
use mathlib.Core.Logic.{inl, inr}
use mathlib.Core.Bool.{Bool, true, false}
use mathlib.Core.List.{List, [], ◌∷◌, ◌++◌, append-nil, append_assoc}
use Prim.Native.Nat.{ℕ, zero, suc, ◌+◌, ◌-◌, ◌≤◌, ◌<◌}
use native.Mathlib.Nat.{not-suc-le-zero}
use native.Mathlib.Omega.{arith}
use lib.Dec.{eqb}
use lib.ListN.{length, take, drop, length-drop, take-append-drop}
use lib.Seq.{take_all, drop-drop, take-add}
use borrow.Author.Tests.{eqb-true, eqb-false}
use Rattle.model.specs.Tasks.{Task, block, references}
use Rattle.model.specs.Runs.{NotBefore}
use Rattle.model.proofs.Taken.{Before}
use Rattle.runs.specs.Parts.{between, references_at}

-- ---- parts of a list

take_join : (l : List ℕ) (a b c : ℕ) → a ≤ b → b ≤ c → take (c - a) (drop a l) ≡ take (b - a) (drop a l) ++ take (c - b) (drop b l)
take_join l a b c h g =
    let n : c - a ≡ (b - a) + (c - b) = omega arith in
    let m : a + (b - a) ≡ b = omega arith in
    ap (λ (x : ℕ). take x (drop a l)) n ∙ take-add (b - a) (c - b) (drop a l)
    ∙ ap (λ (x : List ℕ). take (b - a) (drop a l) ++ take (c - b) x) (drop-drop (b - a) a l ∙ ap (λ (x : ℕ). drop x l) m)

rest_join : (l : List ℕ) (a b : ℕ) → a ≤ b → drop a l ≡ take (b - a) (drop a l) ++ drop b l
rest_join l a b h =
    let m : a + (b - a) ≡ b = omega arith in
    sym (take-append-drop (b - a) (drop a l)) ∙ ap (λ (x : List ℕ). take (b - a) (drop a l) ++ x) (drop-drop (b - a) a l ∙ ap (λ (x : ℕ). drop x l) m)

pub drop-next : (l : List ℕ) (d m : ℕ) (ms : List ℕ) → drop d l ≡ m ∷ ms → drop (suc d) l ≡ ms
drop-next [] zero m ms e = absurd (omega (arith, ap length e))
drop-next [] (suc d) m ms e = absurd (omega (arith, ap length e))
drop-next (x ∷ l) zero m ms e = ap (drop 1) e
drop-next (x ∷ l) (suc d) m ms e = drop-next l d m ms e

-- ---- points in order

-- no reference of a block is done where it is entered
pub from-entry : (i j e : ℕ) → i ≤ j → NotBefore i 0 j e
from-entry i j e l = go (eqb i j) refl
  where
    go : (c : Bool) → eqb i j ≡ c → NotBefore i 0 j e
    go true p = inr (eqb-true i j p, omega arith)
    go false p = inl (omega (arith, eqb-false i j p))

done-rises : {d e : ℕ} (i : ℕ) → NotBefore i d i e → d ≤ e
done-rises i (inl l) = absurd (omega arith)
done-rises i (inr (p, l)) = l

not_back : {A : Type 0} {i d e : ℕ} → NotBefore (suc i) d zero e → A
not_back (inl l) = absurd (not-suc-le-zero l)
not_back (inr (p, l)) = absurd (omega arith)

one_less : {i d j e : ℕ} → NotBefore (suc i) d (suc j) e → NotBefore i d j e
one_less (inl l) = inl (omega arith)
one_less (inr (p, l)) = inr (omega arith, l)

-- ---- what a part has

module _ (t : Task) where
  -- in one block
  pub between_in : (path : List ℕ) (x d e : ℕ) → x < length path → between t path x d x e ≡ take (e - d) (drop d (references_at t path x))
  between_in [] x d e h = absurd (not-suc-le-zero h)
  between_in (b ∷ p) zero d e h = refl
  between_in (b ∷ p) (suc x) d e h = between_in p x d e (omega arith)

  -- at one point
  pub between_none : (path : List ℕ) (i d : ℕ) → between t path i d i d ≡ []
  between_none [] i d = refl
  between_none (b ∷ p) zero d = let z : d - d ≡ 0 = omega arith in ap (λ (n : ℕ). take n (drop d (block t b).references)) z
  between_none (b ∷ p) (suc i) d = between_none p i d

  pub between_past : (path : List ℕ) (i d j e : ℕ) → j < i → between t path i d j e ≡ []
  between_past [] i d j e h = refl
  between_past (b ∷ p) zero d j e h = absurd (not-suc-le-zero h)
  between_past (b ∷ p) (suc i) d zero e h = refl
  between_past (b ∷ p) (suc i) d (suc j) e h = between_past p i d j e (omega arith)

  -- from the first point: the blocks before the point, and the first references of its block
  pub between_first : (path : List ℕ) (j e : ℕ) → j < length path → between t path 0 0 j e ≡ references t (take j path) ++ take e (references_at t path j)
  between_first [] j e h = absurd (not-suc-le-zero h)
  between_first (b ∷ p) zero e h = let z : e - 0 ≡ e = omega arith in ap (λ (n : ℕ). take n (block t b).references) z
  between_first (b ∷ p) (suc j) e h =
      ap (λ (l : List ℕ). (block t b).references ++ l) (between_first p j e (omega arith))
      ∙ sym (append_assoc (block t b).references (references t (take j p)) (take e (references_at t p j)))

  -- two parts that meet
  pub between_join : (path : List ℕ) (i d j e k f : ℕ) → NotBefore i d j e → NotBefore j e k f → between t path i d k f ≡ between t path i d j e ++ between t path j e k f
  between_join [] i d j e k f h g = refl
  between_join (b ∷ p) zero d zero e zero f h g = take_join (block t b).references d e f (done-rises 0 h) (done-rises 0 g)
  between_join (b ∷ p) zero d zero e (suc k) f h g =
      let ms = (block t b).references in
      ap (λ (l : List ℕ). l ++ between t p 0 0 k f) (rest_join ms d e (done-rises 0 h)) ∙ append_assoc (take (e - d) (drop d ms)) (drop e ms) (between t p 0 0 k f)
  between_join (b ∷ p) zero d (suc j) e zero f h g = not_back g
  between_join (b ∷ p) zero d (suc j) e (suc k) f h g =
      let ms = (block t b).references in
      ap (λ (l : List ℕ). drop d ms ++ l) (between_join p 0 0 j e k f (from-entry 0 j e (omega arith)) (one_less g))
      ∙ sym (append_assoc (drop d ms) (between t p 0 0 j e) (between t p j e k f))
  between_join (b ∷ p) (suc i) d zero e k f h g = not_back h
  between_join (b ∷ p) (suc i) d (suc j) e zero f h g = not_back g
  between_join (b ∷ p) (suc i) d (suc j) e (suc k) f h g = between_join p i d j e k f (one_less h) (one_less g)

  -- by the next reference of the block
  pub between_next : (path : List ℕ) (i d j e m : ℕ) (ms : List ℕ) → i < length path → drop d (references_at t path i) ≡ m ∷ ms → Before i d j e
      → between t path i d j e ≡ m ∷ between t path i (suc d) j e
  between_next [] i d j e m ms h q l = absurd (not-suc-le-zero h)
  between_next (b ∷ p) zero d zero e m ms h q (inl l) = absurd (not-suc-le-zero l)
  between_next (b ∷ p) zero d zero e m ms h q (inr (z, l)) =
      let n : e - d ≡ suc (e - suc d) = omega arith in
      rw (n, q, drop-next (block t b).references d m ms q)
  between_next (b ∷ p) zero d (suc j) e m ms h q l = rw (q, drop-next (block t b).references d m ms q)
  between_next (b ∷ p) (suc i) d zero e m ms h q (inl l) = absurd (not-suc-le-zero l)
  between_next (b ∷ p) (suc i) d zero e m ms h q (inr (z, l)) = absurd (omega arith)
  between_next (b ∷ p) (suc i) d (suc j) e m ms h q (inl l) = between_next p i d j e m ms (omega arith) q (inl (omega arith))
  between_next (b ∷ p) (suc i) d (suc j) e m ms h q (inr (z, l)) = between_next p i d j e m ms (omega arith) q (inr (omega arith, l))

  -- by a block without references left
  pub between-block : (path : List ℕ) (i d j e : ℕ) → i < j → drop d (references_at t path i) ≡ [] → between t path i d j e ≡ between t path (suc i) 0 j e
  between-block [] i d j e h q = refl
  between-block (b ∷ p) i d zero e h q = absurd (not-suc-le-zero h)
  between-block (b ∷ p) zero d (suc j) e h q = rw q
  between-block (b ∷ p) (suc i) d (suc j) e h q = between-block p i d j e (omega arith) q

  -- to the last point
  pub between-end : (path : List ℕ) (i d last : ℕ) → i < length path → suc last ≡ length path
      → between t path i d last (length (references_at t path last)) ≡ drop d (references_at t path i) ++ references t (drop (suc i) path)
  between-end [] i d last h n = absurd (not-suc-le-zero h)
  between-end (b ∷ []) zero d zero h n =
      take_all (length (block t b).references - d) (drop d (block t b).references) (omega (arith, length-drop d (block t b).references))
      ∙ sym (append-nil (drop d (block t b).references))
  between-end (b ∷ c ∷ p) zero d zero h n = absurd (omega arith)
  between-end (b ∷ []) zero d (suc last) h n = absurd (omega arith)
  between-end (b ∷ c ∷ p) zero d (suc last) h n = ap (λ (l : List ℕ). drop d (block t b).references ++ l) (between-end (c ∷ p) 0 0 last (omega arith) (omega arith))
  between-end (b ∷ p) (suc i) d zero h n = absurd (omega arith)
  between-end (b ∷ p) (suc i) d (suc last) h n = between-end p i d last (omega arith) (omega arith)

  -- from the first point to the last: all references of the path
  pub between-all : (path : List ℕ) (last : ℕ) → suc last ≡ length path → between t path 0 0 last (length (references_at t path last)) ≡ references t path
  between-all [] last n = absurd (omega arith)
  between-all (b ∷ p) last n = between-end (b ∷ p) 0 0 last (omega arith) n
