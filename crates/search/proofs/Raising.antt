-- A search that goes over candidates, one family after the other: what is found over the families so far, and over one more.
-- The larger of two costs is kept, so a candidate of an earlier family costs no more than what is found later.
use mathlib.Core.Path.{◌≡◌, refl, sym, ap, subst, ◌∙◌}
use mathlib.Core.Logic.{◌⊎◌, inl, inr}
use mathlib.Core.Bool.{Bool, true, false, true≢false}
use mathlib.Core.List.{List, []}
use Prim.Native.Nat.{ℕ, ◌+◌, ◌^◌, ◌≤◌, ◌<◌}
use native.Mathlib.Omega.{arith}
use lib.Dec.{ltb}
use lib.ListN.{length, get_or}
use lib.Bits.{bit_and}
use lib.Count.{ones, ones-le}
use borrow.Author.Tests.{ltb-true, ltb-false}
use Rattle.cache.specs.Cache.{Cache}
use Rattle.cache.specs.Sets.{in_set}
use Rattle.cache.proofs.Bits.{and_ones}
use Rattle.model.specs.Tasks.{Task, block}
use Rattle.model.specs.Computed.{unmasked}
use Rattle.points.specs.Points.{rest_of, left_rows, predecessors_of}
use Rattle.row_sets.specs.Sets.{useful_set}
use Rattle.search.specs.declared.Point.{Point}
use Rattle.search.specs.declared.Found.{Found}
use Rattle.search.specs.Search.{Candidates, Raised, Below, AtEnd, OfSet, AtLive, OfDone, point_after, AtReaching, OfReaching, AtBefore, OfBefore, fewest_done, AtDone, OfBlock, AtBlock}

-- what is found stays where no candidate costs more
raised_kept : (C : Candidates) (a : Found) → ((x : Found) → C x → x.cost ≤ a.cost) → Raised C a a
raised_kept C a h = record { above = omega arith; most = h; found = inl refl }

pub raised_none : (number_of : Found → ℕ) (family : ℕ → Candidates) (a : Found) → Raised (Below number_of 0 family) a a
raised_none number_of family a = raised_kept (Below number_of 0 family) a (λ x p. absurd (omega (arith, p.0)))

-- one family more
module _ (number_of : Found → ℕ) (family : ℕ → Candidates) (own : (n : ℕ) (x : Found) → family n x → number_of x ≡ n) where
  pub raised_more : (n : ℕ) {a b c : Found} → Raised (Below number_of n family) a b → Raised (family n) b c → Raised (Below number_of (n + 1) family) a c
  raised_more n {a} {b} {c} p q =
      record { above = omega (arith, p.above, q.above); most = λ x s. bound x s (ltb (number_of x) n) refl; found = place q.found p.found }
    where
      bound : (x : Found) → Below number_of (n + 1) family x → (t : Bool) → ltb (number_of x) n ≡ t → x.cost ≤ c.cost
      bound x s true e = omega (arith, p.most x (ltb-true (number_of x) n e, s.1), q.above)
      bound x s false e =
          let last : number_of x ≡ n = omega (arith, s.0, ltb-false (number_of x) n e) in
          q.most x (rw last at s.1)

      place : (c ≡ b) ⊎ family n c → (b ≡ a) ⊎ Below number_of n family b → (c ≡ a) ⊎ Below number_of (n + 1) family c
      place (inl e) (inl d) = inl (e ∙ d)
      place (inl e) (inr s) = inr (rw e (omega (arith, s.0), s.1))
      place (inr s) o = let last = own n c s in inr (rw last (omega arith, s))

-- the candidates of two families
pub raised_both : (C D : Candidates) {a b c : Found} → Raised C a b → Raised D b c → Raised (λ (x : Found). C x ⊎ D x) a c
raised_both C D {a} {b} {c} p q = record {
  above = omega (arith, p.above, q.above);
  most = λ x s. elim s [ inl h ↦ omega (arith, p.most x h, q.above) | inr h ↦ q.most x h ];
  found = place q.found p.found;
}
  where
    place : (c ≡ b) ⊎ D c → (b ≡ a) ⊎ C b → (c ≡ a) ⊎ (C c ⊎ D c)
    place (inl e) (inl d) = inl (e ∙ d)
    place (inl e) (inr s) = inr (inl (rw e s))
    place (inr s) o = inr (inr s)

-- a family that is there under a condition
pub raised_where : {P : Type 0} (C : Candidates) {a b : Found} → P → Raised C a b → Raised (λ (x : Found). P × C x) a b
raised_where C h p = record { above = p.above; most = λ x s. p.most x s.1; found = elim p.found [ inl e ↦ inl e | inr s ↦ inr (h, s) ] }

pub raised_nowhere : {P : Type 0} (C : Candidates) (a : Found) → (P → ⊥) → Raised (λ (x : Found). P × C x) a a
raised_nowhere {P} C a h = raised_kept (λ (x : Found). P × C x) a (λ x s. absurd (h s.0))

-- ---- a replaced set more: the useful set has n cache blocks in common with it, and that costs more than what was found, or not

module _ (p : Point) (l set : ℕ) (sets : List ℕ) where
  pub end_more : (e : ℕ) {a c d : Found} → Raised (Below (λ x. x.ending) e (AtEnd p l set sets)) a c → Raised (AtEnd p l set sets e) c d
      → Raised (Below (λ x. x.ending) (e + 1) (AtEnd p l set sets)) a d
  end_more = raised_more (λ x. x.ending) (AtEnd p l set sets) (λ e x s. ap (λ (y : Found). y.ending) s)

  -- no more than 32 cache blocks are in common
  pub end-few : (e : ℕ) {n : ℕ} → set < 2 ^ 32 → n ≡ ones (bit_and set (get_or sets e 0)) → n ≤ 32
  end-few e h count = omega (arith, and_ones 32 set (get_or sets e 0) h, ones-le 32 set h)

  module _ (e : ℕ) (a : Found) {new : Found} {n : ℕ} (count : n ≡ ones (bit_and set (get_or sets e 0))) where
    pub end_raised : a.cost < n + 1 → new ≡ record { point = p; live = l; ending = e; cost = n + 1 } → Raised (AtEnd p l set sets e) a new
    end_raised h q =
        let new-cost : new.cost ≡ n + 1 = ap (λ (y : Found). y.cost) q in
        record {
          above = omega arith;
          most = λ x s. omega (arith, ap (λ (y : Found). y.cost) s);
          found = inr (q ∙ ap (λ (m : ℕ). record { point = p; live = l; ending = e; cost = m + 1 }) count);
        }

    pub end_kept : n + 1 ≤ a.cost → new ≡ a → Raised (AtEnd p l set sets e) a new
    end_kept h q = rw q (raised_kept (AtEnd p l set sets e) a (λ x s. omega (arith, ap (λ (y : Found). y.cost) s)))

  -- a set of too few cache blocks
  pub set_skipped : (a : Found) → set < 2 ^ 32 → ones set < a.cost → Raised (OfSet p l set sets) a a
  set_skipped a w h =
      raised_kept (OfSet p l set sets) a
      (λ x s. omega (arith, ap (λ (y : Found). y.cost) s.1, and_ones 32 set (get_or sets x.ending 0) w))

-- ---- a row more

pub live_more : (p : Point) (ls : List (List ℕ)) (row sets : List ℕ) (l : ℕ) {live : List ℕ} {set : ℕ} {a c d : Found} → live ≡ get_or ls l [] → set ≡ useful_set row live
    → Raised (Below (λ x. x.live) l (AtLive p row ls sets)) a c → Raised (OfSet p l set sets) c d → Raised (Below (λ x. x.live) (l + 1) (AtLive p row ls sets)) a d
live_more p ls row sets l is e so_far q =
    raised_more (λ x. x.live) (AtLive p row ls sets) (λ l x s. ap (λ (y : Found). y.live) s.1) l so_far (rw (← is, ← e) q)

pub reaching_more : (k : Cache) (ms : List ℕ) (b d before : ℕ) (rs ls fs : List (List ℕ)) (r : ℕ) {row : List ℕ} {a c e : Found} → row ≡ get_or rs r []
    → Raised (Below (λ x. x.point.reaching) r (AtReaching k ms b d before rs ls fs)) a c → Raised (OfDone k ms (point_after b d before r) row ls fs) c e
    → Raised (Below (λ x. x.point.reaching) (r + 1) (AtReaching k ms b d before rs ls fs)) a e
reaching_more k ms b d before rs ls fs r is so_far q =
    raised_more (λ x. x.point.reaching) (AtReaching k ms b d before rs ls fs) (λ r x s. ap (λ (y : Found). y.point.reaching) s.1.1) r so_far (rw (← is) q)

-- ---- a block before it more, where it is in the set and where not

module _ (k : Cache) (ms : List ℕ) (b d set : ℕ) (rs : ℕ → List (List ℕ)) (ls fs : List (List ℕ)) (n : ℕ) {a c : Found}
    (so_far : Raised (Below (λ x. x.point.before) n (AtBefore k ms b d set rs ls fs)) a c) where
  more_before : {e : Found} → Raised (AtBefore k ms b d set rs ls fs n) c e → Raised (Below (λ x. x.point.before) (n + 1) (AtBefore k ms b d set rs ls fs)) a e
  more_before = raised_more (λ x. x.point.before) (AtBefore k ms b d set rs ls fs) (λ m x s. ap (λ (y : Found). y.point.before) s.1.1.1.1) n so_far

  pub before_more : {e : Found} {r : List (List ℕ)} → in_set set n ≡ true → r ≡ rs n → Raised (OfReaching k ms b d n r ls fs) c e
      → Raised (Below (λ x. x.point.before) (n + 1) (AtBefore k ms b d set rs ls fs)) a e
  before_more {e} {r} h q s = more_before (raised_where (OfReaching k ms b d n (rs n) ls fs) h (subst (λ (r : List (List ℕ)). Raised (OfReaching k ms b d n r ls fs) c e) q s))

  pub before_out : in_set set n ≡ false → Raised (Below (λ x. x.point.before) (n + 1) (AtBefore k ms b d set rs ls fs)) a c
  before_out h = more_before (raised_nowhere (OfReaching k ms b d n (rs n) ls fs) c (λ s. true≢false (sym s ∙ h)))

-- ---- a number of references done more

-- the point of a candidate
point_is : (k : Cache) (ms : List ℕ) (b d set blocks : ℕ) (rs : ℕ → List (List ℕ)) (ls fs : List (List ℕ)) (x : Found) → OfBefore k ms b d set blocks rs ls fs x
    → (x.point.block ≡ b) × (x.point.done ≡ d)
point_is k ms b d set blocks rs ls fs x (inl s) = (ap (λ (y : Found). y.point.block) s.1.1.1, ap (λ (y : Found). y.point.done) s.1.1.1)
point_is k ms b d set blocks rs ls fs x (inr s) = (ap (λ (y : Found). y.point.block) s.1.1.1.1.1, ap (λ (y : Found). y.point.done) s.1.1.1.1.1)

module _ (k : Cache) (ms : List ℕ) (b set blocks : ℕ) (rs : ℕ → List (List ℕ)) (ls fs : List (List ℕ)) where
  -- none is done yet that may be
  pub done_first : (n : ℕ) (a : Found) → n ≡ fewest_done (length ms) → Raised (Below (λ x. x.point.done) n (AtDone k ms b set blocks rs ls fs)) a a
  done_first n a e = raised_kept (Below (λ x. x.point.done) n (AtDone k ms b set blocks rs ls fs)) a (λ x s. absurd (omega (arith, s.0, s.1.0)))

  pub done_more : (d : ℕ) {a c e : Found} → fewest_done (length ms) ≤ d → Raised (Below (λ x. x.point.done) d (AtDone k ms b set blocks rs ls fs)) a c
      → Raised (OfBefore k ms b d set blocks rs (left_rows (rest_of k ms d) ls) fs) c e → Raised (Below (λ x. x.point.done) (d + 1) (AtDone k ms b set blocks rs ls fs)) a e
  done_more d h so_far q =
      raised_more (λ x. x.point.done) (AtDone k ms b set blocks rs ls fs) (λ n x s. (point_is k ms b n set blocks rs (left_rows (rest_of k ms n) ls) fs x s.1).1) d so_far
      (raised_where (OfBefore k ms b d set blocks rs (left_rows (rest_of k ms d) ls) fs) h q)

-- ---- a block more, where it is unmasked and where not

module _ (k : Cache) (t : Task) (rs ls : ℕ → List (List ℕ)) (fs : List (List ℕ)) (b : ℕ) {a c : Found} (so_far : Raised (Below (λ x. x.point.block) b (AtBlock k t rs ls fs)) a c) where
  abbrev here : List (List ℕ) → Candidates
  here l = OfBlock k (block t b).references b (predecessors_of t b) (length t) rs l fs

  more_blocks : {e : Found} → Raised (AtBlock k t rs ls fs b) c e → Raised (Below (λ x. x.point.block) (b + 1) (AtBlock k t rs ls fs)) a e
  more_blocks =
      raised_more (λ x. x.point.block) (AtBlock k t rs ls fs)
      (λ n x s. (point_is k (block t n).references n x.point.done (predecessors_of t n) (length t) rs (left_rows (rest_of k (block t n).references x.point.done) (ls n)) fs x s.1.1.1).0)
      b so_far

  pub block_more : {e : Found} {l : List (List ℕ)} {ms : List ℕ} {set blocks : ℕ} → unmasked t b ≡ true → l ≡ ls b → ms ≡ (block t b).references → set ≡ predecessors_of t b
      → blocks ≡ length t → Raised (OfBlock k ms b set blocks rs l fs) c e → Raised (Below (λ x. x.point.block) (b + 1) (AtBlock k t rs ls fs)) a e
  block_more {e} {l} {ms} {set} {blocks} h el em es eb q =
      more_blocks (raised_where (here (ls b)) h
      (subst (λ (r : List (List ℕ)). Raised (here r) c e) el
      (subst (λ (m : List ℕ). Raised (OfBlock k m b (predecessors_of t b) (length t) rs l fs) c e) em
      (subst (λ (s : ℕ). Raised (OfBlock k ms b s (length t) rs l fs) c e) es
      (subst (λ (n : ℕ). Raised (OfBlock k ms b set n rs l fs) c e) eb q)))))

  pub block_out : unmasked t b ≡ false → Raised (Below (λ x. x.point.block) (b + 1) (AtBlock k t rs ls fs)) a c
  block_out h = more_blocks (raised_nowhere (here (ls b)) c (λ s. true≢false (sym s ∙ h)))
