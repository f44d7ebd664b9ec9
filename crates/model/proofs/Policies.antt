-- What every cache keeps, so that its computed states are those of paths, and that document 01's cache keeps it.
use mathlib.Core.Path.{◌≡◌, ap, ◌∙◌}
use mathlib.Core.Logic.{◌⊎◌, inl, inr}
use mathlib.Core.Bool.{true, false≢true}
use mathlib.Core.List.{List, [], ◌∷◌}
use Prim.Native.Nat.{ℕ, zero, suc}
use lib.Dec.{eqb}
use lib.ListN.{length, replicate}
use borrow.Author.Tests.{eqb-true}
use Rattle.cache.specs.References.{nothing}
use Rattle.cache.specs.Cache.{Cache, Policy, one_line, refer_all}
use Rattle.cache.specs.Firsts.{ahead}
use Rattle.cache.proofs.Rows.{length-empty_row, length-with_reference, first_references_fold}
use Rattle.model.specs.Lists.{mem}
use Rattle.model.specs.Tasks.{Task, references}
use Rattle.model.specs.States.{ReachesOn, LivesOn, Reaches, Lives}
use Rattle.model.proofs.Membership.{or_cases, set_in}

-- rows have one length and hold nothing but what was referred to, and a live row is made from the last reference to the first
pub record Lawful (q : Policy) : Type 0 where
  pub first-size : length q.first ≡ q.size
  pub first_holds : (x : ℕ) → mem eqb x q.first ≡ true → x ≡ nothing
  pub refer-size : (row : List ℕ) (m : ℕ) → length row ≡ q.size → length (q.refer row m) ≡ q.size
  pub refer-holds : (row : List ℕ) (m x : ℕ) → mem eqb x (q.refer row m) ≡ true → (x ≡ m) ⊎ ((mem eqb x row ≡ true) ⊎ (x ≡ nothing))
  pub next-is : (ms : List ℕ) → q.next ms ≡ ahead q ms q.first

pub replicate_holds : (n a x : ℕ) → mem eqb x (replicate n a) ≡ true → x ≡ a
replicate_holds zero a x e = absurd (false≢true e)
replicate_holds (suc n) a x e = go (or_cases (eqb x a) (mem eqb x (replicate n a)) e) (λ q. replicate_holds n a x q)
  where
    go : (eqb x a ≡ true) ⊎ (mem eqb x (replicate n a) ≡ true) → (mem eqb x (replicate n a) ≡ true → x ≡ a) → x ≡ a
    go (inl q) ih = eqb-true x a q
    go (inr q) ih = ih q

pub one_lawful : (k : Cache) → Lawful (one_line k)
one_lawful k = record {
  first-size = length-empty_row k;
  first_holds = replicate_holds k.width nothing;
  refer-size = length-with_reference k;
  refer-holds = λ row m x e. elim (set_in x m row (k.place m) e) [ inl p ↦ inl (eqb-true x m p) | inr p ↦ inr (inl p) ];
  next-is = first_references_fold k;
}

-- ---- every row has the length of the cache's rows

module _ (q : Policy) (law : Lawful q) where
  pub all-size : (ms row : List ℕ) → length row ≡ q.size → length (refer_all q row ms) ≡ q.size
  all-size [] row e = e
  all-size (m ∷ ms) row e = all-size ms (q.refer row m) (law.refer-size row m e)

  pub ahead-size : (ms row : List ℕ) → length row ≡ q.size → length (ahead q ms row) ≡ q.size
  ahead-size [] row e = e
  ahead-size (m ∷ ms) row e = law.refer-size (ahead q ms row) m (ahead-size ms row e)

  pub run-size : (ms row : List ℕ) → row ≡ refer_all q q.first ms → length row ≡ q.size
  run-size ms row e = ap length e ∙ all-size ms q.first law.first-size

  pub next-size : (ms row : List ℕ) → row ≡ q.next ms → length row ≡ q.size
  next-size ms row e = ap length (e ∙ law.next-is ms) ∙ ahead-size ms q.first law.first-size

  pub reaches-size : (t : Task) (b : ℕ) (row : List ℕ) → ReachesOn q t b row → length row ≡ q.size
  reaches-size t b row (p, w, e) = run-size (references t (0 ∷ p)) row e

  pub lives-size : (t : Task) (b : ℕ) (row : List ℕ) → LivesOn q t b row → length row ≡ q.size
  lives-size t b row (p, w, e) = next-size (references t p) row e

pub reaches-long : (k : Cache) (t : Task) (b : ℕ) (row : List ℕ) → Reaches k t b row → length row ≡ k.width
reaches-long k = reaches-size (one_line k) (one_lawful k)

pub lives-long : (k : Cache) (t : Task) (b : ℕ) (row : List ℕ) → Lives k t b row → length row ≡ k.width
lives-long k = lives-size (one_line k) (one_lawful k)
