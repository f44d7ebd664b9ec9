-- The states of a task are finitely many: a block of the task, and a row over its memory blocks and nothing.
-- The idea: list all rows over an alphabet, and show that references of the task keep a row inside.
use mathlib.Core.Path.{◌≡◌, refl, sym, ap}
use mathlib.Core.Logic.{inl, inr}
use mathlib.Core.Bool.{Bool, true, false, false≢true}
use mathlib.Core.List.{List, [], ◌∷◌}
use Prim.Native.Nat.{ℕ, zero, suc, ◌^◌, ◌<◌}
use native.Mathlib.Nat.{not-suc-le-zero, pow-zero, pow-succ', suc_inj}
use native.Mathlib.Omega.{arith}
use lib.Dec.{eqb}
use lib.ListN.{length}
use borrow.Author.Tests.{eqb-true, eqb-false}
use Rattle.cache.specs.References.{nothing}
use Rattle.cache.specs.Cache.{Policy, refer_all}
use Rattle.cache.specs.Firsts.{ahead}
use Rattle.model.specs.Lists.{mem}
use Rattle.model.specs.Tasks.{Task, block, memory_blocks}
use Rattle.model.specs.Computed.{State, same_list, same_state, rounds}
use Rattle.model.proofs.Policies.{Lawful}
use Rattle.model.proofs.Membership.{or_left, or_right, eqb_self, same_list_self, same_list_true, same_state_self, same_state_true, mem_append_left, mem_append_right, spread, length_spread, mem_spread}

pub upto : ℕ → List ℕ
upto zero = []
upto (suc k) = k ∷ upto k

pub length_upto : (k : ℕ) → length (upto k) ≡ k
unfolding upto
length_upto zero = refl
length_upto (suc k) = ap suc (length_upto k)

pub mem_upto : (k b : ℕ) → b < k → mem eqb b (upto k) ≡ true
unfolding upto
mem_upto zero b h = absurd (not-suc-le-zero h)
mem_upto (suc k) b h = go (eqb b k) refl (λ l. mem_upto k b l)
  where
    go : (c : Bool) → eqb b k ≡ c → (b < k → mem eqb b (upto k) ≡ true) → mem eqb b (upto (suc k)) ≡ true
    go true e ih = or_left (eqb b k) (mem eqb b (upto k)) e
    go false e ih = or_right (eqb b k) (mem eqb b (upto k)) (ih (omega (arith, eqb-false b k e)))

rows : List ℕ → ℕ → List (List ℕ)
rows al zero = [] ∷ []
rows al (suc n) = spread (λ (a : ℕ) (r : List ℕ). a ∷ r) al (rows al n)

length-rows : (al : List ℕ) (n : ℕ) → length (rows al n) ≡ length al ^ n
unfolding rows
length-rows al zero = sym (pow-zero (length al))
length-rows al (suc n) = rw (length_spread, length-rows al n) (sym (pow-succ' (length al) n))

In : List ℕ → List ℕ → Type 0
In r al = (x : ℕ) → mem eqb x r ≡ true → mem eqb x al ≡ true

mem-rows : (al : List ℕ) (n : ℕ) (r : List ℕ) → length r ≡ n → In r al → mem same_list r (rows al n) ≡ true
unfolding rows In
mem-rows al zero [] e h = refl
mem-rows al (suc n) [] e h = absurd (omega arith)
mem-rows al zero (x ∷ r) e h = absurd (omega arith)
mem-rows al (suc n) (x ∷ r) e h =
    mem_spread eqb eqb_self eqb-true same_list same_list_self same_list_true same_list same_list_self same_list_true (λ (a : ℕ) (r : List ℕ). a ∷ r)
    x al r (rows al n) (h x (or_left (eqb x x) (mem eqb x r) (eqb_self x))) (mem-rows al n r (suc_inj e) (λ y p. h y (or_right (eqb y x) (mem eqb y r) p)))

-- ---- rows over the memory blocks of a task

pub alphabet : Task → List ℕ
alphabet t = nothing ∷ memory_blocks t

pub references_in_lem : (t : Task) (b : ℕ) (x : ℕ) → mem eqb x (block t b).references ≡ true → mem eqb x (memory_blocks t) ≡ true
references_in_lem [] b x e = absurd (false≢true e)
references_in_lem (k ∷ ks) zero x e = mem_append_left eqb eqb_self eqb-true x k.references (memory_blocks ks) e
references_in_lem (k ∷ ks) (suc b) x e = mem_append_right eqb eqb_self eqb-true x k.references (memory_blocks ks) (references_in_lem ks b x e)

-- a row of length n over the alphabet
pub record Fits (n : ℕ) (al r : List ℕ) : Type 0 where
  pub size : length r ≡ n
  pub over : (x : ℕ) → mem eqb x r ≡ true → mem eqb x al ≡ true

refer-fits : (k : Policy) → Lawful k → (al r : List ℕ) (m : ℕ) → mem eqb nothing al ≡ true → mem eqb m al ≡ true → Fits k.size al r → Fits k.size al (k.refer r m)
refer-fits k law al r m n h g = record {
  size = law.refer-size r m g.size;
  over = λ x e. elim (law.refer-holds r m x e) [ inl p ↦ rw p h | inr (inl p) ↦ g.over x p | inr (inr p) ↦ rw p n ];
}

refer_all-fits : (k : Policy) → Lawful k → (al ms r : List ℕ) → mem eqb nothing al ≡ true → ((x : ℕ) → mem eqb x ms ≡ true → mem eqb x al ≡ true)
    → Fits k.size al r → Fits k.size al (refer_all k r ms)
refer_all-fits k law al [] r n h g = g
refer_all-fits k law al (m ∷ ms) r n h g =
    refer_all-fits k law al ms (k.refer r m) n (λ x e. h x (or_right (eqb x m) (mem eqb x ms) e)) (refer-fits k law al r m n (h m (or_left (eqb m m) (mem eqb m ms) (eqb_self m))) g)

ahead-fits : (k : Policy) → Lawful k → (al ms r : List ℕ) → mem eqb nothing al ≡ true → ((x : ℕ) → mem eqb x ms ≡ true → mem eqb x al ≡ true)
    → Fits k.size al r → Fits k.size al (ahead k ms r)
ahead-fits k law al [] r n h g = g
ahead-fits k law al (m ∷ ms) r n h g =
    refer-fits k law al (ahead k ms r) m n (h m (or_left (eqb m m) (mem eqb m ms) (eqb_self m))) (ahead-fits k law al ms r n (λ x e. h x (or_right (eqb x m) (mem eqb x ms) e)) g)

nothing_over : (t : Task) → mem eqb nothing (alphabet t) ≡ true
unfolding alphabet
nothing_over t = or_left (eqb nothing nothing) (mem eqb nothing (memory_blocks t)) (eqb_self nothing)

first_fits : (k : Policy) → Lawful k → (t : Task) → Fits k.size (alphabet t) k.first
first_fits k law t = record { size = law.first-size; over = λ x e. rw (law.first_holds x e) (nothing_over t) }

references_over : (t : Task) (b : ℕ) (x : ℕ) → mem eqb x (block t b).references ≡ true → mem eqb x (alphabet t) ≡ true
unfolding alphabet
references_over t b x e = or_right (eqb x nothing) (mem eqb x (memory_blocks t)) (references_in_lem t b x e)

module _ (k : Policy) (law : Lawful k) (t : Task) where
  -- a state of the task: one of its blocks, and a row over its memory blocks
  pub record InTask (x : State) : Type 0 where
    pub below : x.0 < length t
    pub fits : Fits k.size (alphabet t) x.1

  pub universe : List State
  universe = spread (λ (b : ℕ) (r : List ℕ). (b, r)) (upto (length t)) (rows (alphabet t) k.size)

  pub universe_rounds : length universe ≡ rounds k t
  unfolding universe alphabet
  universe_rounds = rw (length_spread, length_upto, length-rows)

  pub in_universe : (x : State) → InTask x → mem same_state x universe ≡ true
  unfolding universe In
  in_universe x h = mem_spread eqb eqb_self eqb-true same_list same_list_self same_list_true same_state same_state_self same_state_true (λ (b : ℕ) (r : List ℕ). (b, r))
      x.0 (upto (length t)) x.1 (rows (alphabet t) k.size) (mem_upto (length t) x.0 h.below) (mem-rows (alphabet t) k.size x.1 h.fits.size h.fits.over)

  -- the empty row, and the rows that a block's references make of a row, are rows of the task
  pub empty_in_task : (b : ℕ) → b < length t → InTask (b, k.first)
  empty_in_task b h = record { below = h; fits = first_fits k law t }

  pub references_in_task : (x : State) (b c : ℕ) → c < length t → InTask x → InTask (c, refer_all k x.1 (block t b).references)
  references_in_task x b c h g = record { below = h; fits = refer_all-fits k law (alphabet t) (block t b).references x.1 (nothing_over t) (references_over t b) g.fits }

  pub firsts_in_task : (x : State) (b c : ℕ) → c < length t → InTask x → InTask (c, ahead k (block t b).references x.1)
  firsts_in_task x b c h g = record { below = h; fits = ahead-fits k law (alphabet t) (block t b).references x.1 (nothing_over t) (references_over t b) g.fits }
