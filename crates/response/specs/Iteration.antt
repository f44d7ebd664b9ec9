-- Where the iteration begins. Definitions only.
use Rattle.std.specs.Prelude.{◌≡◌, cond, List, ℕ, ◌*◌, ◌-◌, ◌/◌, ◌≤◌, ◌<◌, leb, get_or}
use Rattle.cache.specs.Sum.{sum}
use Rattle.response.specs.Response.{ceil}
use Rattle.response.specs.declared.Higher.{Higher}

-- the shares of their time that the tasks below i ask for, each cost / period times 2 ^ 30, rounded down
unfoldable pub load : List ℕ → List ℕ → ℕ → ℕ
load periods costs i = sum i (λ (j : ℕ). get_or costs j 0 * 1073741824 / get_or periods j 0)

-- where the iteration begins: c / (1 - the shares), rounded up, or one above each deadline where the shares are the whole time or more
abbrev pub earliest_of : ℕ → List ℕ → List ℕ → ℕ → ℕ
earliest_of c periods costs i =
    cond (leb 1073741824 (load periods costs i)) 1000001 (ceil (c * 1073741824) (1073741824 - load periods costs i))

-- a number of the iteration: positive, not above f of it, and not above any number that meets the equation
pub record Below (f : ℕ → ℕ) (r : ℕ) : Type 0 where
  pub positive : 0 < r
  pub rises : r ≤ f r
  pub under : (s : ℕ) → 0 < s → s ≡ f s → r ≤ s

-- tasks in order: at most eight, the periods 1 to 1,000,000, and no release that costs more than 1,000,000,000
pub record Bounded (h : Higher) : Type 0 where
  pub few : h.count ≤ 8
  pub some : (j : ℕ) → j < h.count → 0 < get_or h.periods j 0
  pub short : (j : ℕ) → j < h.count → get_or h.periods j 0 ≤ 1000000
  pub cheap : (j : ℕ) → j < h.count → get_or h.costs j 0 ≤ 1000000000
