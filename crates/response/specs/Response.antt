-- Document 02, Point 8: the equation of the response time, and the least number that meets it. Definitions only.
use Rattle.std.specs.Prelude.{◌≡◌, ◌≢◌, ◌⊎◌, cond, List, ℕ, zero, suc, ◌+◌, ◌*◌, ◌-◌, ◌/◌, ◌≤◌, ◌<◌, eqb, get_or}
use Rattle.cache.specs.Sum.{sum}

-- ceil(r / t), for t of at least 1
unfoldable pub ceil : ℕ → ℕ → ℕ
ceil r t = (r + (t - 1)) / t

-- "g sums the pair numbers by j of the task itself and all tasks between": of the tasks j + 1 to i, where pair h j is the number of h preempted by j
unfoldable pub g : (ℕ → ℕ → ℕ) → ℕ → ℕ → ℕ
g pair i j = sum (i - j) (λ (k : ℕ). pair (j + 1 + k) j)

-- "Cj + penalty × g"
abbrev pub cost : (ℕ → ℕ) → (ℕ → ℕ → ℕ) → ℕ → ℕ → ℕ → ℕ
cost c pair penalty i j = c j + penalty * g pair i j

-- "C + the sum over higher tasks j of ceil(R / Tj) × (Cj + penalty × g)", of task i; "tasks come highest priority first": those below i are higher
unfoldable pub right_side : (ℕ → ℕ) → (ℕ → ℕ) → (ℕ → ℕ → ℕ) → ℕ → ℕ → ℕ → ℕ
right_side c t pair penalty i r = c i + sum i (λ (j : ℕ). ceil r (t j) * cost c pair penalty i j)

-- "R is the least positive number with R = .."
pub record Response (f : ℕ → ℕ) (r : ℕ) : Type 0 where
  pub positive : 0 < r
  pub meets : r ≡ f r
  pub least : (s : ℕ) → 0 < s → s ≡ f s → r ≤ s

-- "A task with no such R up to D is marked late with R = 0, and only then."
pub data Answer (f : ℕ → ℕ) (d : ℕ) : ℕ → Type 0 where
  within : {r : ℕ} → Response f r → r ≤ d → Answer f d r
  late : ((s : ℕ) → 0 < s → s ≤ d → s ≡ f s → ⊥) → Answer f d 0

-- at some time up to d all that is asked for until then fits
abbrev pub Fits : (ℕ → ℕ) → ℕ → Type 0
Fits f d = (x : ℕ) × (x ≤ d) × (f x ≤ x)

-- of two answers the second is late, or both are in time and the first is not above it
abbrev pub NotBelow : ℕ → ℕ → Type 0
NotBelow r r' = (r' ≡ 0) ⊎ ((r ≢ 0) × (r ≤ r'))

-- ---- computed

-- the first of k numbers from r on that meets the equation, or 0
unfoldable pub first_from : (ℕ → ℕ) → ℕ → ℕ → ℕ
first_from f zero r = 0
first_from f (suc k) r = cond (eqb r (f r)) r (first_from f k (suc r))

abbrev pub answer : (ℕ → ℕ) → ℕ → ℕ
answer f d = first_from f d 1

-- R of task i, or 0 where it is late
abbrev pub response_time : (ℕ → ℕ) → (ℕ → ℕ) → (ℕ → ℕ) → (ℕ → ℕ → ℕ) → ℕ → ℕ → ℕ
response_time c t d pair penalty i = answer (right_side c t pair penalty i) (d i)

-- the right side by lists of periods and of costs, where cost j is Cj + penalty × g
unfoldable pub demand : ℕ → List ℕ → List ℕ → ℕ → ℕ → ℕ
demand c periods costs i r = c + sum i (λ (j : ℕ). ceil r (get_or periods j 0) * get_or costs j 0)
