-- A run of references with preemptions anywhere between them, and what a preemption costs it. Definitions for the proofs alone.
-- What the references are and where preemptions stand is left open; the cache may be of any kind.
use mathlib.Core.Path.{◌≡◌}
use mathlib.Core.Bool.{Bool, true, false, not, ◌&&◌}
use mathlib.Core.List.{List, [], ◌∷◌}
use Prim.Native.Nat.{ℕ, suc, ◌+◌}
use lib.Dec.{eqb}
use Rattle.cache.specs.Sum.{bit, count}
use Rattle.cache.specs.References.{nothing, Real, All}
use Rattle.cache.specs.Cache.{Cache, held, Policy, one_line, refer_all}
use Rattle.cache.specs.Firsts.{ahead}
use Rattle.cache.specs.Sets.{useful}
use Rattle.model.specs.Numbers.{Count}

pub data Event : Type 0 where
  Ref : ℕ → Event
  Preempt : List ℕ → Event

-- the run's own references
abbrev pub own : List Event → List ℕ
own [] = []
own (Ref m ∷ es) = m ∷ own es
own (Preempt fs ∷ es) = own es

-- references with no preemption between them, and then the events es
abbrev pub refs : List ℕ → List Event → List Event
refs [] es = es
refs (m ∷ ms) es = Ref m ∷ refs ms es

abbrev pub preemptions : List Event → ℕ
preemptions [] = 0
preemptions (Ref m ∷ es) = preemptions es
preemptions (Preempt fs ∷ es) = suc (preemptions es)

-- ---- misses: U is `misses k row (own es)`

-- D: the run's own misses with its preemptions
abbrev pub disturbed_on : Policy → List ℕ → List Event → ℕ
disturbed_on k d [] = 0
disturbed_on k d (Ref m ∷ es) = bit (not (k.found d m)) + disturbed_on k (k.refer d m) es
disturbed_on k d (Preempt fs ∷ es) = disturbed_on k (refer_all k d fs) es

abbrev pub disturbed : Cache → List ℕ → List Event → ℕ
disturbed k = disturbed_on (one_line k)

-- the own references that hit in the undisturbed run from u and miss in the disturbed run from d
abbrev pub lost_on : Policy → List ℕ → List ℕ → List Event → ℕ
lost_on k d u [] = 0
lost_on k d u (Ref m ∷ es) = bit (k.found u m && not (k.found d m)) + lost_on k (k.refer d m) (k.refer u m) es
lost_on k d u (Preempt fs ∷ es) = lost_on k (refer_all k d fs) u es

abbrev pub lost : Cache → List ℕ → List ℕ → List Event → ℕ
lost k = lost_on (one_line k)

-- those that miss in the undisturbed run and hit in the disturbed one
abbrev pub gained_on : Policy → List ℕ → List ℕ → List Event → ℕ
gained_on k d u [] = 0
gained_on k d u (Ref m ∷ es) = bit (k.found d m && not (k.found u m)) + gained_on k (k.refer d m) (k.refer u m) es
gained_on k d u (Preempt fs ∷ es) = gained_on k (refer_all k d fs) u es

abbrev pub gained : Cache → List ℕ → List ℕ → List Event → ℕ
gained k = gained_on (one_line k)

-- ---- what a preemption costs

-- `useful` at one cache block, of what the two rows hold there
abbrev pub agree : ℕ → ℕ → Bool
agree x y = eqb x y && not (eqb x nothing)

-- a number for each preemption of a run, summed: v is given the row of the undisturbed run there, the first references to come,
-- and the row that the preemption makes from the empty one; the undisturbed run begins with the row u
abbrev pub total_on : Count → Policy → List ℕ → List Event → ℕ
total_on v k u [] = 0
total_on v k u (Ref m ∷ es) = total_on v k (k.refer u m) es
total_on v k u (Preempt fs ∷ es) = v u (ahead k (own es) k.first) (refer_all k k.first fs) + total_on v k u es

abbrev pub total : Count → Cache → List ℕ → List Event → ℕ
total v k = total_on v (one_line k)

-- the cache blocks where d and u differ and u holds what comes next
abbrev pub gap : Cache → List ℕ → List ℕ → List ℕ → ℕ
gap k d u l = count k.width (λ c. useful u l c && not (eqb (held d c) (held u c)))

-- ---- whose references they are

-- each own reference is P, and each of the others is Q
abbrev pub Parts : (ℕ → Type 0) → (ℕ → Type 0) → List Event → Type 0
Parts P Q [] = Unit {0}
Parts P Q (Ref m ∷ es) = P m × Parts P Q es
Parts P Q (Preempt fs ∷ es) = All Q fs × Parts P Q es

abbrev pub Clean : List Event → Type 0
Clean es = Parts Real Real es

-- own references are mine, and no other reference is
abbrev pub EventsApart : (ℕ → Bool) → List Event → Type 0
EventsApart mine es = Parts (λ m. (mine m ≡ true) × Real m) (λ f. (mine f ≡ false) × Real f) es
