-- All references of a run and of the runs within it: their misses, `misses-woven`, and what they leave in a row, `union`, against those of the run's own
-- references and of each run that comes in.
-- The idea: what comes in at a point changes each cache block as its last reference there does, or not at all.
use mathlib.Core.Path.{◌≡◌, refl, ap, ◌∙◌}
use mathlib.Core.List.{List, [], ◌∷◌, ◌++◌, append_assoc}
use Prim.Native.Nat.{ℕ, suc, ◌+◌, ◌≤◌}
use native.Mathlib.Omega.{arith}
use lib.ListN.{length}
use Rattle.cache.specs.Sum.{sum}
use Rattle.cache.specs.References.{Real, All}
use Rattle.cache.specs.Cache.{Cache, held, empty_row, with_reference, with_references, misses}
use Rattle.cache.proofs.Sums.{sum_le, sum_add}
use Rattle.cache.proofs.Rows.{length-empty_row, length-with_references, with_references-append, Effect, kept, given, effect}
use Rattle.model.specs.Lists.{Each}
use Rattle.model.specs.Tasks.{Task, block, references}
use Rattle.model.specs.Runs.{Point, points_from, block_points, points}
use Rattle.model.specs.Nested.{Coming, coming_at, all_of, woven}
use Rattle.model.proofs.Membership.{all_join}
use Rattle.model.proofs.Events.{Event, refs, disturbed}
use Rattle.model.proofs.Taken.{taken, each_incoming, At}
use Rattle.model.proofs.Incoming.{comings, events_of, weigh, weigh_append}

abbrev pub position_of : Coming → ℕ
position_of x = x.position

abbrev pub done_of : Coming → ℕ
done_of x = x.done

abbrev pub references_of : Coming → List ℕ
references_of x = x.all

-- the events of a run in which these come in
abbrev pub events : List Coming → List Point → List Event
events xs ps = events_of position_of done_of references_of xs ps

abbrev pub taken_of : List Coming → List Point → List Coming
taken_of xs ps = taken position_of done_of xs ps

abbrev pub sum_over : (Coming → ℕ) → List Coming → ℕ
sum_over f xs = weigh position_of done_of references_of f xs

sum-append : (f : Coming → ℕ) (xs ys : List Coming) → sum_over f (xs ++ ys) ≡ sum_over f xs + sum_over f ys
sum-append f xs ys = weigh_append position_of done_of references_of f xs ys

-- what holds of each holds of those with a point
each_at : (P : Coming → Type 0) (i d : ℕ) (xs : List Coming) → Each P xs → Each P (coming_at i d xs)
each_at P i d xs h = forget (coming_at i d xs) (each_incoming position_of done_of P i d xs h)
  where
    forget : (ys : List Coming) → Each (At position_of done_of P i d) ys → Each P ys
    forget [] h = tt
    forget (y ∷ ys) h = (h.0.holds, forget ys h.1)

-- ---- the misses of all

module _ (k : Cache) where
  pub misses-append : (ms ns row : List ℕ) → misses k row (ms ++ ns) ≡ misses k row ms + misses k (with_references k row ms) ns
  misses-append [] ns row = omega arith
  misses-append (m ∷ ms) ns row = omega (arith, misses-append ms ns (with_reference k row m))

  -- from whatever row, all its references miss at most its number
  abbrev pub Misses : (Coming → ℕ) → Coming → Type 0
  Misses number x = (row : List ℕ) → length row ≡ k.width → misses k row x.all ≤ number x

  -- from whatever row, the references miss at most what the events do, and w
  abbrev Within : List ℕ → List Event → ℕ → Type 0
  Within rest es w = (row : List ℕ) → length row ≡ k.width → misses k row rest ≤ disturbed k row es + w

  misses_comings : (number : Coming → ℕ) (ys : List Coming) (es : List Event) (d rest : List ℕ) → length d ≡ k.width → Each (Misses number) ys → (w : ℕ) → Within rest es w
      → misses k d (all_of ys ++ rest) ≤ disturbed k d (comings position_of done_of references_of ys es) + (sum_over number ys + w)
  misses_comings number [] es d rest e h w z = omega (arith, z d e)
  misses_comings number (y ∷ ys) es d rest e h w z =
      rw (append_assoc y.all (all_of ys) rest)
      (omega (
        arith,
        misses-append y.all (all_of ys ++ rest) d,
        h.0 d e,
        misses_comings number ys es (with_references k d y.all) rest (length-with_references k y.all d e) h.1 w z,
      ))

  misses_refs : (ms : List ℕ) (es : List Event) (d rest : List ℕ) (w : ℕ) → length d ≡ k.width → Within rest es w → misses k d (ms ++ rest) ≤ disturbed k d (refs ms es) + w
  misses_refs [] es d rest w e z = z d e
  misses_refs (m ∷ ms) es d rest w e z = omega (arith, misses_refs ms es (with_reference k d m) rest w (length-with_references k (m ∷ []) d e) z)

  pub misses-woven : (number : Coming → ℕ) (xs : List Coming) (ps : List Point) (d : List ℕ) → length d ≡ k.width → Each (Misses number) xs
      → misses k d (woven xs ps) ≤ disturbed k d (events xs ps) + sum_over number (taken_of xs ps)
  misses-woven number xs [] d e h = omega arith
  misses-woven number xs (p ∷ ps) d e h =
      let ys = coming_at p.position p.done xs in
      omega (
        arith,
        sum-append number ys (taken_of xs ps),
        misses_refs p.reference (comings position_of done_of references_of ys (events xs ps)) d (all_of ys ++ woven xs ps) (sum_over number ys + sum_over number (taken_of xs ps)) e
            (λ row q. misses_comings number ys (events xs ps) row (woven xs ps) q (each_at (Misses number) p.position p.done xs h) (sum_over number (taken_of xs ps))
            (λ row q. misses-woven number xs ps row q h)),
      )

-- ---- the references of points

abbrev pub references_at : List Point → List ℕ
references_at [] = []
references_at (p ∷ ps) = p.reference ++ references_at ps

at_from : (i d : ℕ) (ms : List ℕ) (rest : List Point) → references_at (points_from i d ms ++ rest) ≡ ms ++ references_at rest
at_from i d [] rest = refl
at_from i d (m ∷ ms) rest = ap (λ (l : List ℕ). m ∷ l) (at_from i (suc d) ms rest)

at_block : (i : ℕ) (ms : List ℕ) (rest : List Point) → references_at (block_points i ms ++ rest) ≡ ms ++ references_at rest
at_block i [] rest = refl
at_block i (m ∷ ms) rest = at_from i 0 (m ∷ ms) rest

-- those of the points of a path are the path's
pub at-points : (t : Task) (i : ℕ) (p : List ℕ) → references_at (points t i p) ≡ references t p
at-points t i [] = refl
at-points t i (b ∷ p) = at_block i (block t b).references (points t (suc i) p) ∙ ap (λ (l : List ℕ). (block t b).references ++ l) (at-points t (suc i) p)

-- ---- real references

abbrev pub RealPoints : List Point → Type 0
RealPoints ps = Each (λ (p : Point). All Real p.reference) ps

abbrev pub RealComings : List Coming → Type 0
RealComings xs = Each (λ (x : Coming). All Real x.all) xs

real-at : (ps : List Point) → RealPoints ps → All Real (references_at ps)
real-at [] a = tt
real-at (p ∷ ps) a = all_join Real p.reference (references_at ps) a.0 (real-at ps a.1)

real-all : (ys : List Coming) → RealComings ys → All Real (all_of ys)
real-all [] a = tt
real-all (y ∷ ys) a = all_join Real y.all (all_of ys) a.0 (real-all ys a.1)

pub real-woven : (xs : List Coming) (ps : List Point) → RealComings xs → RealPoints ps → All Real (woven xs ps)
real-woven xs [] a b = tt
real-woven xs (p ∷ ps) a b =
    let ys = coming_at p.position p.done xs in
    all_join Real p.reference (all_of ys ++ woven xs ps) b.0
    (all_join Real (all_of ys) (woven xs ps) (real-all ys (each_at (λ (x : Coming). All Real x.all) p.position p.done xs a)) (real-woven xs ps a b.1))

-- ---- several runs cost at most what each of them costs alone

module _ (k : Cache) (v : ℕ → ℕ → ℕ) where
  -- a number that depends on what each cache block holds
  abbrev pub measure : List ℕ → ℕ
  measure f = sum k.width (λ c. v c (held f c))

  insert_cell : (fs gs row : List ℕ) (c : ℕ) → length row ≡ k.width → Effect k Real c fs → Effect k Real c gs
      → v c (held (with_references k (with_references k row fs) gs) c) ≤ v c (held (with_references k row gs) c) + v c (held (with_references k (empty_row k) fs) c)
  insert_cell fs gs row c e a (given g p h) = rw (h (with_references k row fs) (length-with_references k fs row e), h row e) (omega arith)
  insert_cell fs gs row c e (kept i) (kept h) = rw (h (with_references k row fs) (length-with_references k fs row e), h row e, i row e) (omega arith)
  insert_cell fs gs row c e (given f p i) (kept h) =
      rw (h (with_references k row fs) (length-with_references k fs row e), h row e, i row e, i (empty_row k) (length-empty_row k)) (omega arith)

  -- references fs ahead of the references gs
  insert : (fs gs row : List ℕ) → All Real fs → All Real gs → length row ≡ k.width
      → measure (with_references k (with_references k row fs) gs) ≤ measure (with_references k row gs) + measure (with_references k (empty_row k) fs)
  insert fs gs row a b e =
      rw (← (sum_add k.width (λ c. v c (held (with_references k row gs) c)) (λ c. v c (held (with_references k (empty_row k) fs) c))))
      (sum_le k.width _ _ (λ c q. insert_cell fs gs row c e (effect k Real fs c q a) (effect k Real gs c q b)))

  -- what all references of one that comes in cost from the empty row
  abbrev pub cost_of : Coming → ℕ
  cost_of x = measure (with_references k (empty_row k) x.all)

  union_comings : (ys : List Coming) (rest gs row : List ℕ) (w : ℕ) → RealComings ys → All Real gs → length row ≡ k.width
      → ((row : List ℕ) → length row ≡ k.width → measure (with_references k row rest) ≤ measure (with_references k row gs) + w)
      → measure (with_references k row (all_of ys ++ rest)) ≤ measure (with_references k row gs) + (sum_over cost_of ys + w)
  union_comings [] rest gs row w a b e z = omega (arith, z row e)
  union_comings (y ∷ ys) rest gs row w a b e z =
      rw (append_assoc y.all (all_of ys) rest, with_references-append k row y.all (all_of ys ++ rest))
      (omega (
        arith,
        union_comings ys rest gs (with_references k row y.all) w a.1 b (length-with_references k y.all row e) z,
        insert y.all gs row a.0 b e,
      ))

  pub union : (xs : List Coming) (ps : List Point) (row : List ℕ) → RealComings xs → RealPoints ps → length row ≡ k.width
      → measure (with_references k row (woven xs ps)) ≤ measure (with_references k row (references_at ps)) + sum_over cost_of (taken_of xs ps)
  union xs [] row a b e = omega arith
  union xs (p ∷ ps) row a b e =
      let ys = coming_at p.position p.done xs in
      rw (with_references-append k row p.reference (all_of ys ++ woven xs ps), with_references-append k row p.reference (references_at ps))
      (omega (
        arith,
        sum-append cost_of ys (taken_of xs ps),
        union_comings ys (woven xs ps) (references_at ps) (with_references k row p.reference) (sum_over cost_of (taken_of xs ps))
            (each_at (λ (x : Coming). All Real x.all) p.position p.done xs a) (real-at ps b.1) (length-with_references k p.reference row e)
            (λ row q. union xs ps row a b.1 q),
      ))
