-- A run goes from point to point of what comes in: the references up to the point of each, what comes in there, and at the end the rest of the path.
-- What comes in is left open: it has a point, and references that it makes.
-- The idea: where the point (i, d) is reached, only what has this point can still be due there, and that comes first in the list.
use mathlib.Core.Path.{◌≡◌, refl, sym, ap, ap₂, ◌∙◌}
use mathlib.Core.Logic.{◌⊎◌, inl, inr}
use mathlib.Core.Bool.{Bool, true, false, ◌&&◌, and-false}
use mathlib.Core.List.{List, [], ◌∷◌, ◌++◌}
use Prim.Native.Nat.{ℕ, suc, ◌-◌, ◌≤◌, ◌<◌}
use native.Mathlib.Omega.{arith}
use lib.Dec.{eqb}
use lib.ListN.{length, get_or, drop, length-drop}
use lib.Seq.{drop-cons}
use borrow.Author.Tests.{eqb-true, eqb-false, eq-eqb, ne_eqb}
use Rattle.model.specs.Lists.{Each}
use Rattle.model.specs.Tasks.{Task, block, Done, references}
use Rattle.model.specs.Runs.{Preemption, NotBefore, NeverFall, Point, points_from, block_points, points}
use Rattle.model.proofs.Events.{Event, Ref, Preempt, refs}
use Rattle.model.proofs.Taken.{Before, before-from, before_differs, after_differs, incoming}
use Rattle.model.proofs.Incoming.{refs_join, comings, events_of, run-quiet}
use Rattle.model.proofs.RunEvents.{position_of, done_of}
use Rattle.runs.specs.Parts.{between, references_at, last_point}
use Rattle.runs.proofs.PartLaws.{drop-next, from-entry, between_none, between_next, between-block, between-end}

pub done_le : (ms : List ℕ) (d : ℕ) → Done ms d → d ≤ length ms
done_le [] d h = omega arith
done_le (m ∷ ms) d h = h.1

-- the next point is reached, or lies ahead
reached : {i d j e : ℕ} → NotBefore i d j e → ((j ≡ i) × (e ≡ d)) ⊎ Before i d j e
reached (inl l) = inr (inl l)
reached {i} {d} {j} {e} (inr (p, l)) = go (eqb e d) refl
  where
    go : (c : Bool) → eqb e d ≡ c → ((j ≡ i) × (e ≡ d)) ⊎ Before i d j e
    go true s = inl (sym p, eqb-true e d s)
    go false s = inr (inr (p, omega (arith, eqb-false e d s)))

-- from a point that lies ahead, one reference on
on_by_one : {i d j e : ℕ} → Before i d j e → NotBefore i (suc d) j e
on_by_one (inl l) = inl l
on_by_one (inr (p, l)) = inr (p, l)

module _ {A : Type 0} (position done : A → ℕ) where
  -- no point comes before (i, d), and they never fall
  abbrev pub Rises : ℕ → ℕ → List A → Type 0
  Rises i d [] = Unit {0}
  Rises i d (x ∷ xs) = NotBefore i d (position x) (done x) × Rises (position x) (done x) xs

  -- those with this point, in list order
  abbrev due : ℕ → ℕ → List A → List A
  due i d xs = incoming position done i d xs

  -- none has a point before theirs
  none_due : (i d j e : ℕ) (xs : List A) → Before i d j e → Rises j e xs → due i d xs ≡ []
  none_due i d j e [] l r = refl
  none_due i d j e (x ∷ xs) l r =
      let b = before-from i d j e (position x) (done x) l r.0 in
      rw (after_differs (position x) (done x) i d b, none_due i d (position x) (done x) xs b r.1)

  module _ (t : Task) (path : List ℕ) where
    -- the point lies in the path
    abbrev pub InPath : A → Type 0
    InPath x = (position x < length path) × Done (references_at t path (position x)) (done x)

    -- none is due where a block with references is entered
    none_done : (i m : ℕ) (ms : List ℕ) (xs : List A) → references_at t path i ≡ m ∷ ms → Each InPath xs → due i 0 xs ≡ []
    none_done i m ms [] q e = refl
    none_done i m ms (x ∷ xs) q e = rw (go (eqb (position x) i) refl, none_done i m ms xs q e.1)
      where
        some : (l : List ℕ) → l ≡ m ∷ ms → Done l (done x) → done x ≡ 0 → ⊥
        some [] g h z = omega (arith, ap length g)
        some (n ∷ l) g h z = omega (arith, h.0)

        go : (c : Bool) → eqb (position x) i ≡ c → eqb (position x) i && eqb (done x) 0 ≡ false
        go true p = rw (ne_eqb (done x) 0 (some (references_at t path (position x)) (ap (references_at t path) (eqb-true (position x) i p) ∙ q) e.0.1), and-false)
        go false p = rw p

    module _ (all : A → List ℕ) where
      -- the events at some points of the path
      abbrev events : List A → List Point → List Event
      events xs ps = events_of position done all xs ps

      -- the events of the run from the point (i, d) on, by what comes in
      abbrev pub segments : List A → ℕ → ℕ → List Event
      segments [] i d = refs (between t path i d (last_point t path).position (last_point t path).done) []
      segments (x ∷ xs) i d = refs (between t path i d (position x) (done x)) (Preempt (all x) ∷ segments xs (position x) (done x))

      -- the events where the point (i, d) is reached: what is due there, and the rest; the block has the references ms left, and the blocks q follow
      abbrev after : List A → ℕ → ℕ → List ℕ → List ℕ → List Event
      after xs i d ms q = comings position done all (due i d xs) (events xs (points_from i d ms ++ points t (suc i) q))

      -- ---- one whose point is past

      module _ (x : A) (xs : List A) where
        past_from : (i d : ℕ) (ms : List ℕ) (rest : List Point) → (position x < i) ⊎ ((position x ≡ i) × (done x ≤ d)) → events (x ∷ xs) rest ≡ events xs rest
            → events (x ∷ xs) (points_from i d ms ++ rest) ≡ events xs (points_from i d ms ++ rest)
        past_from i d [] rest l h = h
        past_from i d (m ∷ ms) rest l h = rw (before_differs (position x) (done x) i (suc d) (less l), past_from i (suc d) ms rest (more l) h)
          where
            less : (position x < i) ⊎ ((position x ≡ i) × (done x ≤ d)) → Before (position x) (done x) i (suc d)
            less (inl a) = inl a
            less (inr (a, b)) = inr (a, omega arith)

            more : (position x < i) ⊎ ((position x ≡ i) × (done x ≤ d)) → (position x < i) ⊎ ((position x ≡ i) × (done x ≤ suc d))
            more (inl a) = inl a
            more (inr (a, b)) = inr (a, omega arith)

        past_path : (i : ℕ) (q : List ℕ) → position x < i → events (x ∷ xs) (points t i q) ≡ events xs (points t i q)
        past_path i [] l = refl
        past_path i (b ∷ q) l = go (block t b).references (past_path (suc i) q (omega arith))
          where
            go : (ms : List ℕ) → events (x ∷ xs) (points t (suc i) q) ≡ events xs (points t (suc i) q)
                → events (x ∷ xs) (block_points i ms ++ points t (suc i) q) ≡ events xs (block_points i ms ++ points t (suc i) q)
            go [] h = rw (before_differs (position x) (done x) i 0 (inl l), h)
            go (m ∷ ms) h = past_from i 0 (m ∷ ms) (points t (suc i) q) (inl l) h

      -- ---- a block is entered

      entered : (xs : List A) (i b : ℕ) (q : List ℕ) → Each InPath xs → get_or path i 0 ≡ b → events xs (points t i (b ∷ q)) ≡ after xs i 0 (block t b).references q
      entered xs i b q e n = go (block t b).references (ap (λ (c : ℕ). (block t c).references) n)
        where
          go : (ms : List ℕ) → references_at t path i ≡ ms → events xs (block_points i ms ++ points t (suc i) q) ≡ after xs i 0 ms q
          go [] p = refl
          go (m ∷ ms) p = rw (none_done i m ms xs p e)

      -- ---- the segments are the events

      -- from every point of the path
      abbrev Agrees : List A → Type 0
      Agrees xs = (i d : ℕ) (ms q : List ℕ) → i < length path → drop d (references_at t path i) ≡ ms → drop (suc i) path ≡ q → Rises i d xs → Each InPath xs
          → segments xs i d ≡ after xs i d ms q

      quiet-from : (i d : ℕ) (ms : List ℕ) (rest : List Point) → events [] (points_from i d ms ++ rest) ≡ refs ms (events [] rest)
      quiet-from i d [] rest = refl
      quiet-from i d (m ∷ ms) rest = ap (λ (es : List Event). Ref m ∷ es) (quiet-from i (suc d) ms rest)

      module _ (x : A) (xs : List A) (ih : Agrees xs) where
        -- the point is that of the next one
        here : (i d : ℕ) (ms q : List ℕ) → i < length path → drop d (references_at t path i) ≡ ms → drop (suc i) path ≡ q → Rises (position x) (done x) xs → Each InPath xs
            → position x ≡ i → done x ≡ d → segments (x ∷ xs) i d ≡ after (x ∷ xs) i d ms q
        here i d ms q h em eq r e p s =
            let rest = past_from x xs i d ms (points t (suc i) q) (inr (p, omega arith)) (past_path x xs (suc i) q (omega arith)) in
            let next = ih i d ms q h em eq (rw (p, s) at r) e in
            ap₂ (λ (j c : ℕ). refs (between t path i d j c) (Preempt (all x) ∷ segments xs j c)) p s
            ∙ ap (λ (l : List ℕ). refs l (Preempt (all x) ∷ segments xs i d)) (between_none t path i d)
            ∙ ap (λ (es : List Event). Preempt (all x) ∷ es) (next ∙ ap (comings position done all (due i d xs)) (sym rest))
            ∙ sym (rw (eq-eqb (position x) i p, eq-eqb (done x) d s))

        module _ (valid : Each InPath (x ∷ xs)) (r : Rises (position x) (done x) xs) where
          -- a point whose block has no references left lies in a later block
          beyond : (i d : ℕ) → drop d (references_at t path i) ≡ [] → Before i d (position x) (done x) → i < position x
          beyond i d em (inl l) = l
          beyond i d em (inr (p, l)) =
              absurd (omega (arith, done_le (references_at t path (position x)) (done x) valid.0.1, ap (λ (j : ℕ). length (references_at t path j)) p, length-drop d (references_at t path i), ap length em))

          none_here : (i d : ℕ) → Before i d (position x) (done x) → due i d (x ∷ xs) ≡ []
          none_here i d b = none_due i d (position x) (done x) (x ∷ xs) b (inr (refl, omega arith), r)

          -- within a block, where the blocks q follow
          in_block : (q : List ℕ)
              → ((i d : ℕ) → drop d (references_at t path i) ≡ [] → drop (suc i) path ≡ q → i < position x → segments (x ∷ xs) i d ≡ events (x ∷ xs) (points t (suc i) q))
              → (ms : List ℕ) (i d : ℕ) → i < length path → drop d (references_at t path i) ≡ ms → drop (suc i) path ≡ q → NotBefore i d (position x) (done x)
              → segments (x ∷ xs) i d ≡ after (x ∷ xs) i d ms q
          in_block q next [] i d h em eq n = go (reached n)
            where
              go : ((position x ≡ i) × (done x ≡ d)) ⊎ Before i d (position x) (done x) → segments (x ∷ xs) i d ≡ after (x ∷ xs) i d [] q
              go (inl (p, s)) = here i d [] q h em eq r valid.1 p s
              go (inr b) = rw (none_here i d b) (next i d em eq (beyond i d em b))
          in_block q next (m ∷ ms) i d h em eq n = go (reached n) (λ g. in_block q next ms i (suc d) h (drop-next (references_at t path i) d m ms em) eq g)
            where
              go : ((position x ≡ i) × (done x ≡ d)) ⊎ Before i d (position x) (done x)
                  → (NotBefore i (suc d) (position x) (done x) → segments (x ∷ xs) i (suc d) ≡ after (x ∷ xs) i (suc d) ms q)
                  → segments (x ∷ xs) i d ≡ after (x ∷ xs) i d (m ∷ ms) q
              go (inl (p, s)) on = here i d (m ∷ ms) q h em eq r valid.1 p s
              go (inr b) on = rw (none_here i d b, between_next t path i d (position x) (done x) m ms h em b) (ap (λ (es : List Event). Ref m ∷ es) (on (on_by_one b)))

          -- over the blocks q
          over_blocks : (q ms : List ℕ) (i d : ℕ) → i < length path → drop d (references_at t path i) ≡ ms → drop (suc i) path ≡ q → NotBefore i d (position x) (done x)
              → segments (x ∷ xs) i d ≡ after (x ∷ xs) i d ms q
          over_blocks [] ms i d h em eq n =
              in_block [] (λ j c ec ej l. absurd (omega (arith, valid.0.0, length-drop (suc j) path, ap length ej))) ms i d h em eq n
          over_blocks (b ∷ q) ms i d h em eq n = in_block (b ∷ q) (λ j c ec ej l. enter j c ec ej l (over_blocks q (block t b).references (suc j) 0)) ms i d h em eq n
            where
              enter : (j c : ℕ) → drop c (references_at t path j) ≡ [] → drop (suc j) path ≡ b ∷ q → j < position x
                  → (suc j < length path → references_at t path (suc j) ≡ (block t b).references → drop (suc (suc j)) path ≡ q → NotBefore (suc j) 0 (position x) (done x)
                  → segments (x ∷ xs) (suc j) 0 ≡ after (x ∷ xs) (suc j) 0 (block t b).references q)
                  → segments (x ∷ xs) j c ≡ events (x ∷ xs) (points t (suc j) (b ∷ q))
              enter j c ec ej l on =
                  let k : suc j < length path = omega (arith, valid.0.0) in
                  let at : get_or path (suc j) 0 ≡ b = ap (λ (l : List ℕ). get_or l 0 0) (sym (drop-cons path (suc j) 0 k) ∙ ej) in
                  ap (λ (l : List ℕ). refs l (Preempt (all x) ∷ segments xs (position x) (done x))) (between-block t path j c (position x) (done x) l ec)
                  ∙ on k (ap (λ (y : ℕ). (block t y).references) at) (drop-next path (suc j) b q ej) (from-entry (suc j) (position x) (done x) l)
                  ∙ sym (entered (x ∷ xs) (suc j) b q valid at)

      agrees : (xs : List A) → Agrees xs
      agrees [] i d ms q h em eq r e =
          ap (λ (l : List ℕ). refs l []) (between-end t path i d (length path - 1) h (omega arith))
          ∙ ap₂ (λ (l p : List ℕ). refs (l ++ references t p) []) em eq
          ∙ refs_join ms (references t q) []
          ∙ sym (quiet-from i d ms (points t (suc i) q) ∙ ap (refs ms) (run-quiet position done all t (suc i) q))
      agrees (x ∷ xs) i d ms q h em eq r e = over_blocks x xs (agrees xs) e r.1 q ms i d h em eq r.0

      -- the events of the whole run
      pub segments_all : (xs : List A) → 0 < length path → Rises 0 0 xs → Each InPath xs → segments xs 0 0 ≡ events xs (points t 0 path)
      segments_all xs h r e = go path refl
        where
          go : (p : List ℕ) → path ≡ p → segments xs 0 0 ≡ events xs (points t 0 p)
          go [] n = absurd (omega (arith, ap length n))
          go (b ∷ q) n =
              agrees xs 0 0 (block t b).references q h (ap (λ (p : List ℕ). references_at t p 0) n) (ap (drop 1) n) r e
              ∙ sym (entered xs 0 b q e (ap (λ (p : List ℕ). get_or p 0 0) n))

-- ---- preemptions

pub rises-all : (xs : List Preemption) → NeverFall xs → Rises position_of done_of 0 0 xs
rises-all [] h = tt
rises-all (x ∷ xs) h = (from-entry 0 x.position x.done (omega arith), later x xs h)
  where
    later : (x : Preemption) (xs : List Preemption) → NeverFall (x ∷ xs) → Rises position_of done_of x.position x.done xs
    later x [] h = tt
    later x (y ∷ xs) h = (h.0, later y xs h.1)
