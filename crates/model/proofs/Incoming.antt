-- A run with what comes in at its points, as a list of events: the own references stay those of the path, `own-run`, and what comes in costs no more
-- than its numbers, `total_le`. What comes in is left open: it has a point, and references that it makes.
-- The idea: at each point the undisturbed row is one of paths, and so is the row of first references to come.
use mathlib.Core.Path.{◌≡◌, refl, sym, ap, ◌∙◌}
use mathlib.Core.Bool.{true}
use mathlib.Core.List.{List, [], ◌∷◌, ◌++◌, append-nil, append_assoc}
use Prim.Native.Nat.{ℕ, suc, ◌+◌, ◌≤◌, ◌<◌}
use native.Mathlib.Nat.{add-zero}
use native.Mathlib.Omega.{arith}
use lib.Dec.{eqb}
use lib.ListN.{length, length-append, get_or, take, drop}
use lib.Seq.{take_at, drop_at, get_or-append-add}
use Rattle.cache.specs.References.{All}
use Rattle.cache.specs.Cache.{Cache, Policy, one_line, empty_row, refer_all}
use Rattle.cache.specs.Firsts.{ahead}
use Rattle.cache.proofs.Rows.{refer_all-append, ahead-append}
use Rattle.model.specs.Lists.{mem, Each}
use Rattle.model.specs.Tasks.{Task, block, end, PathFrom, stay, step, Complete, references}
use Rattle.model.specs.States.{LivesOn}
use Rattle.model.specs.Numbers.{Count}
use Rattle.model.specs.Runs.{Point, points_from, block_points, points}
use Rattle.model.proofs.Paths.{path-first, path_snoc, references_join}
use Rattle.model.proofs.Entering.{EntersOn, any-enters-first}
use Rattle.model.proofs.Policies.{Lawful, one_lawful}
use Rattle.model.proofs.Events.{Event, Preempt, own, refs, total_on, total, Parts}
use Rattle.model.proofs.Lost.{own_refs}
use Rattle.model.proofs.Taken.{incoming, taken, At, each_incoming}

pub refs_join : (a b : List ℕ) (es : List Event) → refs (a ++ b) es ≡ refs a (refs b es)
refs_join [] b es = refl
refs_join (m ∷ a) b es = rw (refs_join a b es)

module _ {A : Type 0} (position done : A → ℕ) (all : A → List ℕ) where
  -- what comes in, in list order, and then the events es
  abbrev pub comings : List A → List Event → List Event
  comings [] es = es
  comings (x ∷ xs) es = Preempt (all x) ∷ comings xs es

  -- at each point its reference, and then what comes in there
  abbrev pub events_of : List A → List Point → List Event
  events_of xs [] = []
  events_of xs (p ∷ ps) = refs p.reference (comings (incoming position done p.position p.done xs) (events_of xs ps))

  -- ---- own references

  own_comings : (ys : List A) (es : List Event) → own (comings ys es) ≡ own es
  own_comings [] es = refl
  own_comings (y ∷ ys) es = own_comings ys es

  own-from : (xs : List A) (i d : ℕ) (ms : List ℕ) (rest : List Point) → own (events_of xs (points_from i d ms ++ rest)) ≡ ms ++ own (events_of xs rest)
  own-from xs i d [] rest = refl
  own-from xs i d (m ∷ ms) rest =
      ap (λ (l : List ℕ). m ∷ l) (own_comings (incoming position done i (suc d) xs) (events_of xs (points_from i (suc d) ms ++ rest)) ∙ own-from xs i (suc d) ms rest)

  own_block : (xs : List A) (i : ℕ) (ms : List ℕ) (rest : List Point) → own (events_of xs (block_points i ms ++ rest)) ≡ ms ++ own (events_of xs rest)
  own_block xs i [] rest = own_comings (incoming position done i 0 xs) (events_of xs rest)
  own_block xs i (m ∷ ms) rest = own-from xs i 0 (m ∷ ms) rest

  pub own-run : (t : Task) (xs : List A) (i : ℕ) (p : List ℕ) → own (events_of xs (points t i p)) ≡ references t p
  own-run t xs i [] = refl
  own-run t xs i (b ∷ p) = own_block xs i (block t b).references (points t (suc i) p) ∙ ap (λ (l : List ℕ). (block t b).references ++ l) (own-run t xs (suc i) p)

  quiet_events : (ps : List Point) → events_of [] ps ≡ refs (own (events_of [] ps)) []
  quiet_events [] = refl
  quiet_events (p ∷ ps) =
      ap (refs p.reference) (quiet_events ps) ∙ sym (refs_join p.reference (own (events_of [] ps)) [])
      ∙ ap (λ (l : List ℕ). refs l []) (sym (own_refs p.reference (events_of [] ps)))

  -- nothing comes in
  pub run-quiet : (t : Task) (i : ℕ) (p : List ℕ) → events_of [] (points t i p) ≡ refs (references t p) []
  run-quiet t i p = quiet_events (points t i p) ∙ ap (λ (l : List ℕ). refs l []) (own-run t [] i p)

  -- ---- whose references they are

  module _ (P Q : ℕ → Type 0) where
    parts_comings : (ys : List A) (es : List Event) (i d : ℕ) → Each (At position done (λ (x : A). All Q (all x)) i d) ys → Parts P Q es → Parts P Q (comings ys es)
    parts_comings [] es i d h g = g
    parts_comings (y ∷ ys) es i d h g = (h.0.holds, parts_comings ys es i d h.1 g)

    module _ (xs : List A) (foreign : Each (λ (x : A). All Q (all x)) xs) where
      parts_at : (i d : ℕ) (es : List Event) → Parts P Q es → Parts P Q (comings (incoming position done i d xs) es)
      parts_at i d es g = parts_comings (incoming position done i d xs) es i d (each_incoming position done (λ (x : A). All Q (all x)) i d xs foreign) g

      parts_from : (i d : ℕ) (ms : List ℕ) (rest : List Point) → All P ms → Parts P Q (events_of xs rest) → Parts P Q (events_of xs (points_from i d ms ++ rest))
      parts_from i d [] rest a g = g
      parts_from i d (m ∷ ms) rest a g = (a.0, parts_at i (suc d) (events_of xs (points_from i (suc d) ms ++ rest)) (parts_from i (suc d) ms rest a.1 g))

      parts-block : (i : ℕ) (ms : List ℕ) (rest : List Point) → All P ms → Parts P Q (events_of xs rest) → Parts P Q (events_of xs (block_points i ms ++ rest))
      parts-block i [] rest a g = parts_at i 0 (events_of xs rest) g
      parts-block i (m ∷ ms) rest a g = parts_from i 0 (m ∷ ms) rest a g

      pub parts-run : (t : Task) → ((b : ℕ) → All P (block t b).references) → (i : ℕ) (p : List ℕ) → Parts P Q (events_of xs (points t i p))
      parts-run t h i [] = tt
      parts-run t h i (b ∷ p) = parts-block i (block t b).references (points t (suc i) p) (h b) (parts-run t h (suc i) p)

  -- ---- a number for each that comes in

  module _ (f : A → ℕ) where
    abbrev pub weigh : List A → ℕ
    weigh [] = 0
    weigh (x ∷ xs) = f x + weigh xs

    pub weigh_append : (xs ys : List A) → weigh (xs ++ ys) ≡ weigh xs + weigh ys
    weigh_append [] ys = omega arith
    weigh_append (x ∷ xs) ys = omega (arith, weigh_append xs ys)

  -- ---- what those that come in cost a run, by any count

  module _ (v : Count) (k : Policy) (law : Lawful k) (t : Task) (path : List ℕ) (number : A → ℕ) where
    -- where d references of the block b are done, whatever row the block is entered with and whatever is live after it, references fs cost at most x
    abbrev CostsAt : ℕ → ℕ → List ℕ → ℕ → Type 0
    CostsAt b d fs x =
        (e l : List ℕ) → EntersOn k law t b e → LivesOn k t b l
        → v (refer_all k e (take d (block t b).references)) (ahead k (drop d (block t b).references) l) (refer_all k k.first fs) ≤ x

    -- each costs at most its number at its own point
    abbrev pub CostsOn : A → Type 0
    CostsOn x = CostsAt (get_or path (position x) 0) (done x) (all x) (number x)

    total_comings : (ys : List A) (es : List Event) (u : List ℕ)
        → Each (λ (y : A). v u (ahead k (own es) k.first) (refer_all k k.first (all y)) ≤ number y) ys
        → total_on v k u (comings ys es) ≤ weigh number ys + total_on v k u es
    total_comings [] es u h = omega arith
    total_comings (y ∷ ys) es u h = rw (own_comings ys es) (omega (arith, total_comings ys es u h.1, h.0))

    module _ (xs : List A) (valid : Each CostsOn xs) where
      -- the same at an equal point
      moved : (j i c d b : ℕ) (fs : List ℕ) (x : ℕ) → j ≡ i → c ≡ d → get_or path i 0 ≡ b → CostsAt (get_or path j 0) c fs x → CostsAt b d fs x
      moved j i c d b fs x p q r h = rw r at (rw (p, q) at h)

      costs : (i d b : ℕ) (e l : List ℕ) → get_or path i 0 ≡ b → EntersOn k law t b e → LivesOn k t b l → (ys : List A) → Each (At position done CostsOn i d) ys
          → Each (λ (y : A). v (refer_all k e (take d (block t b).references)) (ahead k (drop d (block t b).references) l) (refer_all k k.first (all y)) ≤ number y) ys
      costs i d b e l at he hl [] h = tt
      costs i d b e l at he hl (y ∷ ys) h =
          (moved (position y) i (done y) d b (all y) (number y) h.0.at_position h.0.at_done at h.0.holds e l he hl, costs i d b e l at he hl ys h.1)

      -- where the references a are done and the references z are to come
      costs-at : (i b : ℕ) (a z e l : List ℕ) (es : List Event) → a ++ z ≡ (block t b).references → get_or path i 0 ≡ b → EntersOn k law t b e → LivesOn k t b l
          → ahead k (own es) k.first ≡ ahead k z l → (ys : List A) → Each (At position done CostsOn i (length a)) ys
          → Each (λ (y : A). v (refer_all k e a) (ahead k (own es) k.first) (refer_all k k.first (all y)) ≤ number y) ys
      costs-at i b a z e l es s at he hl o ys h =
          rw o (rw (← s, take_at a z (length a) refl, drop_at a z (length a) refl) at (costs i (length a) b e l at he hl ys h))

      total-from : (i b : ℕ) (ms a e l : List ℕ) (rest : List Point) → a ++ ms ≡ (block t b).references → get_or path i 0 ≡ b → EntersOn k law t b e → LivesOn k t b l
          → ahead k (own (events_of xs rest)) k.first ≡ l
          → total_on v k (refer_all k e (a ++ ms)) (events_of xs rest) ≤ weigh number (taken position done xs rest)
          → total_on v k (refer_all k e a) (events_of xs (points_from i (length a) ms ++ rest)) ≤ weigh number (taken position done xs (points_from i (length a) ms ++ rest))
      total-from i b [] a e l rest s at he hl o z = rw append-nil at z
      total-from i b (m ∷ ms) a e l rest s at he hl o z =
          let d : length (a ++ (m ∷ [])) ≡ suc (length a) = omega (arith, length-append a (m ∷ [])) in
          let s' : (a ++ (m ∷ [])) ++ ms ≡ (block t b).references = append_assoc a (m ∷ []) ms ∙ s in
          let es = events_of xs (points_from i (suc (length a)) ms ++ rest) in
          let ys = incoming position done i (suc (length a)) xs in
          let u : refer_all k e (a ++ (m ∷ [])) ≡ k.refer (refer_all k e a) m = refer_all-append k e a (m ∷ []) in
          let o' : ahead k (own es) k.first ≡ ahead k ms l = rw (own-from xs i (suc (length a)) ms rest, ahead-append k ms (own (events_of xs rest)) k.first, o) in
          let ih : total_on v k (k.refer (refer_all k e a) m) es ≤ weigh number (taken position done xs (points_from i (suc (length a)) ms ++ rest))
          = rw (u, d) at (total-from i b ms (a ++ (m ∷ [])) e l rest s' at he hl o (rw (append_assoc a (m ∷ []) ms) z)) in
          let here : total_on v k (k.refer (refer_all k e a) m) (comings ys es) ≤ weigh number ys + total_on v k (k.refer (refer_all k e a) m) es
          = total_comings ys es (k.refer (refer_all k e a) m)
          (rw u at (costs-at i b (a ++ (m ∷ [])) ms e l es s' at he hl o' ys (rw d (each_incoming position done CostsOn i (suc (length a)) xs valid)))) in
          omega (arith, ih, here, weigh_append number ys (taken position done xs (points_from i (suc (length a)) ms ++ rest)))

      total-block : (i b : ℕ) (ms e l : List ℕ) (rest : List Point) → ms ≡ (block t b).references → get_or path i 0 ≡ b → EntersOn k law t b e → LivesOn k t b l
          → ahead k (own (events_of xs rest)) k.first ≡ l
          → total_on v k (refer_all k e ms) (events_of xs rest) ≤ weigh number (taken position done xs rest)
          → total_on v k e (events_of xs (block_points i ms ++ rest)) ≤ weigh number (taken position done xs (block_points i ms ++ rest))
      total-block i b [] e l rest s at he hl o z =
          omega (
            arith,
            z,
            total_comings (incoming position done i 0 xs) (events_of xs rest) e
                (costs-at i b [] [] e l (events_of xs rest) s at he hl o (incoming position done i 0 xs) (each_incoming position done CostsOn i 0 xs valid)),
            weigh_append number (incoming position done i 0 xs) (taken position done xs rest),
          )
      total-block i b (m ∷ ms) e l rest s at he hl o z = total-from i b (m ∷ ms) [] e l rest s at he hl o z

      -- the next block is entered with the row that this one leaves
      enters-next : (b c : ℕ) (e : List ℕ) → EntersOn k law t b e → mem eqb c (block t b).successors ≡ true → c < length t → EntersOn k law t c (refer_all k e (block t b).references)
      enters-next b c e (before, (q, w, x), d) m l = (
        before ++ (b ∷ []),
        (q ++ (c ∷ []), path_snoc t c w m l, ap (λ (z : List ℕ). z ++ (c ∷ [])) x),
        rw (d, references_join t before (b ∷ []), append-nil, refer_all-append k k.first (references t before) (block t b).references),
      )

      block_at : (pre q : List ℕ) (i b : ℕ) → i ≡ length pre → pre ++ (b ∷ q) ≡ path → get_or path i 0 ≡ b
      block_at pre q i b n s = rw (n, ← s, ← (add-zero (length pre))) (get_or-append-add pre (b ∷ q) 0 0)

      to_end_lem : {b e : ℕ} {q : List ℕ} → e ≡ end t → PathFrom t b q e → PathFrom t b q (end t)
      to_end_lem z w = rw z at w

      total-run : {b e : ℕ} {q : List ℕ} (i : ℕ) (pre u : List ℕ) → e ≡ end t → PathFrom t b q e → i ≡ length pre → pre ++ (b ∷ q) ≡ path → EntersOn k law t b u
          → total_on v k u (events_of xs (points t i (b ∷ q))) ≤ weigh number (taken position done xs (points t i (b ∷ q)))
      total-run {b} i pre u z (stay l) n s h =
          total-block i b (block t b).references u k.first [] refl (block_at pre [] i b n s) h ([], to_end_lem z (stay l), sym (law.next-is [])) refl (omega arith)
      total-run {b} i pre u z (step {c = c} {p = q} m w) n s h =
          total-block i b (block t b).references u (ahead k (references t (c ∷ q)) k.first) (points t (suc i) (c ∷ q)) refl (block_at pre (c ∷ q) i b n s) h
          (c ∷ q, step m (to_end_lem z w), sym (law.next-is (references t (c ∷ q))))
          (ap (λ (ms : List ℕ). ahead k ms k.first) (own-run t xs (suc i) (c ∷ q)))
          (total-run (suc i) (pre ++ (b ∷ [])) (refer_all k u (block t b).references) z w (omega (arith, length-append pre (b ∷ []))) (append_assoc pre (b ∷ []) (c ∷ q) ∙ s)
          (enters-next b c u h m (path-first t w)))

  pub any-total_le : (v : Count) (k : Policy) (law : Lawful k) (t : Task) (path : List ℕ) (number : A → ℕ) (xs : List A) → Each (CostsOn v k law t path number) xs → Complete t path
      → total_on v k k.first (events_of xs (points t 0 path)) ≤ weigh number (taken position done xs (points t 0 path))
  any-total_le v k law t [] number xs h f = absurd f
  any-total_le v k law t (b ∷ q) number xs h (e, w) =
      total-run v k law t (b ∷ q) number xs h 0 [] k.first refl w refl refl (rw e (any-enters-first k law t (path-first t (rw e at w))))

  -- ---- document 01's cache

  abbrev pub Costs : Count → Cache → Task → List ℕ → (A → ℕ) → A → Type 0
  Costs v k = CostsOn v (one_line k) (one_lawful k)

  pub total_le : (v : Count) (k : Cache) (t : Task) (path : List ℕ) (number : A → ℕ) (xs : List A) → Each (Costs v k t path number) xs → Complete t path
      → total v k (empty_row k) (events_of xs (points t 0 path)) ≤ weigh number (taken position done xs (points t 0 path))
  total_le v k = any-total_le v (one_line k) (one_lawful k)
