-- Two caches of any kind, of which the one keeps longer rows: those of the other with the same numbers after them. Their states, numbers and counts
-- are the same. Rows that are wider than the cache has blocks are one use (Width).
-- The idea: each reference keeps the shorter row in front of the longer one; a rising list of rows is known by its members.
use mathlib.Core.Path.{◌≡◌, refl, sym, ap, ap₂, ◌∙◌}
use mathlib.Core.Logic.{◌⊎◌, inl, inr, ◌↔◌}
use mathlib.Core.Bool.{true, not, ◌&&◌}
use mathlib.Core.List.{List, [], ◌∷◌, ◌++◌, map}
use Prim.Native.Nat.{ℕ, ◌+◌}
use native.Mathlib.Omega.{arith}
use lib.ListN.{length, take, drop, length-map}
use Rattle.cache.specs.Sum.{bit}
use Rattle.cache.specs.Cache.{Policy, refer_all, misses_on}
use Rattle.cache.specs.Firsts.{ahead}
use Rattle.model.specs.Lists.{mem, Each}
use Rattle.model.specs.Tasks.{Task, block, Allows, end, references}
use Rattle.model.specs.States.{ReachesOn, LivesOn, ReachesPointOn, LivesPointOn}
use Rattle.model.specs.Numbers.{Count, RowsOn, counted, MostOn}
use Rattle.model.specs.Order.{before, Rising}
use Rattle.model.specs.Runs.{Preemption, points, count_at_end_on}
use Rattle.model.specs.Computed.{same_list, allowed, reaching_on, living_on, most_on}
use Rattle.model.proofs.Membership.{same_list_self, same_list_true, each_of, mem-map, mem_of_map}
use Rattle.model.proofs.Policies.{Lawful, all-size, ahead-size, run-size, next-size, reaches-size, lives-size}
use Rattle.model.proofs.Sorted.{before_self, rising_unique, any-reaching-rows, any-living-rows, any-reaching-rising, any-living-rising}
use Rattle.model.proofs.Most.{any-allowed-most, any-most_unique}
use Rattle.model.proofs.Events.{Event, Ref, Preempt, refs, disturbed_on, lost_on}
use Rattle.model.proofs.RunEvents.{run_events, refs_misses, any-count_events}

-- rows of `broad` are rows of `narrow` with the numbers `rest` after them
pub record Wider (narrow broad : Policy) (rest : List ℕ) : Type 0 where
  pub narrow_lawful : Lawful narrow
  pub broad_lawful : Lawful broad
  pub first_same : broad.first ≡ narrow.first ++ rest
  pub refer_same : (row : List ℕ) (m : ℕ) → length row ≡ narrow.size → broad.refer (row ++ rest) m ≡ narrow.refer row m ++ rest
  pub found_same : (row : List ℕ) (m : ℕ) → length row ≡ narrow.size → broad.found (row ++ rest) m ≡ narrow.found row m

before-after : (x y z : List ℕ) → length x ≡ length y → before (x ++ z) (y ++ z) ≡ before x y
before-after [] [] z e = before_self z
before-after [] (b ∷ y) z e = absurd (omega arith)
before-after (a ∷ x) [] z e = absurd (omega arith)
before-after (a ∷ x) (b ∷ y) z e = rw (before-after x y z (omega arith))

rising-after : (n : ℕ) (z : List ℕ) (l : List (List ℕ)) → Each (λ (r : List ℕ). length r ≡ n) l → Rising l → Rising (map (λ (r : List ℕ). r ++ z) l)
rising-after n z [] h g = tt
rising-after n z (x ∷ []) h g = (tt, tt)
rising-after n z (x ∷ y ∷ l) h g = (before-after x y z (h.0 ∙ sym h.1.0) ∙ g.0, rising-after n z (y ∷ l) h.1 g.1)

module _ {narrow broad : Policy} {rest : List ℕ} (h : Wider narrow broad rest) where
  abbrev pub padded : List ℕ → List ℕ
  padded row = row ++ rest

  -- ---- rows

  padded_all : (ms row : List ℕ) → length row ≡ narrow.size → refer_all broad (padded row) ms ≡ padded (refer_all narrow row ms)
  padded_all [] row e = refl
  padded_all (m ∷ ms) row e =
      ap (λ (r : List ℕ). refer_all broad r ms) (h.refer_same row m e) ∙ padded_all ms (narrow.refer row m) (h.narrow_lawful.refer-size row m e)

  padded_ahead : (ms row : List ℕ) → length row ≡ narrow.size → ahead broad ms (padded row) ≡ padded (ahead narrow ms row)
  padded_ahead [] row e = refl
  padded_ahead (m ∷ ms) row e =
      ap (λ (r : List ℕ). broad.refer r m) (padded_ahead ms row e) ∙ h.refer_same (ahead narrow ms row) m (ahead-size narrow h.narrow_lawful ms row e)

  pub run_row : (ms : List ℕ) → refer_all broad broad.first ms ≡ padded (refer_all narrow narrow.first ms)
  run_row ms = ap (λ (r : List ℕ). refer_all broad r ms) h.first_same ∙ padded_all ms narrow.first h.narrow_lawful.first-size

  pub next_row : (ms : List ℕ) → broad.next ms ≡ padded (narrow.next ms)
  next_row ms =
      h.broad_lawful.next-is ms ∙ ap (ahead broad ms) h.first_same ∙ padded_ahead ms narrow.first h.narrow_lawful.first-size
      ∙ ap padded (sym (h.narrow_lawful.next-is ms))

  -- ---- states: a row of the narrow cache behind a row of the broad one

  pub record Behind (P : List ℕ → Type 0) (row : List ℕ) : Type 0 where
    pub inner : List ℕ
    pub long : length inner ≡ narrow.size
    pub holds : P inner
    pub same : row ≡ padded inner

  behind-run : (P : List ℕ → Type 0) (ms row : List ℕ) → P (refer_all narrow narrow.first ms) → row ≡ refer_all broad broad.first ms → Behind P row
  behind-run P ms row p e = record {
    inner = refer_all narrow narrow.first ms;
    long = run-size narrow h.narrow_lawful ms (refer_all narrow narrow.first ms) refl;
    holds = p;
    same = e ∙ run_row ms;
  }

  behind-next : (P : List ℕ → Type 0) (ms row : List ℕ) → P (narrow.next ms) → row ≡ broad.next ms → Behind P row
  behind-next P ms row p e = record {
    inner = narrow.next ms;
    long = next-size narrow h.narrow_lawful ms (narrow.next ms) refl;
    holds = p;
    same = e ∙ next_row ms;
  }

  pub reaches-narrow : (t : Task) (b : ℕ) (row : List ℕ) → ReachesOn broad t b row → Behind (ReachesOn narrow t b) row
  reaches-narrow t b row (p, w, e) = behind-run (ReachesOn narrow t b) (references t (0 ∷ p)) row (p, w, refl) e

  pub lives-narrow : (t : Task) (b : ℕ) (row : List ℕ) → LivesOn broad t b row → Behind (LivesOn narrow t b) row
  lives-narrow t b row (p, w, e) = behind-next (LivesOn narrow t b) (references t p) row (p, w, refl) e

  reaches_broad : (t : Task) (b : ℕ) (row : List ℕ) → ReachesOn narrow t b row → ReachesOn broad t b (padded row)
  reaches_broad t b row (p, w, e) = (p, w, ap padded e ∙ sym (run_row (references t (0 ∷ p))))

  lives_broad : (t : Task) (b : ℕ) (row : List ℕ) → LivesOn narrow t b row → LivesOn broad t b (padded row)
  lives_broad t b row (p, w, e) = (p, w, ap padded e ∙ sym (next_row (references t p)))

  module _ (t : Task) (b : ℕ) where
    same : (all : List (List ℕ)) (P Q : List ℕ → Type 0) → Rising all → ((r : List ℕ) → (mem same_list r all ≡ true) ↔ P r) → ((r : List ℕ) → P r → length r ≡ narrow.size)
        → ((r : List ℕ) → P r → Q (padded r)) → ((r : List ℕ) → Q r → Behind P r)
        → (wider : List (List ℕ)) → Rising wider → ((r : List ℕ) → (mem same_list r wider ≡ true) ↔ Q r) → wider ≡ map (λ (r : List ℕ). r ++ rest) all
    same all P Q up is long to from wider wup wis =
        rising_unique wider (map (λ (r : List ℕ). r ++ rest) all) wup
        (rising-after narrow.size rest all (each_of (λ (r : List ℕ). length r ≡ narrow.size) all (λ r e. long r ((is r).0 e))) up) (λ r. (there r, back r))
      where
        there : (r : List ℕ) → mem same_list r wider ≡ true → mem same_list r (map (λ (r : List ℕ). r ++ rest) all) ≡ true
        there r e =
            let x = from r ((wis r).0 e) in
            rw x.same (mem-map same_list same_list_self same_list_true same_list same_list_self same_list_true (λ (r : List ℕ). r ++ rest) x.inner all ((is x.inner).1 x.holds))

        back : (r : List ℕ) → mem same_list r (map (λ (r : List ℕ). r ++ rest) all) ≡ true → mem same_list r wider ≡ true
        back r e =
            let (x, m, q) = mem_of_map same_list same_list_self same_list_true same_list same_list_self same_list_true (λ (r : List ℕ). r ++ rest) r all e in
            rw q ((wis (x ++ rest)).1 (to x ((is x).0 m)))

    pub reaching_wider : reaching_on broad t b ≡ map (λ (r : List ℕ). r ++ rest) (reaching_on narrow t b)
    reaching_wider =
        same (reaching_on narrow t b) (ReachesOn narrow t b) (ReachesOn broad t b) (any-reaching-rising narrow h.narrow_lawful t b) (any-reaching-rows narrow h.narrow_lawful t b)
        (reaches-size narrow h.narrow_lawful t b) (reaches_broad t b) (reaches-narrow t b) (reaching_on broad t b) (any-reaching-rising broad h.broad_lawful t b) (any-reaching-rows broad h.broad_lawful t b)

    pub living_wider : living_on broad t b ≡ map (λ (r : List ℕ). r ++ rest) (living_on narrow t b)
    living_wider =
        same (living_on narrow t b) (LivesOn narrow t b) (LivesOn broad t b) (any-living-rising narrow h.narrow_lawful t b) (any-living-rows narrow h.narrow_lawful t b)
        (lives-size narrow h.narrow_lawful t b) (lives_broad t b) (lives-narrow t b) (living_on broad t b) (any-living-rising broad h.broad_lawful t b) (any-living-rows broad h.broad_lawful t b)

    -- how many states a block has, and so check 11
    pub count-reaching_wider : length (reaching_on broad t b) ≡ length (reaching_on narrow t b)
    count-reaching_wider = ap length reaching_wider ∙ length-map (reaching_on narrow t b) (λ (r : List ℕ). r ++ rest)

    pub count-living_wider : length (living_on broad t b) ≡ length (living_on narrow t b)
    count-living_wider = ap length living_wider ∙ length-map (living_on narrow t b) (λ (r : List ℕ). r ++ rest)

  -- ---- numbers

  module _ (v v' : Count) (same_count : (r l f : List ℕ) → length r ≡ narrow.size → length l ≡ narrow.size → length f ≡ narrow.size → v' (padded r) (padded l) (padded f) ≡ v r l f)
      (i j : Task) where
    to_narrow : (x : RowsOn broad i j) → (y : RowsOn narrow i j) × (y.at ≡ x.at) × (y.done ≡ x.done) × (counted v' x ≡ counted v y)
    to_narrow x =
        let (before, to, er) = x.reaches in
        let (p, on, el) = x.lives in
        let r = behind-run (ReachesPointOn narrow i x.at x.done) (references i before ++ take x.done (block i x.at).references) x.reaching (before, to, refl) er in
        let l = behind-next (LivesPointOn narrow i x.at x.done) (drop x.done (block i x.at).references ++ references i p) x.live (p, on, refl) el in
        let f = reaches-narrow j (end j) x.ending x.ends in (
          record { at = x.at; done = x.done; reaching = r.inner; live = l.inner; ending = f.inner; reaches = r.holds; lives = l.holds; ends = f.holds },
          refl,
          refl,
          counts x.reaching x.live x.ending r.inner l.inner f.inner r.same l.same f.same r.long l.long f.long,
        )
      where
        counts : (r l f r' l' f' : List ℕ) → r ≡ padded r' → l ≡ padded l' → f ≡ padded f' → length r' ≡ narrow.size → length l' ≡ narrow.size → length f' ≡ narrow.size
            → v' r l f ≡ v r' l' f'
        counts r l f r' l' f' er el ef lr ll lf = rw (er, el, ef) (same_count r' l' f' lr ll lf)

    to_broad : (x : RowsOn narrow i j) → (y : RowsOn broad i j) × (y.at ≡ x.at) × (y.done ≡ x.done) × (counted v' y ≡ counted v x)
    to_broad x =
        let (before, to, er) = x.reaches in
        let (p, on, el) = x.lives in
        let (q, by, ef) = x.ends in
        let ms = references i before ++ take x.done (block i x.at).references in
        let ks = drop x.done (block i x.at).references ++ references i p in (
          record {
            at = x.at;
            done = x.done;
            reaching = padded x.reaching;
            live = padded x.live;
            ending = padded x.ending;
            reaches = (before, to, ap padded er ∙ sym (run_row ms));
            lives = (p, on, ap padded el ∙ sym (next_row ks));
            ends = reaches_broad j (end j) x.ending x.ends;
          },
          refl,
          refl,
          same_count x.reaching x.live x.ending (run-size narrow h.narrow_lawful ms x.reaching er) (next-size narrow h.narrow_lawful ks x.live el)
              (run-size narrow h.narrow_lawful (references j (0 ∷ q)) x.ending ef),
        )

    abbrev number : ℕ
    number = most_on v narrow i j (allowed i)

    broad_most : MostOn v' broad i j (Allows i) number
    broad_most = record {
      bound = λ x free. let (y, at, done, e) = to_narrow x in omega (arith, (any-allowed-most v narrow h.narrow_lawful i j).bound y (rw (at, done) free));
      attained = go (any-allowed-most v narrow h.narrow_lawful i j).attained;
    }
      where
        go : (number ≡ 0) ⊎ ((x : RowsOn narrow i j) × Allows i x.at x.done × (counted v x ≡ number))
            → (number ≡ 0) ⊎ ((y : RowsOn broad i j) × Allows i y.at y.done × (counted v' y ≡ number))
        go (inl z) = inl z
        go (inr (x, free, e)) = let (y, at, done, q) = to_broad x in inr (y, rw (at, done) free, q ∙ e)

    -- the pair number
    pub number_wider : most_on v' broad i j (allowed i) ≡ most_on v narrow i j (allowed i)
    number_wider = any-most_unique v' broad h.broad_lawful i j (Allows i) (most_on v' broad i j (allowed i)) number (any-allowed-most v' broad h.broad_lawful i j) broad_most

  -- ---- counts of runs

  events_wider : (es : List Event) (row : List ℕ) → length row ≡ narrow.size → disturbed_on broad (padded row) es ≡ disturbed_on narrow row es
  events_wider [] row e = refl
  events_wider (Ref m ∷ es) row e =
      ap₂ (λ (x y : ℕ). x + y) (ap (λ f. bit (not f)) (h.found_same row m e))
      (ap (λ (r : List ℕ). disturbed_on broad r es) (h.refer_same row m e) ∙ events_wider es (narrow.refer row m) (h.narrow_lawful.refer-size row m e))
  events_wider (Preempt fs ∷ es) row e =
      ap (λ (r : List ℕ). disturbed_on broad r es) (padded_all fs row e) ∙ events_wider es (refer_all narrow row fs) (all-size narrow h.narrow_lawful fs row e)

  lost_events_wider : (es : List Event) (d u : List ℕ) → length d ≡ narrow.size → length u ≡ narrow.size → lost_on broad (padded d) (padded u) es ≡ lost_on narrow d u es
  lost_events_wider [] d u ed eu = refl
  lost_events_wider (Ref m ∷ es) d u ed eu =
      ap₂ (λ (x y : ℕ). x + y) (ap₂ (λ f g. bit (f && not g)) (h.found_same u m eu) (h.found_same d m ed))
      (ap₂ (λ (x y : List ℕ). lost_on broad x y es) (h.refer_same d m ed) (h.refer_same u m eu)
      ∙ lost_events_wider es (narrow.refer d m) (narrow.refer u m) (h.narrow_lawful.refer-size d m ed) (h.narrow_lawful.refer-size u m eu))
  lost_events_wider (Preempt fs ∷ es) d u ed eu =
      ap (λ (r : List ℕ). lost_on broad r (padded u) es) (padded_all fs d ed) ∙ lost_events_wider es (refer_all narrow d fs) u (all-size narrow h.narrow_lawful fs d ed) eu

  -- the misses of references, U and D, and the lost hits, all from the empty cache
  pub misses_wider : (ms : List ℕ) → misses_on broad broad.first ms ≡ misses_on narrow narrow.first ms
  misses_wider ms =
      ap (λ (r : List ℕ). misses_on broad r ms) h.first_same
      ∙ omega (arith, refs_misses broad [] ms (padded narrow.first) [], refs_misses narrow [] ms narrow.first [], events_wider (refs ms []) narrow.first h.narrow_lawful.first-size)

  pub count_wider : (ts : List Task) (t : Task) (path : List ℕ) (xs : List Preemption) → count_at_end_on broad ts t path xs ≡ count_at_end_on narrow ts t path xs
  count_wider ts t path xs =
      any-count_events broad ts t path xs ∙ ap (λ (r : List ℕ). disturbed_on broad r (run_events ts xs (points t 0 path))) h.first_same
      ∙ events_wider (run_events ts xs (points t 0 path)) narrow.first h.narrow_lawful.first-size ∙ sym (any-count_events narrow ts t path xs)

  pub lost_wider : (es : List Event) → lost_on broad broad.first broad.first es ≡ lost_on narrow narrow.first narrow.first es
  lost_wider es =
      ap (λ (r : List ℕ). lost_on broad r r es) h.first_same
      ∙ lost_events_wider es narrow.first narrow.first h.narrow_lawful.first-size h.narrow_lawful.first-size
