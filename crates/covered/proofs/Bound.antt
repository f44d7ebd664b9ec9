-- How many rounds there are: every reaching state of a task of B blocks in a cache of w places is made by a path of at most B (w + 1) blocks,
-- and every live state by a way on of at most as many. So the rounds of Point 9 change nothing from the round B (w + 1) on.
-- The idea: a row keeps, for each place, the last block that wrote there; between two blocks that count, loops can be cut out (CoveredWalks).
use mathlib.Core.Path.{◌≡◌, refl, sym, ap, ◌∙◌}
use mathlib.Core.Logic.{inl, inr, ◌↔◌}
use mathlib.Core.Bool.{Bool, true, false, ◌&&◌, ◌||◌, true≢false, false≢true, cond}
use mathlib.Core.List.{List, [], ◌∷◌, ◌++◌, append-nil}
use Prim.Native.Nat.{ℕ, zero, suc, ◌+◌, ◌*◌, ◌≤◌, ◌<◌}
use native.Mathlib.Omega.{arith}
use lib.Dec.{eqb, ltb}
use lib.ListN.{length, length-append}
use lib.Seq.{ext_get_or}
use borrow.Author.Tests.{ltb-true, ltb-false, lt-ltb}
use Rattle.cache.specs.References.{nothing}
use Rattle.cache.specs.Cache.{Cache, one_line, held, empty_row, with_reference, with_references, first_reference, row_from, first_references}
use Rattle.cache.proofs.Rows.{length-empty_row, held-empty_row, length-with_reference, length-with_references, held-with_reference, with_references-append}
use Rattle.model.specs.Lists.{mem}
use Rattle.model.specs.Tasks.{Task, block, PathFrom, stay, step, references}
use Rattle.model.specs.States.{Reaches, Lives, ThirtyThree}
use Rattle.model.specs.Computed.{same_list, reach_next, reach_start, live_next, live_start, rows_at}
use Rattle.model.proofs.Membership.{or_cases, both_left, both_right}
use Rattle.model.proofs.Paths.{path-first, path-last, path_snoc, references_join, successor_below}
use Rattle.covered.specs.Covered.{Uncovered, ReachesBy, LivesBy, Exceeds}
use Rattle.covered.specs.Rounds.{state_within, kept_after}
use Rattle.covered.proofs.States.{reaching_round_lem, live_round_lem}
use Rattle.covered.proofs.Many.{map_33}
use Rattle.covered.proofs.Walks.{Walk, ends, goes, value, short_walk}

both : (a b : Bool) → a ≡ true → b ≡ true → (a && b) ≡ true
both a b e f = rw (e, f)

module _ (k : Cache) where
  -- one of the references goes to the place c
  touches : List ℕ → ℕ → Bool
  touches [] c = false
  touches (m ∷ ms) c = eqb (k.place m) c || touches ms c

  -- ---- first references

  first-append : (a b : List ℕ) (c : ℕ) → first_reference k (a ++ b) c ≡ cond (touches a c) (first_reference k a c) (first_reference k b c)
  unfolding touches
  first-append [] b c = refl
  first-append (m ∷ a) b c = go (eqb (k.place m) c) (first-append a b c)
    where
      go : (s : Bool) → first_reference k (a ++ b) c ≡ cond (touches a c) (first_reference k a c) (first_reference k b c)
          → cond s m (first_reference k (a ++ b) c) ≡ cond (s || touches a c) (cond s m (first_reference k a c)) (first_reference k b c)
      go true ih = refl
      go false ih = ih

  row_from_same : (w c : ℕ) (f g : ℕ → ℕ) → ((i : ℕ) → i < c + w → f i ≡ g i) → row_from c w f ≡ row_from c w g
  row_from_same zero c f g h = refl
  row_from_same (suc w) c f g h = rw (h c (omega arith), row_from_same w (suc c) f g (λ i l. h i (omega arith)))

  -- ---- last references

  untouched : (ms row : List ℕ) (c : ℕ) → length row ≡ k.width → c < k.width → touches ms c ≡ false → held (with_references k row ms) c ≡ held row c
  unfolding touches
  untouched [] row c e l t = refl
  untouched (m ∷ ms) row c e l t = go (eqb (k.place m) c) refl (untouched ms (with_reference k row m) c (length-with_reference k row m e) l)
    where
      go : (s : Bool) → eqb (k.place m) c ≡ s → (touches ms c ≡ false → held (with_references k (with_reference k row m) ms) c ≡ held (with_reference k row m) c)
          → held (with_references k (with_reference k row m) ms) c ≡ held row c
      go true q ih = absurd (true≢false (rw q at t))
      go false q ih = ih (rw q at t) ∙ held-with_reference k row m c e l ∙ rw q

  gets : (row : List ℕ) (m c : ℕ) → length row ≡ k.width → c < k.width → eqb (k.place m) c ≡ true → held (with_reference k row m) c ≡ m
  gets row m c e l q = held-with_reference k row m c e l ∙ rw q

  touched : (ms r s : List ℕ) (c : ℕ) → length r ≡ k.width → length s ≡ k.width → c < k.width → touches ms c ≡ true
      → held (with_references k r ms) c ≡ held (with_references k s ms) c
  unfolding touches
  touched [] r s c e d l t = absurd (false≢true t)
  touched (m ∷ ms) r s c e d l t =
      go (touches ms c) refl (touched ms (with_reference k r m) (with_reference k s m) c (length-with_reference k r m e) (length-with_reference k s m d) l)
    where
      here : touches ms c ≡ false → eqb (k.place m) c ≡ true
      here q = elim (or_cases (eqb (k.place m) c) (touches ms c) t) [ inl p ↦ p | inr p ↦ absurd (true≢false (sym p ∙ q)) ]

      go : (b : Bool) → touches ms c ≡ b
          → (touches ms c ≡ true → held (with_references k (with_reference k r m) ms) c ≡ held (with_references k (with_reference k s m) ms) c)
          → held (with_references k (with_reference k r m) ms) c ≡ held (with_references k (with_reference k s m) ms) c
      go true q ih = ih q
      go false q ih =
          untouched ms (with_reference k r m) c (length-with_reference k r m e) l q ∙ gets r m c e l (here q)
          ∙ sym (untouched ms (with_reference k s m) c (length-with_reference k s m d) l q ∙ gets s m c d l (here q))

  -- what a list of references leaves in a place
  abbrev last_of : List ℕ → ℕ → ℕ
  last_of ms c = held (with_references k (empty_row k) ms) c

  held_over : (ms row : List ℕ) (c : ℕ) → length row ≡ k.width → c < k.width → held (with_references k row ms) c ≡ cond (touches ms c) (last_of ms c) (held row c)
  held_over ms row c e l = go (touches ms c) refl
    where
      go : (b : Bool) → touches ms c ≡ b → held (with_references k row ms) c ≡ cond (touches ms c) (last_of ms c) (held row c)
      go true q = rw q (touched ms row (empty_row k) c e (length-empty_row k) l q)
      go false q = rw q (untouched ms row c e l q)

  module _ (t : Task) where
    abbrev B : ℕ
    B = length t

    abbrev touch : ℕ → ℕ → Bool
    touch x c = touches (block t x).references c

    -- ---- live states: ways on

    abbrev on : ℕ → ℕ → Bool
    on b c = mem eqb c (block t b).successors && ltb c B

    on_inside : (b c : ℕ) → on b c ≡ true → c < B
    on_inside b c e = ltb-true c B (both_right (mem eqb c (block t b).successors) (ltb c B) e)

    abbrev first_in : ℕ → ℕ → ℕ
    first_in x c = first_reference k (block t x).references c

    abbrev value_on : List ℕ → ℕ → ℕ
    value_on p c = value on B on_inside k.width touch first_in p c

    value_first : (p : List ℕ) (c : ℕ) → first_reference k (references t p) c ≡ value_on p c
    value_first [] c = refl
    value_first (x ∷ p) c = first-append (block t x).references (references t p) c ∙ ap (cond (touch x c) (first_in x c)) (value_first p c)

    path_walk : {b e : ℕ} {p : List ℕ} → PathFrom t b p e → Walk on b p e
    path_walk (stay l) = ends
    path_walk (step {b} {c} m w) = goes (both (mem eqb c (block t b).successors) (ltb c B) m (lt-ltb c B (path-first t w))) (path_walk w)

    walk_path : {b e : ℕ} {p : List ℕ} → b < B → Walk on b p e → PathFrom t b p e
    walk_path l ends = stay l
    walk_path l (goes {b} {c} m w) = step (both_left (mem eqb c (block t b).successors) (ltb c B) m) (walk_path (on_inside b c m) w)

    -- every live state is made by a way on of fewer than B (w + 1) blocks
    pub live-short : (b : ℕ) (row : List ℕ) → Lives k t b row → LivesBy k t (B * suc k.width) b row
    live-short b row (p, w, e) =
        let (r, v, s, h) = short_walk on B on_inside k.width touch first_in (path-first t w) (path_walk w) in
        (r, walk_path (path-first t w) v, omega arith, e ∙ sym (same r p h))
      where
        same : (r p : List ℕ) → ((c : ℕ) → c < k.width → value_on r c ≡ value_on p c) → first_references k (references t r) ≡ first_references k (references t p)
        same r p h = row_from_same k.width 0 (first_reference k (references t r)) (first_reference k (references t p))
            (λ c l. value_first r c ∙ h c (omega arith) ∙ sym (value_first p c))

    -- ---- reaching states: paths, from their last block back to the first

    abbrev back : ℕ → ℕ → Bool
    back c b = mem eqb c (block t b).successors && ltb b B

    back_inside : (c b : ℕ) → back c b ≡ true → b < B
    back_inside c b e = ltb-true b B (both_right (mem eqb c (block t b).successors) (ltb b B) e)

    abbrev last_in : ℕ → ℕ → ℕ
    last_in x c = last_of (block t x).references c

    abbrev value_back : List ℕ → ℕ → ℕ
    value_back p c = value back B back_inside k.width touch last_in p c

    -- the row after a block is the value of the walk back from it
    abbrev Shows : List ℕ → List ℕ → Type 0
    Shows row p = (c : ℕ) → c < k.width → held row c ≡ value_back p c

    shows_on : (b : ℕ) (row p : List ℕ) → length row ≡ k.width → Shows row p → Shows (with_references k row (block t b).references) (b ∷ p)
    shows_on b row p e h c l = held_over (block t b).references row c e l ∙ ap (cond (touch b c) (last_in b c)) (h c l)

    path_back : {a e : ℕ} {p : List ℕ} → PathFrom t a p e → (row q : List ℕ) → Walk back a q 0 → length row ≡ k.width → Shows row (a ∷ q)
        → (r : List ℕ) × Walk back e r 0 × Shows (with_references k row (references t p)) (e ∷ r)
    path_back (stay l) row q w e h = (q, w, h)
    path_back (step {b = a} {c = c} {p = p} m v) row q w e h =
        rw (with_references-append k row (block t c).references (references t p))
        (path_back v (with_references k row (block t c).references) (a ∷ q)
        (goes (both (mem eqb c (block t a).successors) (ltb a B) m (lt-ltb a B (successor_below t a c m))) w)
        (length-with_references k (block t c).references row e) (shows_on c row (a ∷ q) e h))

    empty_shows : Shows (empty_row k) []
    empty_shows c l = held-empty_row k c l

    row_snoc : (p : List ℕ) (s : ℕ) → with_references k (empty_row k) (references t (0 ∷ (p ++ (s ∷ []))))
        ≡ with_references k (with_references k (empty_row k) (references t (0 ∷ p))) (block t s).references
    row_snoc p s = rw (references_join t (0 ∷ p) (s ∷ []), append-nil, with_references-append k (empty_row k) (references t (0 ∷ p)) (block t s).references)

    record Forth (e : ℕ) (q : List ℕ) : Type 0 where
      path : List ℕ
      leads : PathFrom t 0 path e
      long : length path ≡ length q
      shows : Shows (with_references k (empty_row k) (references t (0 ∷ path))) (e ∷ q)

    walk_forth : {e z : ℕ} {q : List ℕ} → z ≡ 0 → e < B → Walk back e q z → Forth e q
    walk_forth {e} z l ends = at_entry e z l
      where
        at_entry : (e : ℕ) → e ≡ 0 → e < B → Forth e []
        at_entry e z l = rw z (record {
          path = [];
          leads = stay (rw z at l);
          long = refl;
          shows = rw append-nil (shows_on 0 (empty_row k) [] (length-empty_row k) empty_shows);
        })
    walk_forth z l (goes {b = e} {c = a} {p = q} m w) = longer e a q l m (walk_forth z (back_inside e a m) w)
      where
        longer : (e a : ℕ) (q : List ℕ) → e < B → back e a ≡ true → Forth a q → Forth e (a ∷ q)
        longer e a q l m h = record {
          path = h.path ++ (e ∷ []);
          leads = path_snoc t e h.leads (both_left (mem eqb e (block t a).successors) (ltb a B) m) l;
          long = omega (arith, length-append h.path (e ∷ []), h.long);
          shows = rw (row_snoc h.path e)
              (shows_on e (with_references k (empty_row k) (references t (0 ∷ h.path))) (a ∷ q) (length-with_references k (references t (0 ∷ h.path)) (empty_row k) (length-empty_row k)) h.shows);
        }

    same_row : (r s : List ℕ) → length r ≡ k.width → length s ≡ k.width → ((c : ℕ) → c < k.width → held r c ≡ held s c) → r ≡ s
    same_row r s e d h = ext_get_or nothing r s (e ∙ sym d) (λ c l. h c (rw e at l))

    -- every reaching state is made by a path of at most B (w + 1) blocks
    pub reach_short : (b : ℕ) (row : List ℕ) → Reaches k t b row → ReachesBy k t (B * suc k.width) b row
    reach_short b row (p, w, e) =
        let (q, v, h) = path_back w (with_references k (empty_row k) (block t 0).references) [] ends (length-with_references k (block t 0).references (empty_row k) (length-empty_row k))
        (shows_on 0 (empty_row k) [] (length-empty_row k) empty_shows) in
        let (r, u, s, g) = short_walk back B back_inside k.width touch last_in (path-last t w) v in
        let f = walk_forth refl (path-last t w) u in (
          f.path,
          f.leads,
          omega (arith, f.long, s),
          same_row row (with_references k (empty_row k) (references t (0 ∷ f.path))) (rw e (all-long (0 ∷ p))) (all-long (0 ∷ f.path))
              (λ c l. rw (e, with_references-append k (empty_row k) (block t 0).references (references t p)) (h c l ∙ ap (cond (touch b c) (last_in b c)) (sym (g c l)) ∙ sym (f.shows c l))),
        )
      where
        all-long : (q : List ℕ) → length (with_references k (empty_row k) (references t q)) ≡ k.width
        all-long q = length-with_references k (references t q) (empty_row k) (length-empty_row k)

    -- ---- the rounds

    abbrev pub last_one : ℕ
    last_one = B * suc k.width

    pub uncovered_map : (P Q : List ℕ → Type 0) → ((r : List ℕ) → P r → Q r) → ((r : List ℕ) → Q r → P r) → (r : List ℕ) → Uncovered P r → Uncovered Q r
    uncovered_map P Q to from r u = (to r u.0, λ s q c. u.1 s (from s q) c)

    pub reaches-any : (m b : ℕ) (row : List ℕ) → ReachesBy k t m b row → Reaches k t b row
    reaches-any m b row (p, w, l, e) = (p, w, e)

    pub lives-any : (m b : ℕ) (row : List ℕ) → LivesBy k t m b row → Lives k t b row
    lives-any m b row (p, w, l, e) = (p, w, e)

    pub reaches-by : (m b : ℕ) → last_one ≤ m → (row : List ℕ) → Reaches k t b row → ReachesBy k t m b row
    reaches-by m b h row r = let (p, w, l, e) = reach_short b row r in (p, w, omega arith, e)

    pub lives_by : (m b : ℕ) → last_one ≤ m → (row : List ℕ) → Lives k t b row → LivesBy k t m b row
    lives_by m b h row r = let (p, w, l, e) = live-short b row r in (p, w, omega arith, e)

    -- from this round on each block has exactly the uncovered ones of all its states
    pub reaching-rounds : (m : ℕ) → last_one ≤ suc m → (b : ℕ) (row : List ℕ)
        → (mem same_list row (rows_at b (kept_after state_within (reach_next (one_line k) t) (reach_start (one_line k) t) m)) ≡ true) ↔ Uncovered (Reaches k t b) row
    reaching-rounds m h b row = (
      λ i. uncovered_map (ReachesBy k t (suc m) b) (Reaches k t b) (reaches-any (suc m) b) (reaches-by (suc m) b h) row ((reaching_round_lem k t m b row).0 i),
      λ u. (reaching_round_lem k t m b row).1 (uncovered_map (Reaches k t b) (ReachesBy k t (suc m) b) (reaches-by (suc m) b h) (reaches-any (suc m) b) row u),
    )

    pub live-rounds : (m : ℕ) → last_one ≤ m → (b : ℕ) (row : List ℕ)
        → (mem same_list row (rows_at b (kept_after state_within (live_next (one_line k) t) (live_start (one_line k) t) m)) ≡ true) ↔ Uncovered (Lives k t b) row
    live-rounds m h b row = (
      λ i. uncovered_map (LivesBy k t m b) (Lives k t b) (lives-any m b) (lives_by m b h) row ((live_round_lem k t m b row).0 i),
      λ u. (live_round_lem k t m b row).1 (uncovered_map (Lives k t b) (LivesBy k t m b) (lives_by m b h) (lives-any m b) row u),
    )

    -- and 11 is decided by then: where it is given for some k, it is given for one that is not above lastOne
    abbrev Early : (ℕ → ℕ → List ℕ → Type 0) → Type 0
    Early Q = (m : ℕ) × (b : ℕ) × (b < length t) × (m ≤ last_one) × ThirtyThree (Uncovered (Q m b))

    early : (Q : ℕ → ℕ → List ℕ → Type 0) (R : ℕ → List ℕ → Type 0) → ((m b : ℕ) (row : List ℕ) → Q m b row → R b row)
        → ((m b : ℕ) → last_one ≤ m → (row : List ℕ) → R b row → Q m b row) → Exceeds t Q → Early Q
    early Q R any by (m, b, h, x) = go (ltb last_one m) refl
      where
        go : (s : Bool) → ltb last_one m ≡ s → Early Q
        go false q = (m, b, h, ltb-false last_one m q, x)
        go true q =
            let l = ltb-true last_one m q in (
              last_one,
              b,
              h,
              omega arith,
              map_33 (Uncovered (Q m b)) (Uncovered (Q last_one b))
                  (λ row u. uncovered_map (Q m b) (Q last_one b) (λ r z. by last_one b (omega arith) r (any m b r z)) (λ r z. by m b (omega arith) r (any last_one b r z)) row u) x,
            )

    pub reaching_early : Exceeds t (ReachesBy k t) → Early (ReachesBy k t)
    reaching_early = early (ReachesBy k t) (Reaches k t) reaches-any reaches-by

    pub live_early : Exceeds t (LivesBy k t) → Early (LivesBy k t)
    live_early = early (LivesBy k t) (Lives k t) lives-any lives_by
