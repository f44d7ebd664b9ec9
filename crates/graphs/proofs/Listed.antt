-- What the two graphs gather is what paths make: `reach_listed` and `live_listed`.
-- The idea: a step of a graph is a step of a path, forwards for reaching states and backwards for live ones.
use mathlib.Core.Path.{◌≡◌, refl, sym, ap, ◌∙◌}
use mathlib.Core.Bool.{true}
use mathlib.Core.List.{List, [], ◌∷◌, ◌++◌, map, append_assoc}
use Prim.Native.Nat.{ℕ, zero, suc, ◌+◌, ◌*◌, ◌-◌, ◌≤◌, ◌<◌}
use native.Mathlib.Nat.{not-suc-le-zero, zero-add, add-zero, add-suc, suc-add, mul-zero}
use native.Mathlib.Omega.{arith}
use lib.Dec.{eqb}
use lib.ListN.{length, get_or, drop, replicate}
use lib.Seq.{take_at, drop_at, drop-drop}
use Rattle.cache.specs.References.{nothing, Real, All}
use Rattle.cache.specs.Cache.{Cache, empty_row, with_references, first_references}
use Rattle.cache.specs.Firsts.{firsts_over}
use Rattle.cache.specs.Sets.{in_set}
use Rattle.cache.proofs.Masks.{bits_test}
use Rattle.cache.proofs.Rows.{with_references-append, firsts_over-append, length-empty_row, length-with_references, length-firsts_over, first_references_fold}
use Rattle.model.specs.Lists.{mem}
use Rattle.model.specs.Tasks.{Block, Task, block, end, PathFrom, stay, step, references, memory_blocks}
use Rattle.model.specs.States.{Reaches, Lives}
use Rattle.model.specs.Computed.{reaching, living}
use Rattle.model.proofs.Paths.{path-first, path-last, successor_below}
use Rattle.model.proofs.Narrower.{take_replicate}
use Rattle.model.proofs.Exact.{reaches_on, reaches-first}
use Rattle.model.proofs.Sorted.{reaching-rows, living-rows, reaching-rising, living-rising}
use Rattle.model.proofs.Policies.{reaches-long, lives-long}
use Rattle.body.specs.Jumps.{set_of, jump_sets}
use Rattle.body.proofs.JumpLaws.{jump_at}
use Rattle.gather.specs.Graph.{row_at, handed_on, Gets, begins, handed, Listed}
use Rattle.rows.specs.Rows.{flat}
use Rattle.rows.proofs.Parts.{after_first, row_within}
use Rattle.rows.proofs.Overlays.{overlay_empty, overlay-references, overlay-firsts}
use Rattle.graphs.specs.Graphs.{no_rows, last_rows, first_rows, predecessor_set, predecessor_sets, reach_graph, live_graph}

-- ---- the rows of the blocks

-- the row at b of rows of w numbers, one after the other
pub row_of : (w : ℕ) (f : Block → List ℕ) (t : Task) (rest : List ℕ) → ((x : Block) → length (f x) ≡ w) → (b : ℕ) → b < length t → row_at w (flat (map f t) ++ rest) b ≡ f (block t b)
row_of w f [] rest h b l = absurd (not-suc-le-zero l)
row_of w f (x ∷ t) rest h zero l = rw (mul-zero w, append_assoc) (take_at (f x) (flat (map f t) ++ rest) w (h x))
row_of w f (x ∷ t) rest h (suc b) l =
    rw (after_first w b, ← (drop-drop (w * b) w ((f x ++ flat (map f t)) ++ rest)), append_assoc, drop_at (f x) (flat (map f t) ++ rest) w (h x)) (row_of w f t rest h b (omega arith))

pub drop_replicate : (i c m : ℕ) → i ≤ c → drop i (replicate c m) ≡ replicate (c - i) m
drop_replicate zero c m h = let e : c ≡ c - 0 = omega arith in ap (λ k. replicate k m) e
drop_replicate (suc i) zero m h = absurd (omega arith)
drop_replicate (suc i) (suc c) m h = let e : c - i ≡ suc c - suc i = omega arith in drop_replicate i c m (omega arith) ∙ ap (λ k. replicate k m) e

none-at : (w c b : ℕ) → w * b + w ≤ c → row_at w (replicate c nothing) b ≡ replicate w nothing
none-at w c b h = rw (drop_replicate (w * b) c nothing (omega arith)) (take_replicate w (c - w * b) nothing (omega arith))

-- the row of nothings at one of 24 blocks
none_of : (w b : ℕ) → b < 24 → row_at w (no_rows w) b ≡ replicate w nothing
none_of w b h = none-at w (24 * w) b (omega (arith, row_within w b 24 h))

-- ---- the sets of the blocks

pub in_set_of : (l : List ℕ) (s : ℕ) → s < 24 → in_set (set_of l) s ≡ mem eqb s l
in_set_of l s h = bits_test 24 s (λ c. mem eqb c l) h

predecessor_set_lem : (t : Task) (left s b : ℕ) → b < left → get_or (predecessor_sets t left s) b 0 ≡ predecessor_set t (s + b)
predecessor_set_lem t zero s b l = absurd (not-suc-le-zero l)
predecessor_set_lem t (suc left) s zero l = ap (predecessor_set t) (sym (add-zero s))
predecessor_set_lem t (suc left) s (suc b) l = predecessor_set_lem t left (suc s) b (omega arith) ∙ ap (predecessor_set t) (suc-add s b ∙ sym (add-suc s b))

-- ---- references that are real

all_left : (P : ℕ → Type 0) (l r : List ℕ) → All P (l ++ r) → All P l
all_left P [] r a = tt
all_left P (x ∷ l) r a = (a.0, all_left P l r a.1)

all_right : (P : ℕ → Type 0) (l r : List ℕ) → All P (l ++ r) → All P r
all_right P [] r a = a
all_right P (x ∷ l) r a = all_right P l r a.1

pub block-real : (t : Task) → All Real (memory_blocks t) → (b : ℕ) → All Real (block t b).references
block-real [] h b = tt
block-real (x ∷ t) h zero = all_left Real x.references (memory_blocks t) h
block-real (x ∷ t) h (suc b) = block-real t (all_right Real x.references (memory_blocks t) h) b

-- ---- how long the rows of a block's references are

pub last-long : (k : Cache) (x : Block) → length (with_references k (empty_row k) x.references) ≡ k.width
last-long k x = length-with_references k x.references (empty_row k) (length-empty_row k)

pub first-long : (k : Cache) (x : Block) → length (first_references k x.references) ≡ k.width
first-long k x = ap length (first_references_fold k x.references) ∙ length-firsts_over k x.references (empty_row k) (length-empty_row k)

-- the row at b of the rows of the blocks
pub last-at : (k : Cache) (t : Task) (b : ℕ) → b < length t → row_at k.width (last_rows k t) b ≡ with_references k (empty_row k) (block t b).references
last-at k t b h =
    let f : Block → List ℕ = λ x. with_references k (empty_row k) x.references in
    row_of k.width f t (replicate (24 * k.width - length (flat (map f t))) nothing) (last-long k) b h

first-at : (k : Cache) (t : Task) (b : ℕ) → b < length t → row_at k.width (first_rows k t) b ≡ first_references k (block t b).references
first-at k t b h =
    let f : Block → List ℕ = λ x. first_references k x.references in
    row_of k.width f t (replicate (24 * k.width - length (flat (map f t))) nothing) (first-long k) b h

module _ (k : Cache) (t : Task) (few : length t ≤ 24) (some : 1 ≤ length t) (real : All Real (memory_blocks t))
    (inside : (b c : ℕ) → mem eqb c (block t b).successors ≡ true → c < length t) where
  abbrev last : ℕ → List ℕ
  last b = with_references k (empty_row k) (block t b).references

  -- what a row becomes along the graph of reaching states
  pub reach_hand : (b s : ℕ) (row : List ℕ) → b < 24 → s < length t → length row ≡ k.width → handed_on (reach_graph k t) b s row ≡ with_references k row (block t s).references
  reach_hand b s row hb hs e =
      rw (none_of k.width b hb, overlay_empty k row e, last-at k t s hs) (overlay-references k row (block t s).references e (block-real t real s))

  pub reach_leads : (b s : ℕ) → b < length t → s < length t → in_set (get_or (jump_sets t) b 0) s ≡ mem eqb s (block t b).successors
  reach_leads b s hb hs = ap (λ x. in_set x s) (jump_at t (replicate (24 - length t) 0) b hb) ∙ in_set_of (block t b).successors s (omega arith)

  gets_reaches : {b : ℕ} {row : List ℕ} → Gets (reach_graph k t) b row → Reaches k t b row
  gets_reaches begins = reaches-first k t some
  gets_reaches (handed {b} {s} {row} h l e) =
      let r = gets_reaches h in
      let hb = path-last t r.1 in
      rw (reach_hand b s row (omega arith) l (reaches-long k t b row r)) (reaches_on k t b s row r (sym (reach_leads b s hb l) ∙ e) l)

  path_gets : {b e : ℕ} {p : List ℕ} (row : List ℕ) → length row ≡ k.width → Gets (reach_graph k t) b row → PathFrom t b p e → Gets (reach_graph k t) e (with_references k row (references t p))
  path_gets row z h (stay l) = h
  path_gets {b} row z h (step {c = c} {p = p} m w) =
      let hb = successor_below t b c m in
      let hc = inside b c m in
      rw (with_references-append k row (block t c).references (references t p))
      (path_gets (with_references k row (block t c).references) (length-with_references k (block t c).references row z)
      (rw (reach_hand b c row (omega arith) hc z) at (handed h hc (reach_leads b c hb hc ∙ m))) w)

  reaches_gets : (b : ℕ) (row : List ℕ) → Reaches k t b row → Gets (reach_graph k t) b row
  reaches_gets b row (p, w, e) =
      rw (e, with_references-append k (empty_row k) (block t 0).references (references t p)) (path_gets (last 0) (last-long k (block t 0)) begins w)

  pub reach_listed : Listed (reach_graph k t) (reaching k t)
  reach_listed b = (reaching-rising k t b, λ row. (λ e. reaches_gets b row ((reaching-rows k t b row).0 e), λ h. (reaching-rows k t b row).1 (gets_reaches h)))

  -- ---- live states

  pub live_hand : (b s : ℕ) (row : List ℕ) → b < length t → s < 24 → length row ≡ k.width → handed_on (live_graph k t) b s row ≡ firsts_over k (block t b).references row
  live_hand b s row hb hs e =
      rw (none_of k.width s hs, first-at k t b hb, overlay-firsts k row (block t b).references e (block-real t real b))
      (overlay_empty k (firsts_over k (block t b).references row) (length-firsts_over k (block t b).references row e))

  pub live-leads : (b s : ℕ) → b < 24 → s < length t → in_set (get_or (predecessor_sets t 24 0) b 0) s ≡ mem eqb b (block t s).successors
  live-leads b s hb hs =
      ap (λ x. in_set x s) (predecessor_set_lem t 24 0 b hb ∙ ap (predecessor_set t) (zero-add b)) ∙ bits_test 24 s (λ c. mem eqb b (block t c).successors) (omega arith)

  lives_back : (b s : ℕ) (row : List ℕ) → Lives k t b row → mem eqb b (block t s).successors ≡ true → Lives k t s (firsts_over k (block t b).references row)
  lives_back b s row (p, w, e) m = (
    b ∷ p,
    step m w,
    ap (firsts_over k (block t b).references) (e ∙ first_references_fold k (references t p))
        ∙ sym (firsts_over-append k (block t b).references (references t p) (empty_row k)) ∙ sym (first_references_fold k (references t (b ∷ p))),
  )

  gets_lives : {b : ℕ} {row : List ℕ} → Gets (live_graph k t) b row → Lives k t b row
  gets_lives begins = ([], stay {b = end t} (omega arith), sym (first_references_fold k []))
  gets_lives (handed {b} {s} {row} h l e) =
      let r = gets_lives h in
      let hb = path-first t r.1 in
      rw (live_hand b s row hb (omega arith) (lives-long k t b row r)) (lives_back b s row r (sym (live-leads b s (omega arith) l) ∙ e))

  path-live : {b e : ℕ} {p : List ℕ} → e ≡ end t → PathFrom t b p e → Gets (live_graph k t) b (firsts_over k (references t p) (empty_row k))
  path-live q (stay l) = rw q begins
  path-live {b} q (step {c = c} {p = p} m w) =
      let hb = successor_below t b c m in
      let hc = inside b c m in
      rw (firsts_over-append k (block t c).references (references t p) (empty_row k))
      (rw (live_hand c b (firsts_over k (references t p) (empty_row k)) hc (omega arith) (length-firsts_over k (references t p) (empty_row k) (length-empty_row k))) at
      (handed (path-live q w) hb (live-leads c b (omega arith) hb ∙ m)))

  lives_gets : (b : ℕ) (row : List ℕ) → Lives k t b row → Gets (live_graph k t) b row
  lives_gets b row (p, w, e) = rw (e ∙ first_references_fold k (references t p)) (path-live refl w)

  pub live_listed : Listed (live_graph k t) (living k t)
  live_listed b = (living-rising k t b, λ row. (λ e. lives_gets b row ((living-rows k t b row).0 e), λ h. (living-rows k t b row).1 (gets_lives h)))
