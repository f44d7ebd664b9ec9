-- The trails of a task's rows are paths: `reach_trails` and `live_trails`.
-- The idea: a step of a trail is a step of a path, forwards for reaching states and backwards for live ones.
use mathlib.Core.Path.{◌≡◌, refl, sym, ap, subst, ◌∙◌}
use mathlib.Core.Bool.{Bool, true}
use mathlib.Core.List.{List, [], ◌∷◌, ◌++◌, append-nil}
use Prim.Native.Nat.{ℕ, zero, suc, ◌+◌, ◌*◌, ◌/◌, ◌<◌}
use native.Mathlib.Omega.{arith}
use lib.ListN.{length, get_or, take, drop}
use Rattle.cache.specs.References.{Real, All}
use Rattle.cache.specs.Cache.{Cache, empty_row, with_references, first_references}
use Rattle.cache.specs.Firsts.{firsts_over}
use Rattle.cache.specs.Sets.{in_set}
use Rattle.cache.proofs.Rows.{with_references-append, firsts_over-append, length-empty_row, length-with_references, length-firsts_over, first_references_fold}
use Rattle.model.specs.Tasks.{Task, block, end, stay, step, references, memory_blocks}
use Rattle.model.proofs.Paths.{path-first, path-last, path_snoc, references_join}
use Rattle.body.specs.Layout.{InBounds}
use Rattle.body.specs.Jumps.{jump_sets}
use Rattle.body.proofs.Decoded.{blocks-real}
use Rattle.body.proofs.JumpLaws.{jumps-inside}
use Rattle.rows.specs.Rows.{kind_length}
use Rattle.gather.specs.Graph.{handed_on}
use Rattle.gather.specs.Gathered.{graph_of}
use Rattle.graphs.specs.Graphs.{first_rows, last_rows, predecessor_sets, reach_graph, live_graph, reach_of, live_of}
use Rattle.graphs.proofs.Listed.{reach_hand, reach_leads, live_hand, live-leads}
use Rattle.graphs.proofs.Gathered.{reach_same, live_same, area_rows}
use Rattle.trails.specs.Trails.{held_row, parent_at, length_at, way_back, way_to, Came, began, handed, Trailed, GatheredTrails}
use Rattle.task_trails.specs.TaskTrails.{PathTo, PathOn, ReachTrails, LiveTrails, AreaTrails, BothTrails}
use Rattle.trails.proofs.TrailLaws.{trail_few}

module _ (k : Cache) (t : Task) (bounds : InBounds t) (rows counts trails : List ℕ) where
  real : All Real (memory_blocks t)
  real = blocks-real (length t) t bounds.each

  -- ---- reaching states

  module _ (trailed : Trailed (reach_graph k t) rows counts trails) where
    -- the block of a place
    here : (b j : ℕ) → b < 24 → j < get_or counts b 0 → (32 * b + j) / 32 ≡ b
    here b j h l = omega (arith, trailed.memory.few b h)

    first_to : (n b j : ℕ) → n ≡ 0 → b ≡ 0 → (32 * b + j) / 32 ≡ b → held_row k.width rows counts b j ≡ with_references k (empty_row k) (block t 0).references
        → PathTo k t b (held_row k.width rows counts b j) (way_to (suc n) trails (32 * b + j))
    first_to n b j z e q r = record {
      path = [];
      is = rw (z, q, e);
      leads = rw e (stay {b = 0} bounds.some);
      leaves = r ∙ ap (with_references k (empty_row k)) (sym (append-nil (block t 0).references));
    }

    next_to : (n a i b j : ℕ) → a < 24 → b < length t → (32 * b + j) / 32 ≡ b → parent_at trails (32 * b + j) ≡ 32 * a + i
        → in_set (get_or (jump_sets t) a 0) b ≡ true → held_row k.width rows counts b j ≡ handed_on (reach_graph k t) a b (held_row k.width rows counts a i)
        → PathTo k t a (held_row k.width rows counts a i) (way_to n trails (32 * a + i))
        → PathTo k t b (held_row k.width rows counts b j) (way_to (suc n) trails (32 * b + j))
    next_to n a i b j ha hb q p m r x =
        let old = with_references k (empty_row k) (references t (0 ∷ x.path)) in
        let long : length old ≡ k.width = length-with_references k (references t (0 ∷ x.path)) (empty_row k) (length-empty_row k) in
        let inside = jumps-inside t bounds in
        record {
          path = x.path ++ (b ∷ []);
          is = rw (q, p, x.is);
          leads = path_snoc t b x.leads (sym (reach_leads k t bounds.few bounds.some real inside a b (path-last t x.leads) hb) ∙ m) hb;
          leaves = r ∙ ap (handed_on (reach_graph k t) a b) x.leaves ∙ reach_hand k t bounds.few bounds.some real inside a b old ha hb long
              ∙ sym (with_references-append k (empty_row k) (references t (0 ∷ x.path)) (block t b).references)
              ∙ ap (with_references k (empty_row k)) (sym (references_join t (0 ∷ x.path) (b ∷ []) ∙ ap (λ (l : List ℕ). references t (0 ∷ x.path) ++ l) (append-nil (block t b).references)));
        }

    trail_to : (n b j : ℕ) → b < 24 → j < get_or counts b 0 → length_at trails (32 * b + j) ≡ n → PathTo k t b (held_row k.width rows counts b j) (way_to n trails (32 * b + j))
    trail_to zero b j h l e = elim (trailed.came b j h l) [ began f r n ↦ absurd (omega arith) | handed a i ha hi hb m r p n ↦ absurd (omega arith) ]
    trail_to (suc n) b j h l e = go (trailed.came b j h l) (λ a i. trail_to n a i)
      where
        go : Came (reach_graph k t) rows counts trails b j
            → ((a i : ℕ) → a < 24 → i < get_or counts a 0 → length_at trails (32 * a + i) ≡ n → PathTo k t a (held_row k.width rows counts a i) (way_to n trails (32 * a + i)))
            → PathTo k t b (held_row k.width rows counts b j) (way_to (suc n) trails (32 * b + j))
        go (began f r q) ih = first_to n b j (omega arith) f (here b j h l) r
        go (handed a i ha hi hb m r p q) ih = next_to n a i b j ha hb (here b j h l) p m r (ih a i ha hi (omega arith))

    pub reach_trails : ReachTrails k t rows counts trails
    reach_trails = record {
      memory = trailed.memory;
      places = trailed.places;
      each = λ b j h l. trail_to (length_at trails (32 * b + j)) b j h l refl;
      few = trail_few (reach_graph k t) rows counts trails trailed;
    }

  -- ---- live states

  module _ (trailed : Trailed (live_graph k t) rows counts trails) where
    place_of : (b j : ℕ) → b < 24 → j < get_or counts b 0 → (32 * b + j) / 32 ≡ b
    place_of b j h l = omega (arith, trailed.memory.few b h)

    last_on : (n b j : ℕ) → n ≡ 0 → b ≡ end t → (32 * b + j) / 32 ≡ b → held_row k.width rows counts b j ≡ empty_row k
        → PathOn k t b (held_row k.width rows counts b j) (way_back (suc n) trails (32 * b + j))
    last_on n b j z e q r = record {
      path = [];
      is = rw (z, q);
      leads = rw e (stay {b = end t} (omega (arith, bounds.some)));
      refers = r ∙ sym (first_references_fold k []);
    }

    next_on : (n a i b j : ℕ) → a < 24 → b < length t → (32 * b + j) / 32 ≡ b → parent_at trails (32 * b + j) ≡ 32 * a + i
        → in_set (get_or (predecessor_sets t 24 0) a 0) b ≡ true → held_row k.width rows counts b j ≡ handed_on (live_graph k t) a b (held_row k.width rows counts a i)
        → PathOn k t a (held_row k.width rows counts a i) (way_back n trails (32 * a + i))
        → PathOn k t b (held_row k.width rows counts b j) (way_back (suc n) trails (32 * b + j))
    next_on n a i b j ha hb q p m r x =
        let old = first_references k (references t x.path) in
        let fold = first_references_fold k (references t x.path) in
        let long : length old ≡ k.width = ap length fold ∙ length-firsts_over k (references t x.path) (empty_row k) (length-empty_row k) in
        let inside = jumps-inside t bounds in
        record {
          path = a ∷ x.path;
          is = rw (q, p, x.is);
          leads = step (sym (live-leads k t bounds.few bounds.some real inside a b ha hb) ∙ m) x.leads;
          refers = r ∙ ap (handed_on (live_graph k t) a b) x.refers
              ∙ live_hand k t bounds.few bounds.some real inside a b old (path-first t x.leads) (omega (arith, bounds.few)) long
              ∙ ap (firsts_over k (block t a).references) fold ∙ sym (firsts_over-append k (block t a).references (references t x.path) (empty_row k))
              ∙ sym (first_references_fold k (references t (a ∷ x.path)));
        }

    trail_on : (n b j : ℕ) → b < 24 → j < get_or counts b 0 → length_at trails (32 * b + j) ≡ n → PathOn k t b (held_row k.width rows counts b j) (way_back n trails (32 * b + j))
    trail_on zero b j h l e = elim (trailed.came b j h l) [ began f r n ↦ absurd (omega arith) | handed a i ha hi hb m r p n ↦ absurd (omega arith) ]
    trail_on (suc n) b j h l e = go (trailed.came b j h l) (λ a i. trail_on n a i)
      where
        go : Came (live_graph k t) rows counts trails b j
            → ((a i : ℕ) → a < 24 → i < get_or counts a 0 → length_at trails (32 * a + i) ≡ n → PathOn k t a (held_row k.width rows counts a i) (way_back n trails (32 * a + i)))
            → PathOn k t b (held_row k.width rows counts b j) (way_back (suc n) trails (32 * b + j))
        go (began f r q) ih = last_on n b j (omega arith) f (place_of b j h l) r
        go (handed a i ha hi hb m r p q) ih = next_on n a i b j ha hb (place_of b j h l) p m r (ih a i ha hi (omega arith))

    pub live_trails : LiveTrails k t rows counts trails
    live_trails = record {
      memory = trailed.memory;
      places = trailed.places;
      each = λ b j h l. trail_on (length_at trails (32 * b + j)) b j h l refl;
      few = trail_few (live_graph k t) rows counts trails trailed;
    }

-- ---- the graphs in the code's words

-- equal widths, sets, rows and first rows make the same graph
pub same_trails : {w w' blocks first : ℕ} {sets sets' leaving leaving' entering entering' row row' rows counts trails : List ℕ} {full : Bool}
    → w ≡ w' → sets ≡ sets' → leaving ≡ leaving' → entering ≡ entering' → row ≡ row'
    → GatheredTrails (graph_of w blocks sets leaving entering first row) rows counts trails full → GatheredTrails (graph_of w' blocks sets' leaving' entering' first row') rows counts trails full
same_trails {blocks = blocks} {first = first} {rows = rows} {counts = counts} {trails = trails} {full = full} ew es el ee er =
    subst (λ g. GatheredTrails g rows counts trails full) (λ i. record { width = ew i; blocks = blocks; sets = es i; leaving = el i; entering = ee i; first = first; row = er i })

pub area_trails : (k : Cache) (t : Task) (bounds : InBounds t) {blocks : ℕ} {sets first last area reached lived to on : List ℕ} {full : Bool} → blocks ≡ length t → sets ≡ jump_sets t
    → first ≡ first_rows k t → last ≡ last_rows k t → BothTrails (reach_of k.width blocks sets last) (live_of k.width blocks sets first) area reached lived to on full
    → AreaTrails k t area reached lived to on full
area_trails k t bounds {area = area} {reached = reached} {lived = lived} {to = to} {on = on} eb es ef el h = record {
  rows = area_rows k t bounds eb es ef el h.gathered;
  to_long = h.to_long;
  on_long = h.on_long;
  reaching = λ q. reach_trails k t bounds (take (kind_length k.width) area) reached to
      (subst (λ g. Trailed g (take (kind_length k.width) area) reached to) (reach_same k t bounds eb es el) (h.reaching q));
  live = λ q. live_trails k t bounds (take (kind_length k.width) (drop (kind_length k.width) area)) lived on
      (subst (λ g. Trailed g (take (kind_length k.width) (drop (kind_length k.width) area)) lived on) (live_same k t bounds eb es ef) (h.live q));
}
