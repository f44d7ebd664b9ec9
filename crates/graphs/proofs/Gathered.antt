-- What gathering along the graphs of a task leaves in memory are its reaching and its live states, and both together its rows.
-- The idea: the code's numbers make the two graphs, and these gather what paths make.
use mathlib.Core.Path.{◌≡◌, refl, sym, ap, subst, ◌∙◌}
use mathlib.Core.Bool.{Bool, true, false, true≢false, ◌||◌}
use mathlib.Core.List.{List, ◌++◌}
use Prim.Native.Nat.{ℕ, ◌+◌, ◌*◌, ◌-◌, ◌≤◌, ◌<◌}
use native.Mathlib.Nat.{sub-zero, mul-zero}
use native.Mathlib.Omega.{arith}
use lib.ListN.{length, replicate, take, drop, length-replicate, length-append, length-drop}
use lib.Seq.{take_at, length-take-le}
use borrow.Rule.Slice.PartMut.{put_mid}
use Rattle.cache.specs.References.{nothing, Real, All}
use Rattle.cache.specs.Cache.{Cache}
use Rattle.model.specs.Tasks.{Task, memory_blocks}
use Rattle.model.specs.Computed.{sorted, reaching, living}
use Rattle.body.specs.Decode.{decode, task_of}
use Rattle.body.specs.Walk.{kept_of, blocks_of, starts_of}
use Rattle.body.specs.Layout.{InBounds}
use Rattle.body.specs.Jumps.{jump_sets}
use Rattle.body.specs.Turned.{turned}
use Rattle.body.proofs.JumpLaws.{walked_task}
use Rattle.body.proofs.Decoded.{blocks-real}
use Rattle.body.proofs.JumpLaws.{jumps-inside}
use Rattle.model.proofs.Narrower.{take_replicate}
use Rattle.rows.specs.Rows.{Width, kind_length, area_length}
use Rattle.rows.proofs.Parts.{replaced_length, replaced_here, replaced_before, lent_back}
use Rattle.gather.specs.Graph.{Graph, Listed, row_at, too_many}
use Rattle.gather.specs.Memory.{held_rows}
use Rattle.gather.specs.Gathered.{GatherInput, GatheredRows, GatheredAs, graph_of, graph_meant, GraphInput}
use Rattle.gather.specs.declared.gather.BlockGraph.{BlockGraph}
use Rattle.graphs.specs.Graphs.{first_rows, last_rows, no_rows, reach_graph, live_graph, reach_of, live_of, live_along}
use Rattle.graphs.specs.TaskRows.{KindRows, TaskRows, AreaRows, BothGathered}
use Rattle.graphs.proofs.Listed.{last-at, reach_listed, live_listed}
use Rattle.graphs.proofs.Turning.{turned_predecessors}

-- ---- rooms, in the code's words

-- the first numbers of a room of nothings
pub nothings : (n m : ℕ) → n ≤ m → take (n - 0) (drop 0 (replicate m 65535)) ≡ replicate n nothing
unfolding nothing
nothings n m h = rw (sub-zero n) (take_replicate n m nothing h)

-- the row at the first block
pub first-row : (w : ℕ) (l : List ℕ) → take (w - 0) (drop 0 l) ≡ row_at w l 0
first-row w l = rw (sub-zero w, mul-zero w)

pub first-wide : (w : ℕ) (l : List ℕ) → w ≤ length l → length (take (w - 0) (drop 0 l)) ≡ w
first-wide w l h = rw (sub-zero w) (length-take-le w l h)

-- ---- the task of a body

pub kept-bounds : (body : List ℕ) → kept_of (decode body) ≡ true → InBounds (task_of (decode body))
kept-bounds body e = let f = walked_task body (blocks_of (decode body)) (starts_of (decode body)) e refl refl in rw f.same f.bounds

-- ---- the graphs

-- equal widths, sets, rows and first rows make the same graph
pub same_graph : {w w' blocks first : ℕ} {sets sets' leaving leaving' entering entering' row row' : List ℕ}
    → w ≡ w' → sets ≡ sets' → leaving ≡ leaving' → entering ≡ entering' → row ≡ row'
    → graph_of w blocks sets leaving entering first row ≡ graph_of w' blocks sets' leaving' entering' first row'
same_graph {blocks = blocks} {first = first} ew es el ee er = λ i. record { width = ew i; blocks = blocks; sets = es i; leaving = el i; entering = ee i; first = first; row = er i }

-- the code's graph, where it means g: what gathering along it takes, and what is said of it
pub graph_asks : (graph : BlockGraph) {g : Graph} {rows counts : List ℕ} → graph_meant graph ≡ g
    → GatherInput g.width g.blocks g.sets g.leaving g.entering g.first rows counts → GraphInput graph rows counts
graph_asks graph {rows = rows} {counts = counts} e = subst (λ (m : Graph). GatherInput m.width m.blocks m.sets m.leaving m.entering m.first rows counts) (sym e)

pub graph_told : (In : Graph → List ℕ → List ℕ → Bool → Type 0) (graph : BlockGraph) {g : Graph} {rows counts : List ℕ} {full : Bool} → graph_meant graph ≡ g
    → In (graph_meant graph) rows counts full → In g rows counts full
graph_told In graph {rows = rows} {counts = counts} {full = full} = subst (λ (m : Graph). In m rows counts full)

-- the graph of live states, of the sets of predecessors turned round from those of successors
pub live_turned : (w blocks : ℕ) (sets first : List ℕ) (graph : BlockGraph) {before : List ℕ} → before ≡ turned sets blocks
    → graph_meant graph ≡ live_along w blocks before first → graph_meant graph ≡ live_of w blocks sets first
live_turned w blocks sets first graph e h = h ∙ ap (λ (s : List ℕ). live_along w blocks s first) e

-- what gathering takes
module _ (w blocks : ℕ) {sets rows counts : List ℕ} (width : Width w) (some : 0 < blocks) (few : blocks ≤ 24) (each : length sets ≡ 24)
    (long : length rows ≡ kind_length w) (many : length counts ≡ 24) where
  pub reach_input : {last : List ℕ} → length last ≡ 24 * w → GatherInput w blocks sets (no_rows w) last 0 rows counts
  reach_input e = record {
    width = width;
    few = few;
    inside = some;
    each = each;
    leaves = length-replicate (24 * w) nothing;
    enters = e;
    long = long;
    many = many;
  }

  pub live_input : {first : List ℕ} → length first ≡ 24 * w → GatherInput w blocks sets first (no_rows w) (blocks - 1) rows counts
  live_input e = record {
    width = width;
    few = few;
    inside = omega arith;
    each = each;
    leaves = e;
    enters = length-replicate (24 * w) nothing;
    long = long;
    many = many;
  }

-- ---- both kinds in a work area, one part after the other

module _ (kind : ℕ) (area new : List ℕ) (long : length area ≡ 2 * kind + 256) (size : length new ≡ kind) where
  -- the area once the reaching states are in its first part
  abbrev half : List ℕ
  half = put_mid 0 (kind - 0) area new

  half_is : half ≡ new ++ drop kind area
  half_is = ap (λ (i : ℕ). new ++ drop i area) (sub-zero kind)

  pub half_long : length half ≡ 2 * kind + 256
  half_long = ap length half_is ∙ length-append new (drop kind area) ∙ rw (size, length-drop kind area, long) (omega arith)

  half_first : take kind half ≡ new
  half_first = ap (take kind) half_is ∙ take_at new (drop kind area) kind size

  -- the part for the live states
  pub half_live : length (take (kind + kind - kind) (drop kind half)) ≡ kind
  half_live =
      let e : kind + kind - kind ≡ kind = omega arith in
      rw e (length-take-le kind (drop kind half) (rw (length-drop kind half, half_long) (omega arith)))

  module _ (live : List ℕ) (size' : length live ≡ kind) where
    -- and the live states in its second part
    abbrev whole : List ℕ
    whole = put_mid kind (kind + kind - kind) half live

    whole_is : whole ≡ take kind half ++ (live ++ drop (kind + kind) half)
    whole_is = lent_back kind kind half live

    fits : kind + kind ≤ length half
    fits = rw half_long (omega arith)

    pub whole_long : length whole ≡ 2 * kind + 256
    whole_long = ap length whole_is ∙ replaced_length half live kind kind fits size' ∙ half_long

    pub whole-first : take kind whole ≡ new
    whole-first = ap (take kind) whole_is ∙ replaced_before half live kind kind fits size' kind 0 (omega arith) ∙ half_first

    pub whole_second : take kind (drop kind whole) ≡ live
    whole_second = ap (λ (l : List ℕ). take kind (drop kind l)) whole_is ∙ replaced_here half live kind kind fits size'

module _ (r l : Graph) (area new : List ℕ) (long : length area ≡ area_length r.width) {counts : List ℕ} {first : Bool} (h : GatheredAs r new counts first) where
  abbrev n : ℕ
  n = kind_length r.width

  pub both_full : {lived : List ℕ} → first ≡ true → length lived ≡ 24 → BothGathered r l (put_mid 0 (kind_length r.width - 0) area new) counts lived true
  both_full e many = record {
    long = half_long n area new long h.long;
    many = many;
    first = first;
    reaching = rw (half_first n area new long h.long) h;
    stopped = λ q. refl;
    live = λ q. absurd (true≢false (sym e ∙ q));
  }

  pub both-all : {live lived : List ℕ} {full : Bool} → first ≡ false → l.width ≡ r.width → GatheredAs l live lived full
      → BothGathered r l (put_mid (kind_length r.width) (kind_length r.width + kind_length r.width - kind_length r.width) (put_mid 0 (kind_length r.width - 0) area new) live) counts lived full
  both-all {live} e same g =
      let size : length live ≡ kind_length r.width = g.long ∙ ap kind_length same in
      record {
        long = whole_long n area new long h.long live size;
        many = g.many;
        first = first;
        reaching = rw (whole-first n area new long h.long live size) h;
        stopped = λ q. absurd (true≢false (sym q ∙ e));
        live = λ q. rw (whole_second n area new long h.long live size) g;
      }

-- ---- the states of a task

-- rows that were gathered, in some order
pub held-sorted : {w : ℕ} {all : ℕ → List (List ℕ)} {rows counts : List ℕ} (b : ℕ) → GatheredRows w all rows counts b → sorted (held_rows w rows counts b) ≡ all b
held-sorted b g = rw g.count g.list

module _ (k : Cache) (t : Task) (bounds : InBounds t) {blocks : ℕ} {sets : List ℕ} (eb : blocks ≡ length t) (es : sets ≡ jump_sets t) where
  abbrev w : ℕ
  w = k.width

  real : All Real (memory_blocks t)
  real = blocks-real (length t) t bounds.each

  pub reach_same : {last : List ℕ} → last ≡ last_rows k t → reach_of w blocks sets last ≡ reach_graph k t
  reach_same el = λ i. record {
    width = w;
    blocks = eb i;
    sets = es i;
    leaving = no_rows w;
    entering = el i;
    first = 0;
    row = (ap (λ l. row_at w l 0) el ∙ last-at k t 0 bounds.some) i;
  }

  pub live_same : {first : List ℕ} → first ≡ first_rows k t → live_of w blocks sets first ≡ live_graph k t
  live_same ef = λ i. record {
    width = w;
    blocks = eb i;
    sets = turned_predecessors t blocks sets bounds (sym eb) es i;
    leaving = ef i;
    entering = no_rows w;
    first = eb i - 1;
    row = replicate w nothing;
  }

  reach_listing : Listed (reach_graph k t) (reaching k t)
  reach_listing = reach_listed k t bounds.few bounds.some real (jumps-inside t bounds)

  live_listing : Listed (live_graph k t) (living k t)
  live_listing = live_listed k t bounds.few bounds.some real (jumps-inside t bounds)

  pub reaching_kind : {last rows counts : List ℕ} {full : Bool} → last ≡ last_rows k t → GatheredAs (reach_of k.width blocks sets last) rows counts full
      → KindRows k.width (reaching k t) rows counts full
  reaching_kind {rows = rows} {counts = counts} {full = full} el h =
      let there = subst (λ g. GatheredAs g rows counts full) (reach_same el) h in
      record {
        long = h.long;
        many = h.many;
        answer = there.answer (reaching k t) reach_listing;
        gathered = λ q. there.gathered q (reaching k t) reach_listing;
      }

  module _ {area reached lived : List ℕ} {full : Bool} (h : BothGathered (reach_graph k t) (live_graph k t) area reached lived full) where
    pub task-rows : (b : Bool) → h.first ≡ b → TaskRows k t (take (kind_length k.width) area) reached (take (kind_length k.width) (drop (kind_length k.width) area)) lived full
    task-rows true e = record {
      reaching_long = h.reaching.long;
      reaching_many = h.reaching.many;
      live_long = length-take-le (kind_length w) (drop (kind_length w) area) (rw (length-drop (kind_length w) area, h.long) (omega arith));
      live_many = h.many;
      answer = h.stopped e ∙ ap (λ x. x || too_many (living k t) 24) (sym e ∙ h.reaching.answer (reaching k t) reach_listing);
      reached = λ q. absurd (true≢false (sym (h.stopped e) ∙ q));
      lived = λ q. absurd (true≢false (sym (h.stopped e) ∙ q));
    }
    task-rows false e = record {
      reaching_long = h.reaching.long;
      reaching_many = h.reaching.many;
      live_long = (h.live e).long;
      live_many = h.many;
      answer = (h.live e).answer (living k t) live_listing ∙ ap (λ x. x || too_many (living k t) 24) (sym e ∙ h.reaching.answer (reaching k t) reach_listing);
      reached = λ q. h.reaching.gathered e (reaching k t) reach_listing;
      lived = λ q. (h.live e).gathered q (living k t) live_listing;
    }

  pub area_told : {area reached lived : List ℕ} {full : Bool} → BothGathered (reach_graph k t) (live_graph k t) area reached lived full → AreaRows k t area reached lived full
  area_told h = record { long = h.long; rows = task-rows h h.first refl }

  pub area_rows : {first last area reached lived : List ℕ} {full : Bool} → first ≡ first_rows k t → last ≡ last_rows k t
      → BothGathered (reach_of k.width blocks sets last) (live_of k.width blocks sets first) area reached lived full → AreaRows k t area reached lived full
  area_rows {area = area} {reached = reached} {lived = lived} {full = full} ef el h =
      area_told (subst (λ (g : Graph × Graph). BothGathered g.0 g.1 area reached lived full) (λ i. (reach_same el i, live_same ef i)) h)
