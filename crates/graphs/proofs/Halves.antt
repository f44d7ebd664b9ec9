-- What is kept along two graphs, one part of a work area after the other, whatever is said of each.
use mathlib.Core.Path.{◌≡◌, refl, sym, ap, subst, ◌∙◌}
use mathlib.Core.Bool.{Bool, true, false, true≢false}
use mathlib.Core.List.{List, ◌++◌}
use Prim.Native.Nat.{ℕ, ◌+◌, ◌-◌}
use native.Mathlib.Nat.{sub-zero}
use lib.ListN.{length, take, drop}
use lib.Seq.{take_at}
use borrow.Rule.Slice.PartMut.{put_mid}
use Rattle.cache.specs.Cache.{Cache}
use Rattle.model.specs.Tasks.{Task}
use Rattle.body.specs.Layout.{InBounds}
use Rattle.body.specs.Jumps.{jump_sets}
use Rattle.rows.specs.Rows.{kind_length, area_length}
use Rattle.gather.specs.Graph.{Graph}
use Rattle.graphs.specs.Graphs.{first_rows, last_rows, reach_graph, live_graph, reach_of, live_of}
use Rattle.graphs.proofs.Gathered.{half_long, whole_long, whole-first, whole_second, reach_same, live_same}
use Rattle.graphs.specs.TaskRows.{Both, Sizes}

-- the first part, once it is written
half_first : (kind : ℕ) (area new : List ℕ) → length new ≡ kind → take kind (put_mid 0 (kind - 0) area new) ≡ new
half_first kind area new size = ap (λ (i : ℕ). take kind (new ++ drop i area)) (sub-zero kind) ∙ take_at new (drop kind area) kind size

-- `In` says what is kept along one graph
module _ (In : Graph → List ℕ → List ℕ → Bool → Type 0)
    (sizes : Sizes In) (r l : Graph)
    (area new : List ℕ) (long : length area ≡ area_length r.width) {counts : List ℕ} {first : Bool} (h : In r new counts first) where
  abbrev n : ℕ
  n = kind_length r.width

  size_first : length new ≡ n
  size_first = (sizes r new counts first h).0

  pub both_full : {lived : List ℕ} → first ≡ true → length lived ≡ 24 → Both In r l (put_mid 0 (kind_length r.width - 0) area new) counts lived true
  both_full e many = record {
    long = half_long n area new long size_first;
    many = many;
    first = first;
    reaching = rw (half_first n area new size_first) h;
    stopped = λ q. refl;
    live = λ q. absurd (true≢false (sym e ∙ q));
  }

  pub both_all : {live lived : List ℕ} {full : Bool} → first ≡ false → l.width ≡ r.width → In l live lived full
      → Both In r l (put_mid (kind_length r.width) (kind_length r.width + kind_length r.width - kind_length r.width) (put_mid 0 (kind_length r.width - 0) area new) live) counts lived full
  both_all {live} {lived} {full} e same g =
      let (rows_size, counts_size) = sizes l live lived full g in
      let size : length live ≡ kind_length r.width = rows_size ∙ ap kind_length same in
      record {
        long = whole_long n area new long size_first live size;
        many = counts_size;
        first = first;
        reaching = rw (whole-first n area new long size_first live size) h;
        stopped = λ q. absurd (true≢false (sym q ∙ e));
        live = λ q. rw (whole_second n area new long size_first live size) g;
      }

-- in the code's words
pub both_same : (k : Cache) (t : Task) (bounds : InBounds t) {blocks : ℕ} {sets : List ℕ} (eb : blocks ≡ length t) (es : sets ≡ jump_sets t)
    (In : Graph → List ℕ → List ℕ → Bool → Type 0) {first last area reached lived : List ℕ} {full : Bool} → first ≡ first_rows k t → last ≡ last_rows k t
    → Both In (reach_of k.width blocks sets last) (live_of k.width blocks sets first) area reached lived full → Both In (reach_graph k t) (live_graph k t) area reached lived full
both_same k t bounds eb es In {area = area} {reached = reached} {lived = lived} {full = full} ef el h =
    subst (λ (g : Graph × Graph). Both In g.0 g.1 area reached lived full) (λ i. (reach_same k t bounds eb es el i, live_same k t bounds eb es ef i)) h
