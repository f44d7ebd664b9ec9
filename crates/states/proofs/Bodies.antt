-- The sorted area of a task's body is the one that the definitions ask for; where a block has too many rows, check 11 fails.
-- The idea: each of the two kinds is told block by block by what gathering leaves.
use mathlib.Core.Path.{◌≡◌, sym, ap₂, ◌∙◌}
use mathlib.Core.Bool.{Bool, false}
use mathlib.Core.List.{List, ◌++◌}
use Prim.Native.Nat.{ℕ}
use lib.ListN.{length, take, drop, replicate}
use Rattle.cache.specs.Cache.{Cache}
use Rattle.model.specs.Tasks.{Task}
use Rattle.model.specs.Computed.{reaching, living}
use Rattle.rows.specs.Rows.{Width, kind_length, area_length}
use Rattle.gather.specs.Graph.{too_many}
use Rattle.graphs.specs.TaskRows.{test11, AreaRows}
use Rattle.project.proofs.Accepted.{or_false_left, or_false_right}
use Rattle.area.specs.Area.{area_of}
use Rattle.states.specs.Filling.{BodyStates}
use Rattle.area.specs.Kinds.{Distinct, sorted_area}
use Rattle.area.proofs.Areas.{Held, kind_distinct, kind_parts, kind_counts}

module _ {k : Cache} {t : Task} {area reached lived : List ℕ} {full : Bool} (gathered : AreaRows k t area reached lived full) where
  abbrev w : ℕ
  w = k.width

  abbrev reaching_rows : List ℕ
  reaching_rows = take (kind_length w) area

  abbrev live_rows : List ℕ
  live_rows = take (kind_length w) (drop (kind_length w) area)

  module _ (width : Width w) (fits : full ≡ false) where
    none : test11 k t ≡ false
    none = sym gathered.rows.answer ∙ fits

    held-reaching : Held w (reaching k t) reaching_rows reached
    held-reaching =
        record {
          width = width;
          long = gathered.rows.reaching_long;
          many = gathered.rows.reaching_many;
          none = or_false_left (too_many (reaching k t) 24) (too_many (living k t) 24) none;
          each = gathered.rows.reached fits;
        }

    held-living : Held w (living k t) live_rows lived
    held-living =
        record {
          width = width;
          long = gathered.rows.live_long;
          many = gathered.rows.live_many;
          none = or_false_right (too_many (reaching k t) 24) (too_many (living k t) 24) none;
          each = gathered.rows.lived fits;
        }

    -- what sorting the area asks for
    pub body_distinct : (length area ≡ area_length w) × Distinct w reaching_rows reached × Distinct w live_rows lived
    body_distinct = (gathered.long, kind_distinct (reaching k t) reaching_rows reached held-reaching, kind_distinct (living k t) live_rows lived held-living)

    sorted-is : sorted_area w area reached lived ≡ area_of k t
    unfolding sorted_area
    sorted-is =
        ap₂ (λ (x y : List ℕ). x ++ y) (kind_parts (reaching k t) reaching_rows reached held-reaching)
        (ap₂ (λ (x y : List ℕ). x ++ y) (kind_parts (living k t) live_rows lived held-living)
        (ap₂ (λ (x y : List ℕ). x ++ (y ++ replicate 208 0)) (kind_counts (reaching k t) reaching_rows reached held-reaching) (kind_counts (living k t) live_rows lived held-living)))

    pub body-filled : {new : List ℕ} → length new ≡ area_length w → new ≡ sorted_area w area reached lived → BodyStates k t new false
    body-filled h q = record { long = h; answer = sym none; filled = λ _. q ∙ sorted-is }
