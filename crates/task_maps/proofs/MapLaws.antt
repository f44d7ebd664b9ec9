-- What is found for each task of a file, task after task: the map of task j that is set leaves those before it as they are.
use mathlib.Core.Path.{◌≡◌, refl, ◌∙◌}
use mathlib.Core.Bool.{Bool, true, false}
use mathlib.Core.List.{List}
use Prim.Native.Nat.{ℕ, ◌+◌, ◌<◌}
use native.Mathlib.Nat.{not-suc-le-zero}
use native.Mathlib.Omega.{arith}
use lib.Dec.{eqb}
use lib.ListN.{length, get_or, set, length-set}
use lib.Seq.{get_or-set_same, get_or-set_other}
use borrow.Author.Tests.{eqb-true, eqb-false}
use Rattle.project.specs.File.{body_of}
use Rattle.task_maps.specs.declared.TaskMap.{TaskMap}
use Rattle.task_maps.specs.TaskMaps.{IsMapOf, no_map, MapsBelow}

pub maps_none : (s : List ℕ) (maps : List TaskMap) → length maps ≡ 8 → MapsBelow s 0 maps
maps_none s maps e = record { long = e; each = λ i l. absurd (not-suc-le-zero l) }

pub maps_turn : (s : List ℕ) (j : ℕ) (maps : List TaskMap) {new : TaskMap} → j < 8 → MapsBelow s j maps → IsMapOf (body_of s j) new → MapsBelow s (j + 1) (set maps j new)
maps_turn s j maps {new} few so_far is =
    record { long = length-set maps j new ∙ so_far.long; each = λ i l. at i l (eqb i j) refl }
  where
    at : (i : ℕ) → i < j + 1 → (b : Bool) → eqb i j ≡ b → IsMapOf (body_of s i) (get_or (set maps j new) i no_map)
    at i l true e = rw (eqb-true i j e, get_or-set_same maps j new no_map (omega (arith, so_far.long))) is
    at i l false e =
        let d = eqb-false i j e in
        rw (get_or-set_other maps j i new no_map d) (so_far.each i (omega (arith, d)))
