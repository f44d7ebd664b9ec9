-- `left::rests_in` meets its contract: from d on the rows are those of what is left. Assumes nothing.
use mathlib.Core.Path.{◌≡◌}
use Prim.Native.Nat.{◌*◌, ◌≤◌}
use lib.ListN.{length}
use Rattle.cache.specs.References.{numbers}
use Rattle.cache.specs.Shape.{shaped}
use Rattle.points.specs.Points.{rest_of}
use Rattle.points.proofs.Rests.{RestsFrom}
use Rattle.points.proofs.left.rests_in.Given as goal

abbrev pub invariant-loop-d : goal.invariant-loop-d
invariant-loop-d l =
    (l.d ≤ length (numbers l.references)) × (length l.rest ≡ length l.initial.rest) × (length l.rests ≡ 17 * length l.initial.rest)
    × (l.rest ≡ rest_of (shaped (length l.initial.rest) l.shape) (numbers l.references) l.d) × RestsFrom (shaped (length l.initial.rest) l.shape) (numbers l.references) l.rests l.d
