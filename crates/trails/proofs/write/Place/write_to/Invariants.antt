-- `write::Place::write_to` meets its contract: the blocks that are written and those that are to come are together the path. Assumes nothing.
use mathlib.Core.Path.{◌≡◌}
use mathlib.Core.List.{◌++◌}
use Prim.Native.Nat.{◌-◌, ◌<◌}
use lib.ListN.{length, drop}
use Rattle.trails.specs.Trails.{way_to}
use Rattle.trails.proofs.write.Place.write_to.Given as goal

abbrev pub invariant-loop-k : goal.invariant-loop-k
invariant-loop-k l =
    (length l.out ≡ length l.initial.out) × (l.at < 768)
    × (way_to (length l.initial.out - l.k) l.self.trails.now l.at ++ drop (length l.initial.out - l.k) l.out ≡ way_to (length l.initial.out) l.self.trails.now l.self.at)
