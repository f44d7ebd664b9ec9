-- `write::Place::write_on` meets its contract: the blocks that are written and those that are to come are together the way on. Assumes nothing.
use mathlib.Core.Path.{◌≡◌}
use mathlib.Core.List.{◌++◌}
use Prim.Native.Nat.{◌-◌, ◌<◌}
use lib.ListN.{length, take}
use Rattle.trails.specs.Trails.{parent_at, way_back}
use Rattle.trails.proofs.write.Place.write_on.Given as goal

abbrev pub invariant-loop-block : goal.invariant-loop-block
invariant-loop-block l =
    let long = length l.fn.out in
    let trails = l.self.trails.now in
    (length l.block-items ≡ long) × (l.at < 768)
    × (take l.block-index l.block-items ++ way_back (long - l.block-index) trails (parent_at trails l.at) ≡ way_back long trails (parent_at trails l.self.at))
