-- `part::Part::refer_part` meets its contract, with a loop.
-- The invariant: what is left of the part, run from here, gives what the whole part gives from the start, and there is room for what it counts.
use Rattle.std.specs.Prelude.{◌≡◌, ◌+◌, ◌^◌, ◌<◌, length}
use Rattle.cache.specs.Shape.{shaped}
use Rattle.model.specs.Runs.{own_references}
use Rattle.body.specs.Decode.{decode, task_of}
use Rattle.runs.specs.Running.{held}
use Rattle.runs.specs.Parts.{part_of}
use Rattle.runs.proofs.PartTurns.{part_left}
use Rattle.runs.proofs.part.Part.refer_part.Given as goal

abbrev pub invariant-loop-x : goal.invariant-loop-x
invariant-loop-x l =
    let t = task_of (decode l.self.on.body.now) in
    (l.cache.misses + length (part_left t l.self.on.path.now l.self.from l.self.to l.x) < 2 ^ 32)
    × (own_references (shaped 32 l.shape) (held l.cache) (part_left t l.self.on.path.now l.self.from l.self.to l.x)
    ≡ own_references (shaped 32 l.shape) (held l.fn.cache) (part_of t l.self.on.path.now l.self.from l.self.to))
