-- `part::Part::refer_part_both` meets its contract, with a loop.
-- The invariant: what is left of the part, run from here, gives what the whole part gives from the start, and there is room for what it counts.
use Rattle.std.specs.Prelude.{◌≡◌, length}
use Rattle.cache.specs.Shape.{shaped}
use Rattle.body.specs.Decode.{decode, task_of}
use Rattle.runs.specs.Running.{held, both, CountsFit, own_both}
use Rattle.runs.specs.Parts.{part_of}
use Rattle.runs.proofs.PartTurns.{part_left}
use Rattle.runs.proofs.part.Part.refer_part_both.Given as goal

abbrev pub invariant-loop-x : goal.invariant-loop-x
invariant-loop-x l =
    let t = task_of (decode l.self.on.body.now) in
    let now = both (held l.undisturbed) (held l.disturbed) l.so_far in
    CountsFit now (length (part_left t l.self.on.path.now l.self.from l.self.to l.x))
    × (own_both (shaped 32 l.shape) now (part_left t l.self.on.path.now l.self.from l.self.to l.x)
    ≡ own_both (shaped 32 l.shape) (both (held l.fn.undisturbed) (held l.fn.disturbed) l.lost) (part_of t l.self.on.path.now l.self.from l.self.to))
