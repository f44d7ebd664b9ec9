-- `both_runs::refer_both` meets its contract, with a loop.
-- The invariant: what is left of the references, made from here, gives what all of them give from the start, and there is room for what it counts.
use Rattle.std.specs.Prelude.{◌≡◌, ◌-◌, ◌/◌, length, drop}
use Rattle.cache.specs.References.{numbers}
use Rattle.cache.specs.Shape.{shaped}
use Rattle.runs.specs.Running.{held, both, CountsFit, own_both}
use Rattle.runs.proofs.both_runs.refer_both.Given as goal

abbrev pub invariant-loop-i : goal.invariant-loop-i
invariant-loop-i l =
    CountsFit (both (held l.undisturbed) (held l.disturbed) l.so_far) (length l.references / 2 - l.i)
    × (own_both (shaped 32 l.shape) (both (held l.undisturbed) (held l.disturbed) l.so_far) (drop l.i (numbers l.references))
    ≡ own_both (shaped 32 l.shape) (both (held l.fn.undisturbed) (held l.fn.disturbed) l.lost) (numbers l.references))
